-- The scheme among pairs that are tried one after the other.
use Rattle.std.proofs.Common.{◌≡◌, ℕ, ◌+◌, ◌<◌, ◌≤◌, true, false, cond, List, ◌∷◌, map, length, get_or, drop, Option, Some, None, sym, ◌∙◌, ap}
use Rattle.std.proofs.lemmas.List.{drop_more, drop_all}
use Rattle.sigstore_keys.specs.declared.pairs.SignatureAlgorithm.{SignatureAlgorithm}
use Rattle.sigstore_keys.specs.declared.scheme.SigningScheme.{SigningScheme}
use Rattle.sigstore_keys.specs.Pairs.{pair_of}
use Rattle.path_core.specs.Links.{is_pair, scheme_among}

abbrev pub scheme_from : List ℕ → List ℕ → ℕ → List SignatureAlgorithm → Option SigningScheme
scheme_from key_id signature_id i items = scheme_among key_id signature_id (map pair_of (drop i items))

first_of : (key_id signature_id : List ℕ) (i : ℕ) (items : List SignatureAlgorithm) (x : SignatureAlgorithm) → i < length items → x ≡ get_or items i x
    → scheme_from key_id signature_id i items ≡ cond (is_pair key_id signature_id (pair_of x)) (Some x.scheme) (scheme_from key_id signature_id (i + 1) items)
first_of key_id signature_id i items x h at =
    ap (λ rest. scheme_among key_id signature_id (map pair_of rest)) (drop_more items i x h)
    ∙ ap (λ y. scheme_among key_id signature_id (pair_of y ∷ map pair_of (drop (i + 1) items))) (sym at)

pub pair_past : (key_id signature_id : List ℕ) (i : ℕ) (items : List SignatureAlgorithm) (x : SignatureAlgorithm) (whole : Option SigningScheme) → i < length items → x ≡ get_or items i x
    → is_pair key_id signature_id (pair_of x) ≡ false → scheme_from key_id signature_id i items ≡ whole → scheme_from key_id signature_id (i + 1) items ≡ whole
pair_past key_id signature_id i items x whole h at other e =
    sym (first_of key_id signature_id i items x h at ∙ ap (λ b. cond b (Some x.scheme) (scheme_from key_id signature_id (i + 1) items)) other) ∙ e

pub pair_here : (key_id signature_id : List ℕ) (i : ℕ) (items : List SignatureAlgorithm) (x : SignatureAlgorithm) (whole : Option SigningScheme) → i < length items → x ≡ get_or items i x
    → is_pair key_id signature_id (pair_of x) ≡ true → scheme_from key_id signature_id i items ≡ whole → Some x.scheme ≡ whole
pair_here key_id signature_id i items x whole h at same e =
    sym (first_of key_id signature_id i items x h at ∙ ap (λ b. cond b (Some x.scheme) (scheme_from key_id signature_id (i + 1) items)) same) ∙ e

pub pair_end : (key_id signature_id : List ℕ) (i : ℕ) (items : List SignatureAlgorithm) (whole : Option SigningScheme) → length items ≤ i → scheme_from key_id signature_id i items ≡ whole → None ≡ whole
pair_end key_id signature_id i items whole h e = ap (λ rest. scheme_among key_id signature_id (map pair_of rest)) (sym (drop_all i items h)) ∙ e
