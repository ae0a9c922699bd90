-- The lines of digests, one after the other.
use Rattle.std.proofs.Common.{◌≡◌, ℕ, ◌+◌, ◌<◌, List, ◌∷◌, ◌++◌, length, drop, get_or, codes, sym, ap, ◌∙◌, add-one, drop-cons}
use Rattle.sigstore_types_parts.specs.declared.hash_algorithm.HashAlgorithm.{HashAlgorithm}
use Rattle.sigstore_types_parts.specs.HashAlgorithm.{rekor_name_of}
use Rattle.command_files.specs.Printed.{hex_line}
use Rattle.command_verify.specs.Report.{digests_added}

abbrev Digest : Type 0
Digest = HashAlgorithm × List ℕ

first_of : (ds : List Digest) (i : ℕ) (d : Digest) → i < length ds → drop i ds ≡ get_or ds i d ∷ drop (i + 1) ds
first_of ds i d h = rw (add-one, drop-cons ds i d)

pub digests_more : (whole text new name bytes : List ℕ) (ds : List Digest) (i : ℕ) (d : Digest) → i < length ds → d ≡ get_or ds i d
    → whole ≡ digests_added text (drop i ds) → name ≡ rekor_name_of d.0 → bytes ≡ d.1
    → new ≡ text ++ hex_line (codes "artifact") name bytes → whole ≡ digests_added new (drop (i + 1) ds)
digests_more whole text new name bytes ds i d less is before named held after =
    let line : List ℕ → List ℕ → List ℕ = λ n b. text ++ hex_line (codes "artifact") n b in
    before ∙ ap (digests_added text) (first_of ds i d less) ∙ ap (λ (e : Digest). digests_added (line (rekor_name_of e.0) e.1) (drop (i + 1) ds)) (sym is)
    ∙ ap (λ n. digests_added (line n d.1) (drop (i + 1) ds)) (sym named) ∙ ap (λ b. digests_added (line name b) (drop (i + 1) ds)) (sym held)
    ∙ ap (λ t. digests_added t (drop (i + 1) ds)) (sym after)
