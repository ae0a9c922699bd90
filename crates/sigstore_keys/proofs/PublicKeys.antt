-- A public key that is written is read as a key of its sort.
use Rattle.std.proofs.Common.{◌≡◌, ℕ, ◌<◌, ◌%◌, true, List, [], ◌∷◌, ◌++◌, length, ◌+◌, Option, Some, None, Ok, Err, eqb, eq-eqb, refl, sym, ap, subst, ◌∙◌, arith}
use Rattle.std.proofs.lemmas.Bool.{ltb-true}
use Rattle.std.proofs.Common.{append-nil}
use Rattle.std.specs.Prelude.{slice_index, nat_lt}
use Rattle.foundation.specs.Steps.{◌>>=◌}
use Rattle.foundation.specs.Results.{ok_same, step_ok}
use Rattle.der_grammar.specs.declared.error.DerError.TheVariants.{TooLong}
use Rattle.der_grammar.specs.Outcome.{Outcome}
use Rattle.der_grammar.specs.Tlv.{IsTag, tlv, tlv_at, length_bytes, length_at, value_at, number_of}
use Rattle.der_grammar.specs.TlvLaws.{tlv_again, passed}
use Rattle.der_grammar.specs.Grammar.{framed}
use Rattle.der_grammar.specs.Types.{valid}
use Rattle.der_core.specs.Oid.{is_oid, arcs_of, later_arcs, later_at, group_at, second_octet, third_octet, fourth_octet, fifth_octet}
use Rattle.der_core.specs.Strings.{is_bit_string}
use Rattle.spki_core.specs.Reading.{contents_at, oid_at, any_at, bits_at}
use Rattle.spki_core.specs.Spki.{Algorithm, algorithm_of, algorithm_at, spki_of, spki_at, spki_view_of}
use Rattle.sigstore_keys.specs.declared.scheme.KeyAlgorithm.{KeyAlgorithm}
use Rattle.sigstore_keys.specs.declared.scheme.KeyAlgorithm.TheVariants.{EcdsaP256, EcdsaP384, Ed25519, Rsa, MlDsa44, MlDsa65, MlDsa87}
use Rattle.sigstore_keys.specs.KeyAlgorithm.{ec_oid, p256_curve}
use Rattle.sigstore_keys.specs.KeyAlgorithm.{p384_curve, rsa_oid, null, ed25519_oid, ml_dsa_oid, named_of}
use Rattle.sigstore_keys.specs.KeyPair.{key_id_of, spki_with, or_too_long, public_key_of, IsPublicKey}

abbrev identifier : List ℕ → List ℕ → Option (List ℕ) → Algorithm
identifier encoded oid parameters = record { encoded = encoded; oid = oid; parameters = parameters }

-- the identifier of a sort, as its parts
identifier_of : KeyAlgorithm → Algorithm
identifier_of EcdsaP256 = identifier (key_id_of EcdsaP256) ec_oid (Some p256_curve)
identifier_of EcdsaP384 = identifier (key_id_of EcdsaP384) ec_oid (Some p384_curve)
identifier_of Ed25519 = identifier (key_id_of Ed25519) ed25519_oid None
identifier_of Rsa = identifier (key_id_of Rsa) rsa_oid (Some null)
identifier_of MlDsa44 = identifier (key_id_of MlDsa44) (ml_dsa_oid 0x11) None
identifier_of MlDsa65 = identifier (key_id_of MlDsa65) (ml_dsa_oid 0x12) None
identifier_of MlDsa87 = identifier (key_id_of MlDsa87) (ml_dsa_oid 0x13) None

named : (sort : KeyAlgorithm) → named_of (identifier_of sort) ≡ Ok sort
unfolding identifier_of
named EcdsaP256 = refl
named EcdsaP384 = refl
named Ed25519 = refl
named Rsa = refl
named MlDsa44 = refl
named MlDsa65 = refl
named MlDsa87 = refl

id_read : (sort : KeyAlgorithm) → algorithm_of (key_id_of sort) ≡ Ok (identifier_of sort)
unfolding identifier_of algorithm_of oid_at any_at contents_at tlv_at length_at value_at number_of tlv length_bytes is_oid arcs_of later_arcs later_at group_at second_octet third_octet fourth_octet fifth_octet
id_read EcdsaP256 = refl
id_read EcdsaP384 = refl
id_read Ed25519 = refl
id_read Rsa = refl
id_read MlDsa44 = refl
id_read MlDsa65 = refl
id_read MlDsa87 = refl

-- ---- a value that was written

record Written (tag : ℕ) (contents out : List ℕ) : Type 0 where
  pub fits : length contents < 268435456
  pub whole : tlv tag contents ≡ out

written : (tag : ℕ) (contents out : List ℕ) → framed tag contents ≡ Ok out → Written tag contents out
written tag contents out h =
    let p = passed (nat_lt (length contents) 268435456) TooLong (Ok (tlv tag contents)) out h in
    record { fits = ltb-true (length contents) 268435456 p.0; whole = ok_same (tlv tag contents) out p.1 }

contents_again : (tag : ℕ) (contents rest : List ℕ) → IsTag tag → length contents < 268435456
    → contents_at tag (tlv tag contents ++ rest) ≡ Ok (contents, rest)
unfolding contents_at
contents_again tag contents rest is fits =
    rw (tlv_again tag contents rest is fits, eq-eqb tag tag refl) refl

mod_one : (n : ℕ) → eqb (n % 1) 0 ≡ true
mod_one n = eq-eqb (n % 1) 0 (omega arith)

whole_bits : (key : List ℕ) → is_bit_string (0 ∷ key) ≡ true
whole_bits [] = refl
whole_bits (b ∷ key) = mod_one (slice_index (0 ∷ b ∷ key) (length key + 1))

bits_again : (key : List ℕ) → length (0 ∷ key) < 268435456 → bits_at (tlv 3 (0 ∷ key)) ≡ Ok ((0, key), [])
unfolding bits_at
bits_again key fits =
    let again : contents_at 3 (tlv 3 (0 ∷ key)) ≡ Ok (0 ∷ key, []) =
    ap (contents_at 3) (sym (append-nil (tlv 3 (0 ∷ key)))) ∙ contents_again 3 (0 ∷ key) [] (valid 3 refl) fits in
    rw (again, whole_bits key) refl

algorithm_again : (sort : KeyAlgorithm) (rest : List ℕ) → length (key_id_of sort) < 268435456
    → algorithm_at (tlv 48 (key_id_of sort) ++ rest) ≡ Ok (identifier_of sort, rest)
unfolding algorithm_at
algorithm_again sort rest fits = rw (contents_again 48 (key_id_of sort) rest (valid 48 refl) fits, id_read sort) refl

spki_again : (sort : KeyAlgorithm) (key : List ℕ) → length (key_id_of sort) < 268435456 → length (0 ∷ key) < 268435456
    → spki_of (tlv 48 (key_id_of sort) ++ tlv 3 (0 ∷ key)) ≡ Ok (record { algorithm = identifier_of sort; unused_bits = 0; key = key })
unfolding spki_of
spki_again sort key short fits = rw (algorithm_again sort (tlv 3 (0 ∷ key)) short, bits_again key fits) refl

view_again : (sort : KeyAlgorithm) (key : List ℕ) → length (key_id_of sort) < 268435456 → length (0 ∷ key) < 268435456
    → length (tlv 48 (key_id_of sort) ++ tlv 3 (0 ∷ key)) < 268435456
    → spki_view_of (tlv 48 (tlv 48 (key_id_of sort) ++ tlv 3 (0 ∷ key))) ≡ Ok (record { algorithm = identifier_of sort; unused_bits = 0; key = key })
unfolding spki_view_of spki_at
view_again sort key short fits all =
    let contents = tlv 48 (key_id_of sort) ++ tlv 3 (0 ∷ key) in
    let again : contents_at 48 (tlv 48 contents) ≡ Ok (contents, []) =
    ap (contents_at 48) (sym (append-nil (tlv 48 contents))) ∙ contents_again 48 contents [] (valid 48 refl) all in
    rw (again, spki_again sort key short fits) refl

of_key : (r : Outcome (List ℕ)) (der : List ℕ) → or_too_long r ≡ Ok der → r ≡ Ok der
of_key (Ok x) der h = ap Ok (ok_same x der h)
of_key (Err e) der h = cc

pub is_read : (sort : KeyAlgorithm) (key der : List ℕ) → public_key_of sort key ≡ Ok der → IsPublicKey sort key der
unfolding spki_with
is_read sort key der h =
    let made = of_key (spki_with (key_id_of sort) key) der h in
    let first = step_ok (framed 48 (key_id_of sort)) (λ algorithm. framed 3 (0 ∷ key) >>= λ bits. framed 48 (algorithm ++ bits)) der made in
    let second = step_ok (framed 3 (0 ∷ key)) (λ bits. framed 48 (first.0 ++ bits)) der first.2 in
    let a = written 48 (key_id_of sort) first.0 first.1 in
    let b = written 3 (0 ∷ key) second.0 second.1 in
    let c = written 48 (first.0 ++ second.0) der second.2 in
    let parts : first.0 ++ second.0 ≡ tlv 48 (key_id_of sort) ++ tlv 3 (0 ∷ key) = ap (λ x. x ++ second.0) (sym a.whole) ∙ ap (λ x. tlv 48 (key_id_of sort) ++ x) (sym b.whole) in
    let fits = subst (λ (l : List ℕ). length l < 268435456) parts c.fits in
    record {
      spki = record { algorithm = identifier_of sort; unused_bits = 0; key = key };
      read = ap spki_view_of (sym c.whole ∙ ap (tlv 48) parts) ∙ view_again sort key a.fits b.fits fits;
      sort_is = named sort;
      whole = refl;
      key_is = refl;
    }
