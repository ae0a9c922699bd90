-- A signature over a digest that was taken by the scheme's algorithm.
use Rattle.std.proofs.Common.{◌≡◌, ℕ, List, [], ◌∷◌, length, nat_eq, Bool, true, false, ◌&&◌, cond, if◌then◌else◌, Option, Some, option_map, find}
use Rattle.std.proofs.Common.{Result, Ok, Err, is_ok, refl, sym, ap, ◌∙◌, subst}
use Rattle.std.specs.Prelude.{⊤}
use Rattle.foundation.specs.Results.{some_same}
use Rattle.foundation.specs.Steps.{◌>>=◌}
use Rattle.sigstore_types_parts.specs.HashAlgorithm.{same_algorithm, digest_len_of}
use Rattle.sigstore_types_parts.specs.declared.hash_algorithm.HashAlgorithm.{HashAlgorithm}
use Rattle.sigstore_types_parts.specs.declared.hash_algorithm.HashAlgorithm.TheVariants.{Sha2256, Sha2384, Sha2512, Sha3256, Sha3384}
use Rattle.sigstore_keys.specs.declared.error.Error.{Error}
use Rattle.sigstore_keys.specs.declared.error.Error.TheVariants.{Verification}
use Rattle.sigstore_keys.specs.declared.error.VerificationFault.TheVariants as fault
use Rattle.sigstore_keys.specs.declared.key.VerificationKey.{VerificationKey}
use Rattle.sigstore_keys.specs.Good.{Judge, is_raw_key, accepted_of, judged_over, is_good_over, sized_digest_of, prehashed_of}
use Rattle.sigstore_keys.specs.Scheme.{key_algorithm_of, digest_algorithm_of}
use Rattle.sigstore_judgement.specs.Artifact.{digest_among}
use Rattle.sigstore_judgement.specs.Content.{subject_by, is_good_of, is_artifact_signed}
use Rattle.sigstore_judgement.proofs.KnownArtifact.{same_is}

-- ---- the digest that is found is of the algorithm that is asked for

abbrev is_of : HashAlgorithm → HashAlgorithm × List ℕ → Bool
is_of a taken = same_algorithm taken.0 a

first_or : (x d : HashAlgorithm × List ℕ) (xs : List (HashAlgorithm × List ℕ)) (a : HashAlgorithm) (t : Bool) → is_of a x ≡ t → (find (is_of a) xs ≡ Some d → is_of a d ≡ true)
    → cond t (Some x) (find (is_of a) xs) ≡ Some d → is_of a d ≡ true
first_or x d xs a true e later h = subst (λ y. is_of a y ≡ true) (some_same x d h) e
first_or x d xs a false e later h = later h

found_same : (digests : List (HashAlgorithm × List ℕ)) (a : HashAlgorithm) (d : HashAlgorithm × List ℕ) → find (is_of a) digests ≡ Some d → is_of a d ≡ true
found_same [] a d h = cc
found_same (x ∷ xs) a d h = first_or x d xs a (is_of a x) refl (λ k. found_same xs a d k) h

-- ---- a signature over a subject is accepted where it is good

abbrev tested : Error → Bool → Result ⊤ Error
tested o t = if t then Ok tt else Err o

by_test : (o : Error) (t u : Bool) → is_ok (tested o t >>= λ _. accepted_of u) ≡ (t && u)
by_test o true true = refl
by_test o true false = refl
by_test o false u = refl

over : (accepts : Judge) (key : VerificationKey) (subject signature : List ℕ) → is_ok (judged_over accepts key subject signature) ≡ is_good_over accepts key subject signature
over accepts key subject signature =
    by_test (Verification fault.RawKey) (is_raw_key (key_algorithm_of key.scheme) key.key) (accepts key.scheme key.key subject signature)

same_size : (a : HashAlgorithm) → nat_eq (digest_len_of a) (digest_len_of a) ≡ true
same_size Sha2256 = refl
same_size Sha2384 = refl
same_size Sha2512 = refl
same_size Sha3256 = refl
same_size Sha3384 = refl

-- a digest of the scheme's length is judged
prehashed : (accepts : Judge) (key : VerificationKey) (a : HashAlgorithm) (digest signature : List ℕ) → digest_algorithm_of key.scheme ≡ Some a → length digest ≡ digest_len_of a
    → prehashed_of accepts key digest signature ≡ judged_over accepts key digest signature
prehashed accepts key a digest signature e size =
    ap (λ o. sized_digest_of o digest >>= λ _. judged_over accepts key digest signature) e
    ∙ ap (λ n. (if nat_eq n (digest_len_of a) then Ok tt else Err (Verification fault.DigestLength)) >>= λ _. judged_over accepts key digest signature) size
    ∙ ap (λ t. (if t then Ok tt else Err (Verification fault.DigestLength)) >>= λ _. judged_over accepts key digest signature) (same_size a)

-- what the provider says of the digest that was taken is whether the artifact is signed
pub taken_signed : (accepts : Judge) (key : VerificationKey) (digests : List (HashAlgorithm × List ℕ)) (kept : Option (List ℕ)) (a : HashAlgorithm) (d : HashAlgorithm × List ℕ) (signature : List ℕ)
    → digest_algorithm_of key.scheme ≡ Some a → find (λ taken. same_algorithm taken.0 a) digests ≡ Some d → length d.1 ≡ digest_len_of d.0
    → is_ok (prehashed_of accepts key d.1 signature) ≡ is_artifact_signed accepts key (digest_among digests) kept signature
taken_signed accepts key digests kept a d signature e f size =
    ap is_ok (prehashed accepts key a d.1 signature e (size ∙ ap digest_len_of (same_is d.0 a (found_same digests a d f))))
    ∙ over accepts key d.1 signature
    ∙ sym (
    ap (λ o. is_good_of accepts key (subject_by o (digest_among digests) kept) signature) e
    ∙ ap (λ o. is_good_of accepts key (option_map (λ (x : HashAlgorithm × List ℕ). x.1) o) signature) f
    )
