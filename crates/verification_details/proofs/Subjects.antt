-- A subject is told as the artifact exactly where the judgement takes it for the artifact.
use Rattle.std.proofs.Common.{◌≡◌, ◌⊎◌, inl, inr, ℕ, List, Bool, true, false, ◌||◌, Option, Some, None, refl, ap, ◌∙◌}
use Rattle.std.specs.Prelude.{option_map}
use Rattle.hex.specs.Hex.{encode_lower}
use Rattle.foundation.specs.Results.{some_same}
use Rattle.sigstore_types_parts.specs.declared.hash_algorithm.HashAlgorithm.TheVariants.{Sha2256, Sha2512}
use Rattle.sigstore_envelopes.specs.Statement.{is_spelled}
use Rattle.sigstore_judgement.specs.Artifact.{digest_among}
use Rattle.sigstore_judgement.specs.Claim.{IsSpelled}
use Rattle.verification_details.specs.Subject.{is_spelled_so}
use Rattle.verification_details.specs.Laws.{SubjectsAreJudged}

spelled : (told digest : Option (List ℕ)) → is_spelled_so told (option_map encode_lower digest) ≡ true → IsSpelled told digest
spelled None digest h = cc
spelled (Some told) None h = cc
spelled (Some told) (Some digest) h = (digest, refl, h)

passes : (told digest : Option (List ℕ)) → IsSpelled told digest → is_spelled_so told (option_map encode_lower digest) ≡ true
passes None digest w = let no : false ≡ true = w.2 in cc
passes (Some told) None w = let no = w.1 in cc
passes (Some told) (Some digest) w = ap (is_spelled (Some told)) (some_same digest w.0 w.1) ∙ w.2

either : {P Q : Type 0} (a b : Bool) → (a ≡ true → P) → (b ≡ true → Q) → (a || b) ≡ true → P ⊎ Q
either true b p q h = inl (p refl)
either false b p q h = inr (q h)

of_either : {P Q R : Type 0} → (P → R) → (Q → R) → P ⊎ Q → R
of_either p q (inl x) = p x
of_either p q (inr y) = q y

with_first : (a b : Bool) → a ≡ true → (a || b) ≡ true
with_first a b h = ap (λ x. x || b) h

with_second : (a b : Bool) → b ≡ true → (a || b) ≡ true
with_second true b h = refl
with_second false b h = h

pub subjects_are_judged : SubjectsAreJudged
subjects_are_judged digests named =
    let short = digest_among digests Sha2256 in
    let long = digest_among digests Sha2512 in
    let a = is_spelled_so named.subject.sha256 (option_map encode_lower short) in
    let b = is_spelled_so named.subject.sha512 (option_map encode_lower long) in (
      λ h. either a b (spelled named.subject.sha256 short) (spelled named.subject.sha512 long) h,
      λ s. of_either (λ w. with_first a b (passes named.subject.sha256 short w)) (λ w. with_second a b (passes named.subject.sha512 long w)) s,
    )
