-- The digests that are taken once are those that each rule needs of each bundle.
use Rattle.std.proofs.Common.{◌≡◌, List, [], ◌∷◌, true, Result, Ok, Err, refl}
use Rattle.std.specs.List.{AllByRecursion, list_any, list_all}
use Rattle.sigstore_types_parts.specs.HashAlgorithm.{same_algorithm}
use Rattle.sigstore_types_parts.specs.declared.hash_algorithm.HashAlgorithm.{HashAlgorithm}
use Rattle.sigstore_types_parts.specs.declared.hash_algorithm.HashAlgorithm.TheVariants.{Sha2256, Sha2384, Sha2512, Sha3256, Sha3384}
use Rattle.sigstore_types.specs.declared.bundle.Bundle.{Bundle}
use Rattle.sigstore_keys.specs.Digest.{is_hashed}
use Rattle.sigstore_policy.specs.Policy.{Meaning}
use Rattle.sigstore_judgement.specs.declared.error.Error.{Error}
use Rattle.sigstore_judgement.specs.Artifact.{read_kind}
use Rattle.sigstore_judgement.specs.Judged.{Ready, prepared_of, needed_in}
use Rattle.sigstore_judgement.proofs.Stages.{prepared_hashed}
use Rattle.sigstore_verify.specs.ByDigests.{TellsNeeded}
use Rattle.sigstore_verify.proofs.ToldLaw.{stand_for_bytes}
use Rattle.command_bundles.specs.Judging.{hashed}
use Rattle.command_bundles.specs.Laws.{asked_over, VerdictsOverBytes}

-- an algorithm of which some is among those that have a hasher is among all of these
among : (a : HashAlgorithm) (list : List HashAlgorithm) → list_all is_hashed list ≡ true → list_any (same_algorithm a) list ≡ true
    → list_any (same_algorithm a) hashed ≡ true
among Sha2256 list h k = refl
among Sha2384 list h k = refl
among Sha2512 list h k = refl
among Sha3256 [] h k = cc
among Sha3256 (Sha2256 ∷ list) h k = among Sha3256 list h k
among Sha3256 (Sha2384 ∷ list) h k = among Sha3256 list h k
among Sha3256 (Sha2512 ∷ list) h k = among Sha3256 list h k
among Sha3256 (Sha3256 ∷ list) h k = cc
among Sha3256 (Sha3384 ∷ list) h k = cc
among Sha3384 [] h k = cc
among Sha3384 (Sha2256 ∷ list) h k = among Sha3384 list h k
among Sha3384 (Sha2384 ∷ list) h k = among Sha3384 list h k
among Sha3384 (Sha2512 ∷ list) h k = among Sha3384 list h k
among Sha3384 (Sha3256 ∷ list) h k = cc
among Sha3384 (Sha3384 ∷ list) h k = cc

tells : (bundle : Bundle) (policy : Meaning) → TellsNeeded hashed bundle policy
tells bundle policy = by (prepared_of read_kind policy bundle) refl
  where
    by : (r : Result Ready Error) → prepared_of read_kind policy bundle ≡ r → (a : HashAlgorithm) → list_any (same_algorithm a) (needed_in r) ≡ true
        → list_any (same_algorithm a) hashed ≡ true
    by (Ok ready) p a k = among a ready.needed (prepared_hashed read_kind policy bundle ready refl p) k
    by (Err e) p a k = cc

all_tell : (bundle : Bundle) (rules : List Meaning) → AllByRecursion (TellsNeeded hashed bundle) rules
all_tell bundle [] = tt
all_tell bundle (policy ∷ rules) = (tells bundle policy, all_tell bundle rules)

pub over_bytes : VerdictsOverBytes
over_bytes given file bytes text = stand_for_bytes (asked_over given text) file bytes hashed (λ bundle read. all_tell bundle given.rules)
