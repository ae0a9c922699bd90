-- The checks that need no memory.
use Rattle.std.proofs.Common.{◌≡◌, ◌≢◌, ℕ, List, [], ◌∷◌, Bool, true, false, Option, Some, None, Result, Ok, Err, ap, ◌∙◌}
use Rattle.std.specs.Prelude.{⊤, if◌then◌else◌}
use Rattle.std.specs.List.{list_all}
use Rattle.foundation.specs.Steps.{◌>>=◌}
use Rattle.sigstore_types_parts.specs.declared.error.TypesError.{TypesError}
use Rattle.sigstore_types_parts.specs.declared.error.TypesError.TheVariants as types
use Rattle.sigstore_entries.specs.declared.entry.TransparencyLogEntry.{TransparencyLogEntry}
use Rattle.sigstore_types.specs.declared.bundle.Bundle.{Bundle}
use Rattle.sigstore_types.specs.Bundle.{entries_in, has_proof, shown_of, structure_of}
use Rattle.sigstore_judgement.specs.declared.error.Error.{Error}
use Rattle.sigstore_judgement.specs.declared.error.Error.TheVariants as verify
use Rattle.sigstore_judgement.specs.Artifact.{Kind}
use Rattle.sigstore_judgement.specs.Error.{by_types}
use Rattle.sigstore_judgement.specs.Judged.{Ready, prepared_of}
use Rattle.sigstore_policy.specs.Policy.{Meaning, PublicKey, Certificate}
use Rattle.sigstore_judgement.specs.Signer.{Signer, material_in, certificate_in, keyed_of, named_of, signer_of, first_checks_of, IsSigner}
use Rattle.sigstore_judgement.proofs.Accepts.{signer_means, prepared_means}

abbrev shown_if : Bool → Result ⊤ TypesError
shown_if all = if all then Ok tt else Err types.NoProof

shown_never : (entries : List TransparencyLogEntry) (e : Error) → by_types (shown_of entries) ≡ Err e → e ≢ verify.NoMemory
shown_never [] e h want = cc
shown_never (entry ∷ entries) e h want = by (list_all has_proof (entry ∷ entries)) h
  where
    by : (all : Bool) → by_types (shown_if all) ≡ Err e → ⊥
    by true k = cc
    by false k = cc

pub structure_never : (bundle : Bundle) (asks : Bool) (e : Error) → by_types (structure_of bundle asks) ≡ Err e → e ≢ verify.NoMemory
structure_never bundle true e h = shown_never (entries_in bundle) e h
structure_never bundle false e h = cc

-- they passed of who signed
signer_passes : (policy : Meaning) (bundle : Bundle) (signer : Signer) → IsSigner policy bundle signer → first_checks_of policy bundle ≡ Ok tt
signer_passes (PublicKey policy) bundle signer i =
    ap (λ content. keyed_of content >>= λ _. by_types (structure_of bundle policy.verify_tlog)) i.keyed ∙ ap by_types i.structure
signer_passes (Certificate policy) bundle signer i =
    ap (λ r. by_types r >>= λ _. named_of (certificate_in bundle) >>= λ _. Ok tt) i.structure
    ∙ ap (λ o. named_of o >>= λ _. Ok tt) i.named

pub signed_passes : (policy : Meaning) (bundle : Bundle) (signer : Signer) → signer_of policy bundle ≡ Ok signer → first_checks_of policy bundle ≡ Ok tt
signed_passes policy bundle signer h = signer_passes policy bundle signer (signer_means policy bundle signer h)

-- and of what was prepared
pub prepared_passes : (kind : Kind) (policy : Meaning) (bundle : Bundle) (ready : Ready) → prepared_of kind policy bundle ≡ Ok ready
    → first_checks_of policy bundle ≡ Ok tt
prepared_passes kind policy bundle ready p =
    let q = prepared_means kind policy bundle ready p in
    signer_passes policy bundle q.signer q.is
