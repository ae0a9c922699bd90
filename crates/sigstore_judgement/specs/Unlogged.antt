-- Which entry a refusal of the log is of.
use Rattle.std.specs.Prelude.{◌≡◌, ◌⊎◌, List, Contains, false, Err}
use Rattle.sigstore_types.specs.declared.bundle.Bundle.{Bundle}
use Rattle.sigstore_types.specs.Bundle.{entries_in}
use Rattle.sigstore_entries.specs.declared.entry.TransparencyLogEntry.{TransparencyLogEntry}
use Rattle.sigstore_log.specs.declared.error.LogError.{LogError}
use Rattle.sigstore_log.specs.Cause.{LogCause}
use Rattle.sigstore_log.specs.Promise.{told_time}
use Rattle.sigstore_judgement.specs.declared.error.Error.TheVariants.{TransparencyLog}
use Rattle.sigstore_judgement.specs.declared.error.TransparencyLogError.{TransparencyLogError}
use Rattle.sigstore_judgement.specs.declared.error.TransparencyLogError.TheVariants.{IntegratedTime}
use Rattle.sigstore_judgement.specs.Artifact.{Artifact}
use Rattle.sigstore_judgement.specs.Entries.{is_timely, HasUndescribed}
use Rattle.sigstore_judgement.specs.Error.{error_of_log}
use Rattle.sigstore_judgement.specs.Grounds.{Grounds, Terms}
use Rattle.sigstore_judgement.specs.Judged.{judged_of}
use Rattle.sigstore_policy.specs.Policy.{Meaning}
use Rattle.sigstore_judgement.specs.Signer.{Signer, IsSigner}

-- one of the entries isn't logged, or its promise isn't its log's, and this is why
pub record HasUnlogged (grounds : Grounds) (entries : List TransparencyLogEntry) (fault : TransparencyLogError) : Type 0 where
  pub entry : TransparencyLogEntry
  pub among : Contains entries entry
  pub why : LogError
  pub named : error_of_log why ≡ TransparencyLog fault
  pub cause : LogCause grounds.crypto.accepts grounds.material.logs grounds.now entry why

-- the time that a log promised of one of the entries isn't one at which the signer's certificate was valid
pub record HasUntimely (policy : Meaning) (bundle : Bundle) (fault : TransparencyLogError) : Type 0 where
  pub signer : Signer
  pub is : IsSigner policy bundle signer
  pub entry : TransparencyLogEntry
  pub among : Contains (entries_in bundle) entry
  pub untimely : is_timely signer (told_time entry) ≡ false
  pub named : fault ≡ IntegratedTime

-- a refusal of the log comes only where an entry of the bundle isn't logged, or its promise isn't its log's, or the promised time isn't the
-- certificate's, or the entry isn't of the bundle's signature
abbrev pub LogRefusals : Type 0
LogRefusals = (terms : Terms) (bundle : Bundle) (artifact : Artifact) (fault : TransparencyLogError)
    → judged_of terms bundle artifact ≡ Err (TransparencyLog fault)
    → HasUnlogged terms.grounds (entries_in bundle) fault
    ⊎ (HasUntimely terms.policy bundle fault ⊎ HasUndescribed terms.grounds.crypto terms.policy bundle artifact (TransparencyLog fault))
