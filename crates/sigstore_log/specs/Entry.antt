-- When an entry of a bundle counts as logged: it stands in the tree of a trusted log, whose checkpoint the log signed, and a promise
-- that it brings is the log's (RFC 6962, sections 2.1.1 and 3.2; C2SP tlog-checkpoint).
use Rattle.std.specs.Prelude.{ℕ, List, Option, Some, None, Result, ok_or}
use Rattle.foundation.specs.Steps.{◌>>=◌}
use Rattle.jiff_core.specs.declared.timestamp.Timestamp.{Timestamp}
use Rattle.sigstore_keys.specs.Good.{Judge}
use Rattle.sigstore_keys.specs.Keyring.{Ring}
use Rattle.sigstore_entries.specs.declared.entry.TransparencyLogEntry.{TransparencyLogEntry}
use Rattle.sigstore_entries.specs.declared.inclusion_proof.InclusionProof.{InclusionProof}
use Rattle.sigstore_log.specs.declared.error.LogError.{LogError}
use Rattle.sigstore_log.specs.declared.error.LogError.TheVariants as refusal
use Rattle.sigstore_log.specs.Inclusion.{included_of}
use Rattle.sigstore_log.specs.Signed.{checkpoint_judged, proof_signer}
use Rattle.sigstore_log.specs.Promise.{promise_judged}

-- The entry is logged, and the time that its promise tells; or the first check that fails: its proof, the checkpoint, the promise with
-- its time.
unfoldable pub logged_of : Judge → Ring → Timestamp → TransparencyLogEntry → Result (Option Timestamp) LogError
logged_of accepts logs now entry = do
  proof ← ok_or entry.inclusion_proof refusal.InclusionProof
  _ ← included_of entry proof
  _ ← checkpoint_judged accepts logs now entry.kind_version proof proof.checkpoint.checkpoint
  promise_judged accepts logs now entry entry.inclusion_promise

-- ---- in which log it stands

abbrev pub log_of_proof : Judge → Ring → Timestamp → Option InclusionProof → Option (List ℕ)
log_of_proof accepts logs now None = None
log_of_proof accepts logs now (Some proof) = proof_signer accepts logs now proof.checkpoint.checkpoint

-- the log whose checkpoint the entry's proof has
abbrev pub log_of : Judge → Ring → Timestamp → TransparencyLogEntry → Option (List ℕ)
log_of accepts logs now entry = log_of_proof accepts logs now entry.inclusion_proof
