-- Whose signatures a checkpoint has (C2SP tlog-checkpoint over signed-note), and which checkpoint an inclusion proof is of.
use Rattle.std.specs.Prelude.{ℕ, List, [], ◌∷◌, Bool, true, ◌&&◌, bytes_eq, if◌then◌else◌, Option, Some, None, Result, Ok, Err}
use Rattle.std.specs.Prelude.{⊤, take}
use Rattle.std.specs.List.{list_any}
use Rattle.sha2.specs.Sha256.{sha256}
use Rattle.foundation.specs.Steps.{◌>>=◌}
use Rattle.jiff_core.specs.declared.timestamp.Timestamp.{Timestamp}
use Rattle.sigstore_keys.specs.declared.error.Error.{Error as CryptoError}
use Rattle.sigstore_keys.specs.declared.error.Error.TheVariants as crypto
use Rattle.sigstore_keys.specs.declared.error.CheckpointFault.TheVariants as fault
use Rattle.sigstore_keys.specs.declared.key.VerificationKey.{VerificationKey}
use Rattle.sigstore_keys.specs.Good.{Judge, is_good}
use Rattle.sigstore_keys.specs.Key.{spki_key_of}
use Rattle.sigstore_keys.specs.Keyring.{Ring, keys_meant, lesser, least_signer_of}
use Rattle.sigstore_entries.specs.declared.checkpoint.Checkpoint.{Checkpoint}
use Rattle.sigstore_entries.specs.declared.inclusion_proof.InclusionProof.{InclusionProof}
use Rattle.sigstore_entries.specs.declared.kind_version.KindVersion.{KindVersion}
use Rattle.sigstore_entries.specs.declared.kind_version.KindVersion.TheVariants.{HashedRekordV001, HashedRekordV002}
use Rattle.sigstore_entries.specs.declared.kind_version.KindVersion.TheVariants.{DsseV001, DsseV002, IntotoV002}
use Rattle.sigstore_entries.specs.declared.signature_line.CheckpointSignature.{CheckpointSignature}
use Rattle.sigstore_entries.specs.Checkpoint.{signed_data_of}
use Rattle.sigstore_log.specs.declared.error.LogError.{LogError}
use Rattle.sigstore_log.specs.declared.error.LogError.TheVariants as refusal

-- The lines that are looked at: the first hundred. A checkpoint has a line of its log and one of each witness; without a bound whoever
-- writes a bundle could have a long text judged for each of half a million lines. (The note package of Go refuses a note with more.)
abbrev pub looked_at : List CheckpointSignature → List CheckpointSignature
looked_at lines = take 100 lines

-- ---- under the keys of trusted logs

-- one of the keys makes the signature good
abbrev pub is_good_by : Judge → List VerificationKey → List ℕ → List ℕ → Bool
is_good_by accepts keys message signature = list_any (λ key. is_good accepts key message signature) keys

-- A line's signature is good under a key that its hint means: that of a log whose id begins with the hint, and whose window has
-- started by now (else a key that is only to be used later could vouch for a log of today). A window that has ended still counts: a
-- checkpoint tells no time, and what a log signed while its key was used shows its tree for ever, also after the log was closed.
abbrev pub is_vouched : Judge → Ring → Timestamp → List ℕ → CheckpointSignature → Bool
is_vouched accepts logs now signed line = is_good_by accepts (keys_meant line.key_id now logs) signed line.signature

-- some line's is: whoever else signed doesn't count, and takes nothing away
abbrev pub is_signed_by : Judge → Ring → Timestamp → Checkpoint → Bool
is_signed_by accepts logs now checkpoint = list_any (is_vouched accepts logs now (signed_data_of checkpoint)) (looked_at checkpoint.signatures)

-- ---- which of the logs it was

-- the log of which a line is: of those that its hint means and under whose key it is good, the one of the least id
abbrev pub line_signer : Judge → Ring → Timestamp → List ℕ → CheckpointSignature → Option (List ℕ)
line_signer accepts logs now signed line = least_signer_of accepts line.key_id now signed line.signature logs

-- the least of one that was found, and of those of lines
abbrev pub least_signer_in : (CheckpointSignature → Option (List ℕ)) → Option (List ℕ) → List CheckpointSignature → Option (List ℕ)
least_signer_in signer found [] = found
least_signer_in signer found (line ∷ lines) = least_signer_in signer (lesser found (signer line)) lines

-- A checkpoint is one log's: of those that signed it the one of the least id. Else several logs that sign one tree would count as several.
abbrev pub signer_of : Judge → Ring → Timestamp → Checkpoint → Option (List ℕ)
signer_of accepts logs now checkpoint =
    least_signer_in (line_signer accepts logs now (signed_data_of checkpoint)) None (looked_at checkpoint.signatures)

-- ---- the checkpoint of a proof

abbrev pub proof_signer : Judge → Ring → Timestamp → Option Checkpoint → Option (List ℕ)
proof_signer accepts logs now None = None
proof_signer accepts logs now (Some checkpoint) = signer_of accepts logs now checkpoint

-- the proof is of the checkpoint's tree (else the signature would be of another tree than that in which the entry was found); that of
-- hashedrekord 0.0.2 was found in the checkpoint's own
abbrev pub is_of_tree : KindVersion → InclusionProof → Checkpoint → Bool
is_of_tree HashedRekordV001 proof checkpoint = bytes_eq checkpoint.root_hash proof.root_hash
is_of_tree HashedRekordV002 proof checkpoint = true
is_of_tree DsseV001 proof checkpoint = bytes_eq checkpoint.root_hash proof.root_hash
is_of_tree DsseV002 proof checkpoint = bytes_eq checkpoint.root_hash proof.root_hash
is_of_tree IntotoV002 proof checkpoint = bytes_eq checkpoint.root_hash proof.root_hash

-- a checkpoint is there, of the proof's tree, and signed by a trusted log (else whoever wrote the bundle made up the tree)
abbrev pub checkpoint_judged : Judge → Ring → Timestamp → KindVersion → InclusionProof → Option Checkpoint → Result ⊤ LogError
checkpoint_judged accepts logs now kind proof None = Err refusal.Checkpoint
checkpoint_judged accepts logs now kind proof (Some checkpoint) =
    if is_of_tree kind proof checkpoint && is_signed_by accepts logs now checkpoint then Ok tt else Err refusal.Checkpoint

-- ---- under one key in DER

-- the hint to a key: the first four bytes of its SHA-256 value
abbrev pub hint_of : List ℕ → List ℕ
hint_of der = take 4 (sha256 der)

abbrev pub has_hint : List ℕ → CheckpointSignature → Bool
has_hint hint line = bytes_eq line.key_id hint

abbrev pub is_line_good : Judge → VerificationKey → List ℕ → List ℕ → CheckpointSignature → Bool
is_line_good accepts key hint signed line = has_hint hint line && is_good accepts key signed line.signature

-- a line with the hint is there, and the signature of one with it is good
abbrev pub hinted_of : Judge → VerificationKey → List ℕ → Checkpoint → Result ⊤ CryptoError
hinted_of accepts key hint checkpoint =
    if list_any (has_hint hint) (looked_at checkpoint.signatures) then
    (if list_any (is_line_good accepts key hint (signed_data_of checkpoint)) (looked_at checkpoint.signatures) then Ok tt
    else Err (crypto.Checkpoint fault.Refused))
    else Err (crypto.Checkpoint fault.NoHint)

abbrev pub verified_of : Judge → List ℕ → Checkpoint → Result ⊤ CryptoError
verified_of accepts der checkpoint = spki_key_of der >>= λ key. hinted_of accepts key (hint_of der) checkpoint
