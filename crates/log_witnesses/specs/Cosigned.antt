-- Cosignatures of a checkpoint by witnesses (C2SP tlog-cosignature, "cosignature/v1", over signed-note), and how many witnesses cosigned.
use Rattle.std.specs.Prelude.{ℕ, ◌==◌, nat_le, List, ◌∷◌, ◌++◌, length, take, drop, bytes_eq, codes, Bool, ◌&&◌, if◌then◌else◌}
use Rattle.std.specs.Prelude.{Option, Some, None, Result, Ok, Err, filter_map}
use Rattle.std.specs.List.{list_any}
use Rattle.std.specs.Int.{w64, from_be_bytes}
use Rattle.std.specs.Fmt.{decimal}
use Rattle.sigstore_keys.specs.Distinct.{count_distinct, is_enough}
use Rattle.sigstore_keys.specs.Good.{Judge}
use Rattle.sigstore_keys.specs.declared.distinct.Threshold.{Threshold}
use Rattle.sigstore_keys.specs.declared.scheme.SigningScheme.TheVariants.{Ed25519}
use Rattle.sigstore_entries.specs.Checkpoint.{signed_data_of}
use Rattle.sigstore_entries.specs.declared.checkpoint.Checkpoint.{Checkpoint}
use Rattle.sigstore_entries.specs.declared.signature_line.CheckpointSignature.{CheckpointSignature}
use Rattle.sigstore_log.specs.Signed.{looked_at}
use Rattle.log_witnesses.specs.Witness.{key_id_of}
use Rattle.log_witnesses.specs.declared.error.WitnessError.{WitnessError}
use Rattle.log_witnesses.specs.declared.error.WitnessError.TheVariants.{TooMany, TooFew}
use Rattle.log_witnesses.specs.declared.witness.Witness.{Witness}

-- ---- one cosignature

-- the moment that it tells, in seconds since 1970: its first eight octets, the greatest first
abbrev pub moment_of : List ℕ → ℕ
moment_of octets = from_be_bytes w64 (take 8 octets)

-- what is signed at a moment: a line that says what it is, a line with the moment, and the text of the checkpoint
abbrev pub cosigned_text : ℕ → List ℕ → List ℕ
cosigned_text moment text = codes "cosignature/v1\ntime " ++ (decimal moment ++ (10 ∷ text))

-- the octets are a moment and an Ed25519 signature of the witness over the text at that moment
abbrev pub is_good_by : Judge → Witness → List ℕ → List ℕ → Bool
is_good_by accepts witness text octets =
    length octets == 72 && accepts Ed25519 witness.key (cosigned_text (moment_of octets) text) (drop 8 octets)

-- the line has the witness's name and key ID (signed-note, "verifying signatures")
abbrev pub is_named : Witness → CheckpointSignature → Bool
is_named witness line = bytes_eq line.name witness.name && bytes_eq line.key_id (key_id_of witness)

abbrev pub is_cosignature : Judge → List ℕ → Witness → CheckpointSignature → Bool
is_cosignature accepts text witness line = is_named witness line && is_good_by accepts witness text line.signature

-- ---- all of them

-- some line of those that are looked at is the witness's, over exactly this checkpoint's text
abbrev pub has_cosigned : Judge → Checkpoint → Witness → Bool
has_cosigned accepts checkpoint witness =
    list_any (is_cosignature accepts (signed_data_of checkpoint) witness) (looked_at checkpoint.signatures)

-- the key of a witness that cosigned
abbrev pub cosigner : Judge → Checkpoint → Witness → Option (List ℕ)
cosigner accepts checkpoint witness = if has_cosigned accepts checkpoint witness then Some witness.key else None

-- how many different keys of witnesses did: whoever signs under two names, or is named twice, is one party
abbrev pub cosigned_by : Judge → List Witness → Checkpoint → ℕ
cosigned_by accepts witnesses checkpoint = count_distinct (filter_map (cosigner accepts checkpoint) witnesses)

abbrev pub enough_witnesses : Threshold → ℕ → Result ℕ WitnessError
enough_witnesses asked found = if is_enough asked found then Ok found else Err (TooFew asked.value found)

-- the greatest number of witnesses: each is looked for in each line
abbrev pub max_witnesses : ℕ
max_witnesses = 64

-- as many as are asked for cosigned, or more
abbrev pub cosigned_judged : Judge → Threshold → List Witness → Checkpoint → Result ℕ WitnessError
cosigned_judged accepts asked witnesses checkpoint =
    if nat_le (length witnesses) max_witnesses then enough_witnesses asked (cosigned_by accepts witnesses checkpoint) else Err TooMany
