-- One document of any kind: its update, and whether it was taken in (TUF specification, section 5).
use Rattle.std.specs.Prelude.{◌≡◌, ◌≢◌, ℕ, List, Bool, true, false, Option, Some, None, option_map}
use Rattle.std.specs.Prelude.{Result, Ok, Err, codes, ⊤}
use Rattle.std.specs.List.{last_or}
use Rattle.jiff_core.specs.declared.timestamp.Timestamp as jiff
use Rattle.sigstore_types_parts.specs.Entries.{at_name}
use Rattle.sigstore_keys.specs.Crypto.{Crypto}
use Rattle.sigstore_tuf_text.specs.declared.error.Error.{Error}
use Rattle.sigstore_tuf_text.specs.declared.error.Error.TheVariants as tuf
use Rattle.sigstore_tuf_parts.specs.declared.targets.Targets as declared
use Rattle.sigstore_tuf_rules.specs.declared.documents.Held.{Held}
use Rattle.sigstore_tuf_rules.specs.declared.documents.InForce.{InForce}
use Rattle.sigstore_tuf_rules.specs.declared.kind.Kind.{Kind}
use Rattle.sigstore_tuf_rules.specs.declared.kind.Kind.TheVariants.{Root, Timestamp, Snapshot, Targets}
use Rattle.sigstore_tuf_rules.specs.Update.{update_root_of, update_timestamp_of, update_snapshot_of, update_targets_of}

abbrev pub update_of : Crypto → Kind → InForce → List ℕ → Option jiff.Timestamp → Result InForce Error
update_of crypto (Root number) set bytes now = update_root_of crypto set bytes
update_of crypto Timestamp set bytes now = update_timestamp_of crypto set bytes now
update_of crypto Snapshot set bytes now = update_snapshot_of crypto set bytes now
update_of crypto Targets set bytes now = update_targets_of crypto set bytes now

abbrev pub taken_of : Result InForce Error → Result (Option InForce) Error
taken_of (Ok set) = Ok (Some set)
taken_of (Err e) = Err e

-- a timestamp of the trusted version leaves the trusted one
abbrev pub unless_equal : Result InForce Error → Result (Option InForce) Error
unless_equal (Ok set) = Ok (Some set)
unless_equal (Err (tuf.EqualVersion role version)) = Ok None
unless_equal (Err e) = Err e

-- The documents in force with these bytes taken in, none where they leave all as it is, or why they are refused.
abbrev pub judged_of : Crypto → Kind → InForce → List ℕ → Option jiff.Timestamp → Result (Option InForce) Error
judged_of crypto (Root number) set bytes now = taken_of (update_root_of crypto set bytes)
judged_of crypto Timestamp set bytes now = unless_equal (update_timestamp_of crypto set bytes now)
judged_of crypto Snapshot set bytes now = taken_of (update_snapshot_of crypto set bytes now)
judged_of crypto Targets set bytes now = taken_of (update_targets_of crypto set bytes now)

-- the answer is whether they were taken in; a refusal changes nothing
abbrev pub Takes : Result (Option InForce) Error → InForce → InForce → Result Bool Error → Type 0
Takes judged old new (Ok true) = judged ≡ Ok (Some new)
Takes judged old new (Ok false) = (judged ≡ Ok None) × (new ≡ old)
Takes judged old new (Err e) = (new ≡ old) × (e ≢ tuf.NoMemory → judged ≡ Err e)

abbrev pub top_targets : InForce → Option (Held declared.Targets)
top_targets set = at_name (codes "targets") set.targets

-- the bytes of the document in force
abbrev pub bytes_in : Kind → InForce → Option (List ℕ)
bytes_in (Root number) set = last_or None set.roots
bytes_in Timestamp set = option_map (λ held. held.bytes) set.timestamp
bytes_in Snapshot set = option_map (λ held. held.bytes) set.snapshot
bytes_in Targets set = option_map (λ held. held.bytes) (top_targets set)

abbrev pub there_of : Result ⊤ Error → Result Bool Error
there_of (Ok x) = Ok true
there_of (Err e) = Err e

abbrev pub there_unless_equal : Result ⊤ Error → Result Bool Error
there_unless_equal (Ok x) = Ok true
there_unless_equal (Err (tuf.EqualVersion role version)) = Ok false
there_unless_equal (Err e) = Err e
