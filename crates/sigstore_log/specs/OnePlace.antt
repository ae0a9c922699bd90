-- Two entries at one place of a log's tree (RFC 6962, section 2.1.1).
use Rattle.std.specs.Prelude.{◌≡◌, ◌<◌, ◌^◌}
use Rattle.jiff_core.specs.declared.timestamp.Timestamp.{Timestamp}
use Rattle.sigstore_keys.specs.Good.{Judge}
use Rattle.sigstore_keys.specs.Keyring.{Ring}
use Rattle.sigstore_merkle.specs.declared.collision.Inclusion.{Inclusion}
use Rattle.sigstore_merkle.specs.Collision.{OneOrCollision}
use Rattle.sigstore_entries.specs.declared.entry.TransparencyLogEntry.{TransparencyLogEntry}
use Rattle.sigstore_log.specs.Logged.{Logged}

-- an entry as its place and its path have it
abbrev pub inclusion_of : {accepts : Judge} {logs : Ring} {now : Timestamp} (entry : TransparencyLogEntry) → Logged accepts logs now entry
    → Inclusion
inclusion_of entry logged = record {
  body = entry.canonicalized_body;
  index = logged.place.index;
  size = logged.place.size;
  hashes = logged.proof.hashes;
}

-- Two entries that are logged at one place, whoever decides signatures, whatever logs are trusted and whenever, have one body and one
-- path, or the first inputs that differ on the way down from the root are two different byte strings with one SHA-256 value.
abbrev pub OnePlaceOneBody : Type 0
OnePlaceOneBody = (accepts accepts' : Judge) (logs logs' : Ring) (now now' : Timestamp) (a b : TransparencyLogEntry)
    (l : Logged accepts logs now a) (m : Logged accepts' logs' now' b) → l.place.size < 2 ^ 64 → l.place ≡ m.place
    → OneOrCollision (inclusion_of a l) (inclusion_of b m)
