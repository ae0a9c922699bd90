-- A file that is the pinned one (TUF specification, sections 5.5 to 5.7), and a document that is fresh (section 5), as relations.
use Rattle.std.specs.Prelude.{◌≡◌, ℕ, List, length, true, ◌||◌, Option, Some, is_some, codes, ◌≤ℤ◌}
use Rattle.sha2.specs.Sha256.{sha256}
use Rattle.sha2.specs.Sha512.{sha512}
use Rattle.jiff_core.specs.declared.timestamp.Timestamp.{Timestamp}
use Rattle.sigstore_types_parts.specs.Entries.{at_name}
use Rattle.sigstore_tuf_parts.specs.declared.timestamp.MetaFile.{MetaFile}
use Rattle.sigstore_tuf_parts.specs.declared.targets.TargetFile.{TargetFile}
use Rattle.sigstore_tuf_parts.specs.Integrity.{Hashes, spells}

-- the map has a supported digest, and each supported digest in it is the bytes' own
pub record HasDigests (hashes : Hashes) (bytes : List ℕ) : Type 0 where
  pub by_sha256 : (text : List ℕ) → at_name (codes "sha256") hashes ≡ Some text → spells (sha256 bytes) text ≡ true
  pub by_sha512 : (text : List ℕ) → at_name (codes "sha512") hashes ≡ Some text → spells (sha512 bytes) text ≡ true
  pub supported : (is_some (at_name (codes "sha256") hashes) || is_some (at_name (codes "sha512") hashes)) ≡ true

-- the bytes have the pinned length and the pinned digests, each where it is there
pub record IsIntact (size : Option ℕ) (hashes : Option Hashes) (bytes : List ℕ) : Type 0 where
  pub size_is : (n : ℕ) → size ≡ Some n → length bytes ≡ n
  pub digests : (map : Hashes) → hashes ≡ Some map → HasDigests map bytes

-- a document's bytes and version are those of the pin
pub record Pinned (bytes : List ℕ) (version : ℕ) (pin : MetaFile) : Type 0 where
  pub intact : IsIntact pin.length pin.hashes bytes
  pub version_is : version ≡ pin.version

-- a file's bytes are those of the target
abbrev pub PinnedFile : List ℕ → TargetFile → Type 0
PinnedFile bytes target = IsIntact (Some target.length) (Some target.hashes) bytes

-- the expiry isn't before now
abbrev pub Fresh : Timestamp → Timestamp → Type 0
Fresh expires now = now.nanosecond ≤ℤ expires.nanosecond
