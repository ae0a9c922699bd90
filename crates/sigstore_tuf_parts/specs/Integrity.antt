-- When a file is the one that was pinned (TUF specification, sections 5.5 to 5.7), and when a document is fresh (section 5).
use Rattle.std.specs.Prelude.{ℕ, List, length, Bool, true, ◌||◌, ◌==◌, if◌then◌else◌, Option, Some, None, is_some}
use Rattle.std.specs.Prelude.{Result, Ok, Err, codes, int_lt, ⊤}
use Rattle.std.specs.Str.{str_eq_ignore_ascii_case}
use Rattle.sha2.specs.Sha256.{sha256}
use Rattle.sha2.specs.Sha512.{sha512}
use Rattle.hex.specs.Hex.{encode_lower}
use Rattle.jiff_core.specs.declared.timestamp.Timestamp.{Timestamp}
use Rattle.foundation.specs.Steps.{◌>>=◌}
use Rattle.sigstore_types_parts.specs.Entries.{at_name}
use Rattle.sigstore_tuf_text.specs.declared.error.Error.{Error}
use Rattle.sigstore_tuf_text.specs.declared.error.Error.TheVariants.{Expired, IntegrityMismatch}
use Rattle.sigstore_tuf_text.specs.declared.error.Mismatch.TheVariants.{Length, Digest, NoDigest, Version}
use Rattle.sigstore_tuf_parts.specs.declared.timestamp.MetaFile.{MetaFile}

-- digests in hexadecimal, by the names of their algorithms
abbrev pub Hashes : Type 0
Hashes = List (List ℕ × List ℕ)

-- the text spells the digest in hexadecimal, in either case
abbrev pub spells : List ℕ → List ℕ → Bool
spells digest text = str_eq_ignore_ascii_case text (encode_lower digest)

-- where the text is there, it spells the digest
abbrev pub agrees : List ℕ → Option (List ℕ) → Bool
agrees digest None = true
agrees digest (Some text) = spells digest text

abbrev pub length_of : Option ℕ → List ℕ → Result ⊤ Error
length_of None bytes = Ok tt
length_of (Some n) bytes = if length bytes == n then Ok tt else Err (IntegrityMismatch Length)

-- a digest of an algorithm, where the map has it
abbrev pub digest_of : List ℕ → Option (List ℕ) → Result ⊤ Error
digest_of digest text = if agrees digest text then Ok tt else Err (IntegrityMismatch Digest)

abbrev pub supported_of : Hashes → Result ⊤ Error
supported_of hashes =
    if is_some (at_name (codes "sha256") hashes) || is_some (at_name (codes "sha512") hashes) then Ok tt
    else Err (IntegrityMismatch NoDigest)

-- Each sha256 and sha512 that the map has (else a file that fits the weaker one alone would do); a map with neither is refused,
-- since it would let every file through.
abbrev pub digests_of : Hashes → List ℕ → Result ⊤ Error
digests_of hashes bytes = do
  _ ← digest_of (sha256 bytes) (at_name (codes "sha256") hashes)
  _ ← digest_of (sha512 bytes) (at_name (codes "sha512") hashes)
  supported_of hashes

-- without a map nothing more is asked
abbrev pub where_pinned : Option Hashes → List ℕ → Result ⊤ Error
where_pinned None bytes = Ok tt
where_pinned (Some hashes) bytes = digests_of hashes bytes

-- the length where it is pinned, then the digests
unfoldable pub integrity_of : Option ℕ → Option Hashes → List ℕ → Result ⊤ Error
integrity_of size hashes bytes = do
  _ ← length_of size bytes
  where_pinned hashes bytes

-- A document's version is its pin's (5.5 and 5.6, 'mix-and-match attack').
abbrev pub version_of : MetaFile → ℕ → Result ⊤ Error
version_of pin version = if version == pin.version then Ok tt else Err (IntegrityMismatch Version)

-- a document that expires at that moment has expired now; at the moment itself it has not
abbrev pub is_past : Timestamp → Timestamp → Bool
is_past expires now = int_lt expires.nanosecond now.nanosecond

-- The document of that role hasn't expired now ('freeze attack': else a repository that stands still hides every release).
unfoldable pub fresh_of : List ℕ → Timestamp → Timestamp → Result ⊤ Error
fresh_of role expires now = if is_past expires now then Err (Expired role expires) else Ok tt
