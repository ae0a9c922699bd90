-- The digests by which an artifact is told, among the words of a command.
use Rattle.std.specs.Prelude.{ℕ, List, [], ◌∷◌, ◌++◌, length, take, drop, bytes_eq, codes, Bool, if◌then◌else◌}
use Rattle.std.specs.Prelude.{Option, Some, None, is_none, Result, Ok, Err, ok_or}
use Rattle.std.specs.List.{list_any}
use Rattle.std.specs.Result.{result_ok}
use Rattle.hex.specs.Hex as hex
use Rattle.foundation.specs.Steps.{◌>>=◌}
use Rattle.sigstore_types_parts.specs.HashAlgorithm.{same_algorithm, artifact_digest_of}
use Rattle.sigstore_types_parts.specs.declared.hash_algorithm.HashAlgorithm.{HashAlgorithm}
use Rattle.sigstore_types_parts.specs.declared.hash_algorithm.HashAlgorithm.TheVariants.{Sha2256, Sha2384, Sha2512}
use Rattle.command_files.specs.declared.usage_fault.UsageFault.{UsageFault}
use Rattle.command_files.specs.declared.usage_fault.UsageFault.TheVariants.{Usage}

-- an algorithm, and a digest by it
abbrev pub Digest : Type 0
Digest = HashAlgorithm × List ℕ

-- what stands behind a prefix; none where the text doesn't begin with it
unfoldable pub behind : List ℕ → List ℕ → Option (List ℕ)
behind prefix text = if bytes_eq (take (length prefix) text) prefix then Some (drop (length prefix) text) else None

-- a digest of an algorithm, of its length, from hexadecimal in either case (RFC 4648, section 8)
abbrev pub digest_of : HashAlgorithm → List ℕ → Result Digest UsageFault
digest_of algorithm text =
    ok_or (result_ok (hex.decode_of text)) Usage >>= λ bytes. ok_or (result_ok (artifact_digest_of algorithm bytes)) Usage

-- a word that tells no digest
abbrev pub is_plain : List ℕ → Bool
is_plain word = is_none (behind (codes "--digest=") word)

-- what is told behind a prefix; nothing where it isn't there
abbrev pub told_behind : HashAlgorithm → Option (List ℕ) → Result (Option Digest) UsageFault
told_behind algorithm None = Ok None
told_behind algorithm (Some text) = digest_of algorithm text >>= λ digest. Ok (Some digest)

unfoldable pub told_at : List ℕ → HashAlgorithm → List ℕ → Result (Option Digest) UsageFault
told_at prefix algorithm word = told_behind algorithm (behind prefix word)

abbrev pub or_told : Option Digest → Result (Option Digest) UsageFault → Result (Option Digest) UsageFault
or_told None later = later
or_told (Some digest) later = Ok (Some digest)

-- The digest that a word `--digest=ALGORITHM:HEX` tells; none for a word of another name. The algorithms are those by which artifacts
-- are hashed (FIPS 180-4).
unfoldable pub told_by : List ℕ → Result (Option Digest) UsageFault
told_by word =
    told_at (codes "--digest=sha256:") Sha2256 word >>= λ told. or_told told
    (told_at (codes "--digest=sha384:") Sha2384 word >>= λ told. or_told told
    (told_at (codes "--digest=sha512:") Sha2512 word >>= λ told. or_told told
    (if is_plain word then Ok None else Err Usage)))

abbrev pub is_told : HashAlgorithm → List Digest → Bool
is_told algorithm told = list_any (λ (digest : Digest). same_algorithm algorithm digest.0) told

-- a digest behind others, none of which is by its algorithm
abbrev pub told_with : List Digest → Option Digest → Result (List Digest) UsageFault
told_with told None = Ok told
told_with told (Some digest) = if is_told digest.0 told then Err Usage else Ok (told ++ digest ∷ [])

-- those of the words, behind others
abbrev pub told_from : List Digest → List (List ℕ) → Result (List Digest) UsageFault
told_from told [] = Ok told
told_from told (word ∷ words) = do
  digest ← told_by word
  next ← told_with told digest
  told_from next words

-- the words that tell none, behind others
abbrev pub plain_from : List (List ℕ) → List (List ℕ) → List (List ℕ)
plain_from plain [] = plain
plain_from plain (word ∷ words) = plain_from (if is_plain word then plain ++ word ∷ [] else plain) words
