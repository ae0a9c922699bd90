-- What a reading to the end promises, of any number of hashers.
use Rattle.std.specs.Prelude.{◌≡◌, ℕ, ◌+◌, ◌≤◌, List, ◌++◌, length, Option, Result, Ok, Err}
use Rattle.std.specs.Io.KnownBytes.{prepend_known, IsAtEnd}
use Rattle.sha2.specs.Sha256.{sha256}
use Rattle.foundation.specs.Watched.{Watched, Rose}
use Rattle.sigstore_keys.specs.declared.reader.ReadError.{ReadError}
use Rattle.sigstore_keys.specs.declared.reader.ReadError.TheVariants.{Failed, TooLong}
use Rattle.sigstore_keys.specs.Hasher.{Fed}

-- what the answer says of the bytes that were taken: they are all that were left, within the limit, and this is their number;
-- or a read failed after them; or they are one more than the limit
abbrev pub Answers : ℕ → ℕ → ℕ → Option (List ℕ) → List ℕ → Result ℕ ReadError → Type 0
Answers max before now left bytes (Ok count) = (count ≡ length bytes) × (length bytes ≤ max) × IsAtEnd left
Answers max before now left bytes (Err Failed) = (length bytes ≤ max) × Rose before now
Answers max before now left bytes (Err (TooLong limit)) = (length bytes ≡ max + 1) × (limit ≡ max)

-- the hashers have seen all the bytes that were taken; after a refusal, those that they begin with
abbrev pub FedBy : {H : Type 0} → (H → List ℕ → H → Type 0) → List H → List H → List ℕ → Result ℕ ReadError → Type 0
FedBy grows hashers hashers' bytes (Ok count) = Fed grows hashers hashers' bytes
FedBy grows hashers hashers' bytes (Err e) = (seen rest : List ℕ) × (bytes ≡ seen ++ rest) × Fed grows hashers hashers' seen

-- the promise of a reading to the end, in which these bytes were taken
pub record Took {H : Type 0} (grows : H → List ℕ → H → Type 0) (old new : Watched (List ℕ)) (hashers hashers' : List H) (max : ℕ)
    (result : Result ℕ ReadError) (bytes : List ℕ) : Type 0 where
  pub later : old.faults ≤ new.faults
  pub given : old.told ≡ prepend_known bytes new.told
  pub answer : Answers max old.faults new.faults new.told bytes result
  pub fed : FedBy grows hashers hashers' bytes result

abbrev pub ReadsInto : {H : Type 0} → (H → List ℕ → H → Type 0) → Watched (List ℕ) → Watched (List ℕ) → List H → List H → ℕ
    → Result ℕ ReadError → Type 0
ReadsInto grows old new hashers hashers' max result = (bytes : List ℕ) × Took grows old new hashers hashers' max result bytes

-- what the answer of a reading says that gives the digest
abbrev pub DigestAnswers : ℕ → ℕ → ℕ → Option (List ℕ) → List ℕ → Result (List ℕ) ReadError → Type 0
DigestAnswers max before now left bytes (Ok digest) = (digest ≡ sha256 bytes) × (length bytes ≤ max) × IsAtEnd left
DigestAnswers max before now left bytes (Err Failed) = (length bytes ≤ max) × Rose before now
DigestAnswers max before now left bytes (Err (TooLong limit)) = (length bytes ≡ max + 1) × (limit ≡ max)

-- the promise of a reading that gives the SHA-256 value
pub record TookDigest (old new : Watched (List ℕ)) (max : ℕ) (result : Result (List ℕ) ReadError) (bytes : List ℕ) : Type 0 where
  pub later : old.faults ≤ new.faults
  pub given : old.told ≡ prepend_known bytes new.told
  pub answer : DigestAnswers max old.faults new.faults new.told bytes result

abbrev pub HashesToEnd : Watched (List ℕ) → Watched (List ℕ) → ℕ → Result (List ℕ) ReadError → Type 0
HashesToEnd old new max result = (bytes : List ℕ) × TookDigest old new max result bytes
