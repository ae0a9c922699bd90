-- What the calls of a folder gave of one file, of any folder.
use Rattle.std.specs.Prelude.{◌≡◌, ◌⊎◌, ℕ, ◌<◌, ◌≤◌, List, [], ◌++◌, length, take, Result, Ok, Err}
use Rattle.sigstore_types_parts.specs.declared.hash_algorithm.HashAlgorithm.{HashAlgorithm}
use Rattle.sigstore_keys.specs.Digest.{digests_by}
use Rattle.sigstore_keys.specs.Reader.{Took}
use Rattle.sigstore_keys.specs.declared.reader.ReadError.{ReadError}
use Rattle.sigstore_keys.specs.declared.reader.ReadError.TheVariants.{Failed, TooLong}
use Rattle.sigstore_judgement.specs.declared.error.Error.{Error}
use Rattle.sigstore_judgement.specs.declared.error.Error.TheVariants as verify
use Rattle.foundation.specs.Watched.{Watched}
use Rattle.release_gate.specs.declared.folder.FolderFault.{FolderFault}
use Rattle.release_gate.specs.Folder.{Contents, Call, piece_asked, source_of}

-- these bytes were given of a file from its beginning on, one piece behind the other, and nothing else was called between
pub data Gives {D : Type 0} (gave : D → Call → D → Type 0) (name : List ℕ) (old : D) : List ℕ → D → Type 0 where
  begun : Gives gave name old [] old
  more : (bytes buf : List ℕ) (count : ℕ) (mid new : D) → Gives gave name old bytes mid
      → gave mid (piece_asked name (length bytes) buf (Ok count)) new → Gives gave name old (bytes ++ take count buf) new

-- and they are the whole file: behind them a buffer with room was given none
pub record GivesWhole {D : Type 0} (gave : D → Call → D → Type 0) (name : List ℕ) (old : D) (bytes : List ℕ) (new : D) : Type 0 where
  pub mid : D
  pub given : Gives gave name old bytes mid
  pub buf : List ℕ
  pub room : 0 < length buf
  pub ended : gave mid (piece_asked name (length bytes) buf (Ok 0)) new

-- a call for the bytes behind these failed
pub record GivesFailed {D : Type 0} (gave : D → Call → D → Type 0) (name : List ℕ) (old : D) (bytes : List ℕ) (new : D) : Type 0 where
  pub mid : D
  pub given : Gives gave name old bytes mid
  pub buf : List ℕ
  pub fault : FolderFault
  pub failed : gave mid (piece_asked name (length bytes) buf (Err fault)) new

-- ---- a file that is read to its end

-- what was given is all of it, within the limit; or a call failed behind it; or it is more than the limit
abbrev pub GivenTo : {D : Type 0} → (D → Call → D → Type 0) → List ℕ → ℕ → D → List ℕ → D → Result ℕ ReadError → Type 0
GivenTo gave name max old bytes new (Ok count) = GivesWhole gave name old bytes new × (length bytes ≤ max)
GivenTo gave name max old bytes new (Err Failed) = GivesFailed gave name old bytes new
GivenTo gave name max old bytes new (Err (TooLong limit)) = Gives gave name old bytes new × (max < length bytes) × (limit ≡ max)

-- the hashers took the bytes that were given
pub record HashesFile {D H : Type 0} (gave : D → Call → D → Type 0) (grows : H → List ℕ → H → Type 0) (seen : D → Watched Contents)
    (old new : D) (name : List ℕ) (hashers hashers' : List H) (max : ℕ) (result : Result ℕ ReadError) : Type 0 where
  pub count : ℕ
  pub bytes : List ℕ
  pub took : Took grows (source_of (seen old) name 0) (source_of (seen new) name count) hashers hashers' max result bytes
  pub given : GivenTo gave name max old bytes new result

-- the digests are those of the whole file; a refusal is the reading's, or want of memory
abbrev pub Digests : {D : Type 0} → (D → Call → D → Type 0) → List ℕ → ℕ → List HashAlgorithm → D → D
    → Result (List (HashAlgorithm × List ℕ)) Error → Type 0
Digests gave name max algorithms old new (Ok digests) =
    (bytes : List ℕ) × GivesWhole gave name old bytes new × (length bytes ≤ max) × (digests ≡ digests_by algorithms bytes)
Digests gave name max algorithms old new (Err e) =
    (e ≡ verify.NoMemory) ⊎ ((fault : ReadError) × (e ≡ verify.ArtifactRead fault) × (bytes : List ℕ)
    × GivenTo gave name max old bytes new (Err fault))
