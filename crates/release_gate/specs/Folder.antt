-- What a folder of artifacts and bundles promises.
use Rattle.std.specs.Prelude.{◌≡◌, ℕ, ◌+◌, ◌<◌, ◌≤◌, List, [], ◌++◌, length, take, drop, Contains}
use Rattle.std.specs.Prelude.{Option, Some, None, option_map, Result, Ok, Err, ⊤, IfSome, IfOk, IfErr}
use Rattle.std.specs.Io.{ReadsAtMost}
use Rattle.foundation.specs.Watched.{Watched, Rose, IfTold, Since}
use Rattle.sigstore_tuf_outside.specs.Repository.{Files}
use Rattle.release_gate.specs.declared.folder.FolderFault.{FolderFault}
use Rattle.release_gate.specs.declared.folder.FolderFault.TheVariants.{Failed, TooLong, NoMemory}

-- the bytes under each name, and the names that a listing gives, in its order
pub record Contents : Type 0 where
  pub files : Files
  pub names : List (List ℕ)

-- each file stands in the listing, and nothing else does
pub record ListsFiles (contents : Contents) : Type 0 where
  pub listed : (name bytes : List ℕ) → contents.files name ≡ Some bytes → Contains contents.names name
  pub held : (name : List ℕ) → Contains contents.names name → (bytes : List ℕ) × (contents.files name ≡ Some bytes)

-- ---- the listing

abbrev pub ListingCause : Watched Contents → Watched Contents → FolderFault → Type 0
ListingCause old new Failed = Rose old.faults new.faults
ListingCause old new (TooLong seen) = ⊥
ListingCause old new NoMemory = ⊤

-- the promise of a listing: told contents stay as they were, and the names are theirs
pub record Lists {V : Type 0} (items : V → List (List ℕ)) (old new : Watched Contents) (result : Result V FolderFault) : Type 0 where
  pub since : Since old new
  pub given : IfOk result (λ names. IfTold old.told (λ contents. items names ≡ contents.names))
  pub refused : IfErr result (ListingCause old new)

-- ---- a bundle

-- a file has so many bytes
abbrev pub HasLength : Option (List ℕ) → ℕ → Type 0
HasLength file count = (bytes : List ℕ) × (file ≡ Some bytes) × (count ≡ length bytes)

abbrev pub BundleCause : Watched Contents → Watched Contents → List ℕ → ℕ → FolderFault → Type 0
BundleCause old new name max Failed = Rose old.faults new.faults
BundleCause old new name max (TooLong seen) = (max < seen) × IfTold old.told (λ contents. HasLength (contents.files name) seen)
BundleCause old new name max NoMemory = ⊤

-- the promise of a reading of a whole file: at most so many bytes are given, and they are the told file's
pub record ReadsBundle (old new : Watched Contents) (name : List ℕ) (max : ℕ) (result : Result (Option (List ℕ)) FolderFault) : Type 0 where
  pub since : Since old new
  pub short : IfOk result (λ file. IfSome file (λ bytes. length bytes ≤ max))
  pub given : IfOk result (λ file. IfTold old.told (λ contents. file ≡ contents.files name))
  pub refused : IfErr result (BundleCause old new name max)

-- ---- a piece of an artifact

abbrev pub PieceCause : Watched Contents → Watched Contents → FolderFault → Type 0
PieceCause old new Failed = Rose old.faults new.faults
PieceCause old new (TooLong seen) = ⊥
PieceCause old new NoMemory = ⊥

-- the next bytes from an offset on; none for a buffer with room only where there is none from there on
pub record IsPiece (bytes : List ℕ) (offset : ℕ) (buf : List ℕ) (count : ℕ) : Type 0 where
  pub given : drop offset bytes ≡ take count buf ++ drop (offset + count) bytes
  pub ended : count ≡ 0 → 0 < length buf → drop (offset + count) bytes ≡ []

-- the promise of a reading at an offset, which takes no memory
pub record ReadsAt (old new : Watched Contents) (name : List ℕ) (offset : ℕ) (buf : List ℕ) (result : Result ℕ FolderFault) : Type 0 where
  pub since : Since old new
  pub bound : ReadsAtMost result buf
  pub given : IfOk result (λ count. IfTold old.told (λ contents. IfSome (contents.files name) (λ bytes. IsPiece bytes offset buf count)))
  pub refused : IfErr result (PieceCause old new)

-- ---- what calls give

-- a call with its answer: the listing; a bundle's file, by its name and the limit; and the next bytes of a file, by its name, the offset
-- and the buffer behind the call
pub data Call : Type 0 where
  names_asked : Result (List (List ℕ)) FolderFault → Call
  bundle_asked : List ℕ → ℕ → Result (Option (List ℕ)) FolderFault → Call
  piece_asked : List ℕ → ℕ → List ℕ → Result ℕ FolderFault → Call

abbrev pub listing_asked : {V : Type 0} → (V → List (List ℕ)) → Result V FolderFault → Call
listing_asked items (Ok names) = names_asked (Ok (items names))
listing_asked items (Err fault) = names_asked (Err fault)

-- the promise of a call
abbrev pub Answers : Watched Contents → Call → Watched Contents → Type 0
Answers old (names_asked result) new = Lists (λ names. names) old new result
Answers old (bundle_asked name max result) new = ReadsBundle old new name max result
Answers old (piece_asked name offset buf result) new = ReadsAt old new name offset buf result

-- ---- one file as a source

-- what is left of a file from an offset on, where the folder tells it
abbrev pub left_in : Contents → List ℕ → ℕ → Option (List ℕ)
left_in contents name offset = option_map (drop offset) (contents.files name)

abbrev pub left_of : Option Contents → List ℕ → ℕ → Option (List ℕ)
left_of None name offset = None
left_of (Some contents) name offset = left_in contents name offset

-- a file of a folder as a source of an artifact's bytes, of which those before the offset were given
abbrev pub source_of : Watched Contents → List ℕ → ℕ → Watched (List ℕ)
source_of folder name offset = record { told = left_of folder.told name offset; faults = folder.faults }
