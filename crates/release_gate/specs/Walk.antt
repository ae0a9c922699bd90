-- What a walk over a folder promises, however one artifact is judged.
use Rattle.std.specs.Prelude.{◌≡◌, ℕ, ◌<◌, ◌≤◌, List, [], ◌∷◌, ◌++◌, length, true, false, Some, Result, Ok, Err, IfOk, IfErr, ⊤}
use Rattle.std.specs.List.Sorted.{IsSorted}
use Rattle.foundation.specs.Watched.{Watched, Rose, IfTold, Since}
use Rattle.sigstore_types_parts.specs.Entries.{text_cmp}
use Rattle.sigstore_tuf_outside.specs.Repository.{Files}
use Rattle.release_gate.specs.declared.line.GateLine.{GateLine}
use Rattle.release_gate.specs.declared.folder.FolderFault.{FolderFault}
use Rattle.release_gate.specs.declared.line.Verdict.{Verdict}
use Rattle.release_gate.specs.declared.walk.FolderStop.{FolderStop}
use Rattle.release_gate.specs.declared.walk.FolderStop.TheVariants as stop
use Rattle.release_gate.specs.Folder.{Contents, Call, names_asked}
use Rattle.release_gate.specs.Lines.{Judging, AreLines}
use Rattle.release_gate.specs.Names.{is_bundle, max_names, AreOnce, IsFirstDoubled, AreOrdered}

-- how an artifact is judged beside the other files
abbrev pub JudgingBeside : Type 0
JudgingBeside = Files → Judging

-- on what the verdict on an artifact rests, beside these names, which are listed: the folder before and behind it, and what is answered
abbrev pub Resting : Type 1
Resting = (D : Type 0) → (D → Call → D → Type 0) → List (List ℕ) → List ℕ → D → D → Result Verdict FolderStop → Type 0

-- ---- why a folder isn't judged

-- A call of the folder failed; it lists too many names, or one of them twice; or it has no file of a name that it listed, which no told
-- folder does.
abbrev pub StopCause : Watched Contents → Watched Contents → FolderStop → Type 0
StopCause old new stop.Failed = Rose old.faults new.faults
StopCause old new (stop.TooMany count) = (max_names < count) × IfTold old.told (λ contents. count ≡ length contents.names)
StopCause old new (stop.Doubled name) =
    IfTold old.told (λ contents. (length contents.names ≤ max_names) × IsFirstDoubled contents.names name)
StopCause old new (stop.Vanished name) = (is_bundle name ≡ true) × IfTold old.told (λ contents. ⊥)
StopCause old new stop.NoMemory = ⊤

-- ---- the listing in order

-- these are the listed names in order, each once
pub record IsInOrder (listed names : List (List ℕ)) : Type 0 where
  pub few : length listed ≤ max_names
  pub once : AreOnce listed
  pub sorted : IsSorted text_cmp names
  pub ordered : AreOrdered listed names

-- there are too many, or one stands twice
abbrev pub IsDisordered : List (List ℕ) → FolderStop → Type 0
IsDisordered listed (stop.TooMany count) = (max_names < count) × (count ≡ length listed)
IsDisordered listed (stop.Doubled name) = (length listed ≤ max_names) × IsFirstDoubled listed name
IsDisordered listed stop.Failed = ⊥
IsDisordered listed (stop.Vanished name) = ⊥
IsDisordered listed stop.NoMemory = ⊥

-- ---- one artifact

-- the promise of a judgement of one artifact: over a told folder that has it, what is said of it is the definition's
pub record Judges (judging : JudgingBeside) (old new : Watched Contents) (name : List ℕ) (result : Result Verdict FolderStop) : Type 0 where
  pub since : Since old new
  pub given : IfOk result (λ verdict. IfTold old.told (λ contents. (bytes : List ℕ) → contents.files name ≡ Some bytes
      → verdict ≡ judging contents.files name bytes))
  pub refused : IfErr result (StopCause old new)

-- ---- the whole folder

-- the folder lists few names, none twice, and these are the lines on its artifacts
pub record IsJudged (judging : JudgingBeside) (contents : Contents) (lines : List GateLine) : Type 0 where
  pub few : length contents.names ≤ max_names
  pub once : AreOnce contents.names
  pub are : AreLines (judging contents.files) contents.files lines

pub record JudgesFolder (judging : JudgingBeside) (old new : Watched Contents) (result : Result (List GateLine) FolderStop) : Type 0 where
  pub since : Since old new
  pub given : IfOk result (λ lines. IfTold old.told (λ contents. IsJudged judging contents lines))
  pub refused : IfErr result (StopCause old new)

-- ---- what calls gave, of any folder

-- the names that the folder gave as its listing, in order
pub record GivesNames {D : Type 0} (gave : D → Call → D → Type 0) (old new : D) (names : List (List ℕ)) : Type 0 where
  pub listed : List (List ℕ)
  pub given : gave old (names_asked (Ok listed)) new
  pub order : IsInOrder listed names

-- why no names are had: the call for them failed, or gave too many, or one of them twice; or memory is wanting
pub data Unordered {D : Type 0} (gave : D → Call → D → Type 0) (old new : D) (e : FolderStop) : Type 0 where
  unlisted : (fault : FolderFault) → gave old (names_asked (Err fault)) new → e ≡ stop.Failed → Unordered gave old new e
  disordered : (listed : List (List ℕ)) → gave old (names_asked (Ok listed)) new → IsDisordered listed e → Unordered gave old new e
  unheld : e ≡ stop.NoMemory → Unordered gave old new e

-- These names were gone through, one behind the other, and have these lines: none on a bundle, and on each artifact one, whose verdict
-- rests on calls behind those for the artifacts before it.
pub data Walked {D : Type 0} (rests : List ℕ → D → D → Result Verdict FolderStop → Type 0) (old : D)
    : List (List ℕ) → List GateLine → D → Type 0 where
  begun : Walked rests old [] [] old
  passed : (names : List (List ℕ)) (lines : List GateLine) (mid : D) (name : List ℕ) → Walked rests old names lines mid
      → is_bundle name ≡ true → Walked rests old (names ++ name ∷ []) lines mid
  judged : (names : List (List ℕ)) (lines : List GateLine) (mid new : D) (name : List ℕ) (verdict : Verdict)
      → Walked rests old names lines mid → is_bundle name ≡ false → rests name mid new (Ok verdict)
      → Walked rests old (names ++ name ∷ []) (lines ++ record { name = name; verdict = verdict } ∷ []) new

-- the first artifact that stops the walk: those before it are judged
pub record StopsAt {D : Type 0} (rests : List ℕ → D → D → Result Verdict FolderStop → Type 0) (old new : D) (names : List (List ℕ))
    (e : FolderStop) : Type 0 where
  pub before : List (List ℕ)
  pub name : List ℕ
  pub behind : List (List ℕ)
  pub split : names ≡ before ++ name ∷ behind
  pub lines : List GateLine
  pub mid : D
  pub walked : Walked rests old before lines mid
  pub artifact : is_bundle name ≡ false
  pub stopped : rests name mid new (Err e)

-- the walk over names: all of them, or as far as the artifact that stops it; or memory is wanting
pub data WalksNames {D : Type 0} (rests : List ℕ → D → D → Result Verdict FolderStop → Type 0) (old new : D) (names : List (List ℕ))
    (result : Result (List GateLine) FolderStop) : Type 0 where
  all : (lines : List GateLine) → Walked rests old names lines new → result ≡ Ok lines → WalksNames rests old new names result
  stopped : (e : FolderStop) → StopsAt rests old new names e → result ≡ Err e → WalksNames rests old new names result
  cut : result ≡ Err stop.NoMemory → WalksNames rests old new names result

-- what a step of the walk does with the lines
pub data Steps {D : Type 0} (rests : List ℕ → D → D → Result Verdict FolderStop → Type 0) (old new : D) (name : List ℕ)
    (lines lines' : List GateLine) (result : Result ⊤ FolderStop) : Type 0 where
  bundle : is_bundle name ≡ true → new ≡ old → lines' ≡ lines → result ≡ Ok tt → Steps rests old new name lines lines' result
  line : (verdict : Verdict) → is_bundle name ≡ false → rests name old new (Ok verdict)
      → lines' ≡ lines ++ record { name = name; verdict = verdict } ∷ [] → result ≡ Ok tt → Steps rests old new name lines lines' result
  halted : (e : FolderStop) → is_bundle name ≡ false → rests name old new (Err e) → result ≡ Err e
      → Steps rests old new name lines lines' result
  starved : result ≡ Err stop.NoMemory → Steps rests old new name lines lines' result

-- A folder is judged by its listing, and then by the artifacts in ascending order of their names; the first that stops it answers. So the
-- listing's faults come before every artifact's, and an artifact's before those of the artifacts behind it.
pub data WalksFolder {D : Type 0} (gave : D → Call → D → Type 0)
    (rests : List (List ℕ) → List ℕ → D → D → Result Verdict FolderStop → Type 0) (old new : D)
    (result : Result (List GateLine) FolderStop) : Type 0 where
  nameless : (e : FolderStop) → Unordered gave old new e → result ≡ Err e → WalksFolder gave rests old new result
  ordered : (names : List (List ℕ)) (mid : D) → GivesNames gave old mid names → WalksNames (rests names) mid new names result
      → WalksFolder gave rests old new result
