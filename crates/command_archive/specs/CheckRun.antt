-- A run of `check`: what it says of an archive, what it puts in place, and what its statuses mean.
use Rattle.std.specs.Prelude.{◌≡◌, ◌⊎◌, ℕ, List, [], ◌∷◌, codes, Option, Some, None, Result, Ok, Err, ⊤}
use Rattle.foundation.specs.Watched.{Watched, Rose}
use Rattle.foundation.specs.declared.no_memory.NoMemory.{NoMemory}
use Rattle.sigstore_tuf_rules.specs.declared.chain.TrustChain.{TrustChain}
use Rattle.sigstore_verify.specs.Inputs.{Anchor}
use Rattle.command_files.specs.Answer.{answer}
use Rattle.command_files.specs.Ending.{TakesAll}
use Rattle.command_files.specs.Gather.{anchored_of}
use Rattle.command_files.specs.Inputs.{Supply}
use Rattle.command_files.specs.Printed.{pair_line}
use Rattle.command_files.specs.Starting as start
use Rattle.command_files.specs.Starting.{Command, now_of, Begins, Decides, Misuses, LacksInput}
use Rattle.command_files.specs.declared.answer.Answer.{Answer}
use Rattle.command_files.specs.declared.answer.Status.{Status}
use Rattle.command_files.specs.declared.answer.Status.TheVariants as status
use Rattle.command_files.specs.declared.gather.Anchored.{Anchored}
use Rattle.command_verify.specs.Report.{chain_text}
use Rattle.command_verify.specs.Run.{said_of, anchor_of}
use Rattle.command_download.specs.Shelf.{placed, with_files, Places}
use Rattle.command_download.specs.declared.shelf.Placed.{Placed}
use Rattle.command_download.specs.declared.shelf.ShelfFault.TheVariants.{Failed}
use Rattle.command_archive.specs.declared.check_words.CheckLayout.{CheckLayout}
use Rattle.command_archive.specs.declared.finding.CheckFault.{CheckFault}
use Rattle.command_archive.specs.declared.finding.CheckFault.TheVariants.{Unread}
use Rattle.command_archive.specs.Check.{Finds, fault_answer}
use Rattle.command_archive.specs.Layout.{check_layout_of}
use Rattle.command_archive.specs.Reading.{unread_answer}

-- ---- the outside

-- at one moment: the archive, and where the trusted root is put
pub record Outside : Type 0 where
  pub archive : Watched (List ℕ)
  pub shelf : Watched (List Placed)

abbrev pub outside_by : Watched (List ℕ) → Watched (List Placed) → Outside
outside_by archive shelf = record { archive = archive; shelf = shelf }

-- what a run finds and leaves, but for its output
abbrev pub Environment : Type 0
Environment = start.Environment Outside

abbrev pub environment_by : Supply → Watched (List ℕ) → Watched (List Placed) → Environment
environment_by inputs archive shelf = record { inputs = inputs; outside = outside_by archive shelf }

-- ---- the trusted root in its place

-- The file was put in place whole under the name that is told; without one nothing was called.
abbrev pub Delivers : Option (List ℕ) → List ℕ → Watched (List Placed) → Watched (List Placed) → Type 0
Delivers None file old new = new ≡ old
Delivers (Some path) file old new = Places {T = ⊤} old new path file (Ok tt)

-- it couldn't be put there
pub record Undelivered (out : Option (List ℕ)) (file : List ℕ) (old new : Watched (List Placed)) : Type 0 where
  pub path : List ℕ
  pub asked : out ≡ Some path
  pub fails : Places {T = ⊤} old new path file (Err Failed)

abbrev pub undelivered_answer : Answer
undelivered_answer = answer status.Output (pair_line (codes "output") (codes "file"))

-- This is said behind the file in its place; or that the file couldn't be put there; or memory is wanting, and nothing was put in place.
abbrev pub SaysDelivered : Answer → Option (List ℕ) → List ℕ → Watched (List Placed) → Watched (List Placed) → Result Answer NoMemory → Type 0
SaysDelivered line out file old new (Ok said) =
    (Delivers out file old new × (said ≡ line)) ⊎ (Undelivered out file old new × (said ≡ undelivered_answer))
SaysDelivered line out file old new (Err e) = new.told ≡ old.told

-- the same of a chain, whose lines are said
abbrev pub SaysTrusted : TrustChain → Option (List ℕ) → Watched (List Placed) → Watched (List Placed) → Result Answer NoMemory → Type 0
SaysTrusted chain out old new (Ok said) =
    (line : Answer) × (said_of (chain_text (codes "trusted") chain) ≡ Some line) × SaysDelivered line out chain.file old new (Ok said)
SaysTrusted chain out old new (Err e) = new.told ≡ old.told

-- ---- what is said

-- A chain is found, its file is put in its place, and its lines are said; or the file can't be put there; or no chain is found, and nothing
-- is put in place; or memory is wanting.
pub data Checks (anchor : Anchor) (least : Option ℕ) (out : Option (List ℕ)) (before after : Outside) (result : Result Answer NoMemory)
    : Type 0 where
  trusts : (chain : TrustChain) (text : List ℕ) → Finds anchor least before.archive after.archive (Ok chain)
      → chain_text (codes "trusted") chain ≡ Ok text → Delivers out chain.file before.shelf after.shelf
      → result ≡ Ok (answer status.Accepted text) → Checks anchor least out before after result
  withholds : (chain : TrustChain) → Finds anchor least before.archive after.archive (Ok chain)
      → Undelivered out chain.file before.shelf after.shelf → result ≡ Ok undelivered_answer → Checks anchor least out before after result
  declines : (why : CheckFault) (said : Answer) → Finds anchor least before.archive after.archive (Err why) → after.shelf ≡ before.shelf
      → fault_answer why ≡ Some said → result ≡ Ok said → Checks anchor least out before after result
  wants : (e : NoMemory) → after.shelf.told ≡ before.shelf.told → result ≡ Err e → Checks anchor least out before after result

-- The words first, then the inputs, then the archive.
abbrev pub Says : Command → Environment → Environment → Result Answer NoMemory → Type 0
Says command before after result =
    Decides (check_layout_of command.words) anchored_of (λ said. said)
    (λ layout anchored. Checks (anchor_of anchored (now_of layout.places command.clock)) layout.least layout.trusted_root) before after result

-- ---- what the statuses mean

-- the words give a layout, and the inputs were read
pub record Asked (command : Command) (before after : Environment) : Type 0 where
  pub layout : CheckLayout
  pub anchored : Anchored
  pub begins : Begins (check_layout_of command.words) anchored_of before.inputs after.inputs layout anchored

-- what was found of the archive, from the root that was read, at the moment, and of the least version
abbrev pub FoundIs : {command : Command} {before after : Environment} → Asked command before after → Result TrustChain CheckFault → Type 0
FoundIs {command} {before} {after} asked result =
    Finds (anchor_of asked.anchored (now_of asked.layout.places command.clock)) asked.layout.least before.outside.archive after.outside.archive
    result

-- What status 0 means: the archive holds a trusted chain, whose timestamp's version isn't below the least one; its trusted root was put in
-- place whole, where a place is told; and the sink took exactly the lines on it.
pub record Accepts (command : Command) (before after : Environment) (out out' : Watched (List ℕ)) : Type 0 where
  pub asked : Asked command before after
  pub chain : TrustChain
  pub found : FoundIs asked (Ok chain)
  pub delivered : Delivers asked.layout.trusted_root chain.file before.outside.shelf after.outside.shelf
  pub text : List ℕ
  pub lines : chain_text (codes "trusted") chain ≡ Ok text
  pub written : TakesAll out out' text

-- What status 1 means: the archive is refused, for its cause, or its chain's timestamp has a version below the least one; nothing was put in
-- place; and the sink took exactly the line that says so.
pub record Refuses (command : Command) (before after : Environment) (out out' : Watched (List ℕ)) : Type 0 where
  pub asked : Asked command before after
  pub why : CheckFault
  pub found : FoundIs asked (Err why)
  pub untouched : after.outside.shelf ≡ before.outside.shelf
  pub said : Answer
  pub said_is : fault_answer why ≡ Some said
  pub refused : said.status ≡ status.Refused
  pub written : TakesAll out out' said.text

-- What status 3 means besides: the archive couldn't be read, or is longer than 256 MiB.
pub record LacksArchive (command : Command) (before after : Environment) (out out' : Watched (List ℕ)) : Type 0 where
  pub asked : Asked command before after
  pub unread : FoundIs asked (Err Unread)
  pub untouched : after.outside.shelf ≡ before.outside.shelf
  pub written : TakesAll out out' unread_answer.text

-- What status 4 means besides: the trusted root of a chain that was found couldn't be put in its place.
pub record Withholds (command : Command) (before after : Environment) (out out' : Watched (List ℕ)) : Type 0 where
  pub asked : Asked command before after
  pub chain : TrustChain
  pub found : FoundIs asked (Ok chain)
  pub undelivered : Undelivered asked.layout.trusted_root chain.file before.outside.shelf after.outside.shelf
  pub written : TakesAll out out' undelivered_answer.text

-- What each status means. 4: the count of the sink's faults rose, or the shelf's did. 5: nothing was written.
abbrev pub Means : Command → Environment → Environment → Watched (List ℕ) → Watched (List ℕ) → Status → Type 0
Means command before after out out' status.Accepted = Accepts command before after out out'
Means command before after out out' status.Refused = Refuses command before after out out'
Means command before after out out' status.Usage = Misuses (check_layout_of command.words) before after out out'
Means command before after out out' status.Input = LacksInput before after out out' ⊎ LacksArchive command before after out out'
Means command before after out out' status.Output = Rose out.faults out'.faults ⊎ Withholds command before after out out'
Means command before after out out' status.Memory = out' ≡ out

-- ---- whatever the status

-- the shelf took the trusted root of a chain that was found, whole, under the name that is told
pub record Shelved (command : Command) (before after : Environment) : Type 0 where
  pub asked : Asked command before after
  pub chain : TrustChain
  pub found : FoundIs asked (Ok chain)
  pub path : List ℕ
  pub path_is : asked.layout.trusted_root ≡ Some path
  pub taken : after.outside.shelf.told ≡ with_files before.outside.shelf.told (placed path chain.file ∷ [])

-- Nothing else is put in place, and nothing before a chain was found.
abbrev pub Shelves : Command → Environment → Environment → Type 0
Shelves command before after = (after.outside.shelf.told ≡ before.outside.shelf.told) ⊎ Shelved command before after
