-- What follows what is said of a verification: the lines behind the report, and the payload in its place.
use Rattle.std.specs.Prelude.{◌≡◌, ℕ, List, ◌++◌, codes, Bool, if◌then◌else◌, Option, Some, None, Result, Ok, Err}
use Rattle.foundation.specs.Watched.{Watched}
use Rattle.foundation.specs.declared.no_memory.NoMemory.{NoMemory as OutOfMemory}
use Rattle.sigstore_judgement.specs.declared.rules.JudgedByRule.{JudgedByRule}
use Rattle.sigstore_judgement.specs.declared.rules.RulesError.{RulesError}
use Rattle.command_files.specs.Answer.{answer}
use Rattle.command_files.specs.Printed.{number_line, pair_line, refused_line}
use Rattle.command_files.specs.declared.answer.Answer.{Answer}
use Rattle.command_files.specs.declared.answer.Status.TheVariants as status
use Rattle.command_download.specs.Shelf.{Places}
use Rattle.command_download.specs.declared.shelf.Placed.{Placed}
use Rattle.command_download.specs.declared.shelf.ShelfFault.TheVariants.{Failed}
use Rattle.command_ways.specs.Report.{Answers}
use Rattle.command_ways.specs.declared.judging.Came.{Came}
use Rattle.command_ways.specs.declared.judging.Came.TheVariants.{Untrusted, Judged}
use Rattle.command_ways.specs.declared.report.Telling.{Telling}
use Rattle.verification_details.specs.Details.{details_of}
use Rattle.command_outputs.specs.declared.layout.Outputs.{Outputs}
use Rattle.command_outputs.specs.Payload.{payload_of}

-- ---- what is said

-- an accepted bundle has a message signature, so there is no statement
abbrev pub no_envelope_answer : Answer
no_envelope_answer = answer status.Refused (refused_line (codes "statement") 1 (codes "NoEnvelope"))

-- the statement couldn't be put in its place
abbrev pub unplaced_answer : Answer
unplaced_answer = answer status.Output (pair_line (codes "output") (codes "statement"))

-- which line of a list the bundle is, where it is one of a list
abbrev pub line_added : Option ℕ → List ℕ → List ℕ
line_added None text = text
line_added (Some line) text = text ++ number_line (codes "bundle") line

-- the lines behind the report, where they are asked for
abbrev pub details_added : Bool → List ℕ → JudgedByRule → List ℕ → List ℕ
details_added asked bundle judged text = if asked then text ++ details_of bundle judged else text

-- a report with these two behind it
abbrev pub told_text : Option ℕ → Bool → List ℕ → JudgedByRule → List ℕ → List ℕ
told_text line asked bundle judged text = details_added asked bundle judged (line_added line text)

abbrev pub told_answer : Option ℕ → Bool → List ℕ → JudgedByRule → Answer → Answer
told_answer line asked bundle judged said = answer said.status (told_text line asked bundle judged said.text)

-- ---- where the statement is put

-- The payload is put in its place whole, and then the report is said; or it couldn't be, and that is said, or memory was wanting.
pub data Puts (path payload : List ℕ) (report : Answer) (old new : Watched (List Placed)) (result : Result Answer OutOfMemory)
    : Type 0 where
  want_putting : (e : OutOfMemory) → new.told ≡ old.told → result ≡ Err e → Puts path payload report old new result
  unplaced : Places {T = Unit {0}} old new path payload (Err Failed) → result ≡ Ok unplaced_answer
      → Puts path payload report old new result
  placed : Places {T = Unit {0}} old new path payload (Ok tt) → result ≡ Ok report → Puts path payload report old new result

-- Where the bundle has an envelope, its payload is put in its place; where it has none, nothing is.
pub data Delivers (bundle path : List ℕ) (report : Answer) (old new : Watched (List Placed)) (result : Result Answer OutOfMemory)
    : Type 0 where
  want_payload : (e : OutOfMemory) → new ≡ old → result ≡ Err e → Delivers bundle path report old new result
  no_envelope : payload_of bundle ≡ Ok None → new ≡ old → result ≡ Ok no_envelope_answer → Delivers bundle path report old new result
  delivered : (payload : List ℕ) → payload_of bundle ≡ Ok (Some payload) → Puts path payload report old new result
      → Delivers bundle path report old new result

-- the same where the statement is asked for; else the report is said, and nothing is put anywhere
abbrev pub Gives : Option (List ℕ) → List ℕ → Answer → Watched (List Placed) → Watched (List Placed) → Result Answer OutOfMemory → Type 0
Gives None bundle report old new result = (new ≡ old) × (result ≡ Ok report)
Gives (Some path) bundle report old new result = Delivers bundle path report old new result

-- Of a bundle that is accepted: the lines stand behind the report before the statement is put in its place.
pub data Yields (line : Option ℕ) (outputs : Outputs) (bundle : List ℕ) (judged : JudgedByRule) (said : Answer)
    (old new : Watched (List Placed)) (result : Result Answer OutOfMemory) : Type 0 where
  want_lines : (e : OutOfMemory) → new ≡ old → result ≡ Err e → Yields line outputs bundle judged said old new result
  yields : Gives outputs.statement bundle (told_answer line outputs.details bundle judged said) old new result
      → Yields line outputs bundle judged said old new result

-- What follows what is said of the judgement under a trusted root: what is asked for beside, and only where a rule accepts.
abbrev pub FollowsJudged : Option ℕ → Outputs → List ℕ → Result JudgedByRule RulesError → Answer → Watched (List Placed) → Watched (List Placed)
    → Result Answer OutOfMemory → Type 0
FollowsJudged line outputs bundle (Ok judged) said old new result = Yields line outputs bundle judged said old new result
FollowsJudged line outputs bundle (Err e) said old new result = (new ≡ old) × (result ≡ Ok said)

-- the same of the verification
abbrev pub Follows : Option ℕ → Outputs → List ℕ → Came → Answer → Watched (List Placed) → Watched (List Placed) → Result Answer OutOfMemory → Type 0
Follows line outputs bundle (Untrusted why) said old new result = (new ≡ old) × (result ≡ Ok said)
Follows line outputs bundle (Judged trust judged) said old new result = FollowsJudged line outputs bundle judged said old new result

-- the same, or memory was wanting before
pub data Concludes (telling : Telling) (line : Option ℕ) (outputs : Outputs) (bundle : List ℕ) (came : Came) (old new : Watched (List Placed))
    (result : Result Answer OutOfMemory) : Type 0 where
  want_saying : (e : OutOfMemory) → new ≡ old → result ≡ Err e → Concludes telling line outputs bundle came old new result
  follows : (said : Answer) → Answers telling came said → Follows line outputs bundle came said old new result
      → Concludes telling line outputs bundle came old new result
