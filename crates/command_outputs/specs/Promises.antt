-- What the statuses of a run mean that is asked for more than the report, and what is in the statement's place then.
use Rattle.std.specs.Prelude.{◌≡◌, ◌⊎◌, ℕ, List, [], ◌∷◌, Option, Some, None, Ok}
use Rattle.foundation.specs.Watched.{Watched, Rose}
use Rattle.sigstore_judgement.specs.declared.rules.JudgedByRule.{JudgedByRule}
use Rattle.command_files.specs.Ending.{TakesAll}
use Rattle.command_files.specs.Starting.{Command, Misuses, LacksInput}
use Rattle.command_files.specs.declared.answer.Status.{Status}
use Rattle.command_files.specs.declared.answer.Status.TheVariants as status
use Rattle.command_download.specs.Shelf.{placed, with_files}
use Rattle.command_download.specs.declared.shelf.Placed.{Placed}
use Rattle.command_ways.specs.Report.{way_text}
use Rattle.command_ways.specs.Run as run
use Rattle.command_ways.specs.Run.{anchor_for, now_in, telling_of, TrustIs, JudgedIs}
use Rattle.command_ways.specs.declared.trust.Trust.{Trust}
use Rattle.command_ways.specs.Trust.{IsTrusted}
use Rattle.command_outputs.specs.declared.layout.OutputsLayout.{OutputsLayout}
use Rattle.command_outputs.specs.Concluding.{no_envelope_answer, unplaced_answer, told_text}
use Rattle.command_outputs.specs.Layout.{outputs_layout_of}
use Rattle.command_outputs.specs.Payload.{payload_of}
use Rattle.command_outputs.specs.Run.{Environment, verified_in, plain_command}

-- what the run is asked for, as `verify` takes it without the words that ask for more
abbrev pub Asked : Command → Environment → Environment → Type 0
Asked command before after = run.Asked (plain_command command) (verified_in before) (verified_in after)

-- The bundle is accepted: by the way that the words tell a trusted root was given, and under it a rule accepts.
pub record IsAccepted (command : Command) (before after : Environment) : Type 0 where
  pub asked : Asked command before after
  pub trust : Trust
  pub given : TrustIs asked (Ok trust)
  pub trusted : IsTrusted (anchor_for asked.gathered (now_in asked)) trust
  pub judged : JudgedByRule
  pub accepted : JudgedIs asked trust (Ok judged)

-- what the words ask for beside the report
pub record AsksFor (command : Command) : Type 0 where
  pub layout : OutputsLayout
  pub worded : outputs_layout_of command.words ≡ Ok layout

-- the words name this file for the statement, and the bundle's bytes are an envelope's with this payload
pub record IsStatement (command : Command) (bundle path payload : List ℕ) : Type 0 where
  pub asks : AsksFor command
  pub named : asks.layout.outputs.statement ≡ Some path
  pub signed : payload_of bundle ≡ Ok (Some payload)

-- exactly these octets were put in the place of the file of this name, whole, and nothing else was
abbrev pub IsPut : List ℕ → List ℕ → Watched (List Placed) → Watched (List Placed) → Type 0
IsPut path payload old new = new.told ≡ with_files old.told (placed path payload ∷ [])

-- nothing was put anywhere
abbrev pub IsUntouched : Environment → Environment → Type 0
IsUntouched before after = after.outside.shelf ≡ before.outside.shelf

-- ---- status 0

-- the bundle's payload was put in the place of the file of this name
pub record IsStated (bundle path : List ℕ) (old new : Watched (List Placed)) : Type 0 where
  pub payload : List ℕ
  pub signed : payload_of bundle ≡ Ok (Some payload)
  pub put : IsPut path payload old new

-- the same where a file is named; else nothing was put anywhere
abbrev pub IsGiven : Option (List ℕ) → List ℕ → Watched (List Placed) → Watched (List Placed) → Type 0
IsGiven None bundle old new = new ≡ old
IsGiven (Some path) bundle old new = IsStated bundle path old new

-- What status 0 means: the bundle is accepted; the payload is in the statement's place, where one is named; and the sink took exactly the
-- report of `verify`, with the lines on the bundle behind it where they are asked for.
pub record Accepts (command : Command) (before after : Environment) (out out' : Watched (List ℕ)) : Type 0 where
  pub accepted : IsAccepted command before after
  pub asks : AsksFor command
  pub given : IsGiven asks.layout.outputs.statement accepted.asked.gathered.bundle before.outside.shelf after.outside.shelf
  pub text : List ℕ
  pub reported : way_text accepted.trust accepted.judged (telling_of accepted.asked.gathered accepted.asked.layout.way.told) ≡ Ok text
  pub written : TakesAll out out' (told_text None asks.layout.outputs.details accepted.asked.gathered.bundle accepted.judged text)

-- ---- status 1

-- the statement is asked for, a rule accepts the bundle, which has a message signature, and the sink took exactly the line that says so
pub record LacksEnvelope (command : Command) (before after : Environment) (out out' : Watched (List ℕ)) : Type 0 where
  pub accepted : IsAccepted command before after
  pub asks : AsksFor command
  pub path : List ℕ
  pub named : asks.layout.outputs.statement ≡ Some path
  pub message : payload_of accepted.asked.gathered.bundle ≡ Ok None
  pub written : TakesAll out out' no_envelope_answer.text

-- What status 1 means: what it means of `verify`, or that the accepted bundle has no envelope; and nothing was put anywhere.
abbrev pub Refuses : Command → Environment → Environment → Watched (List ℕ) → Watched (List ℕ) → Type 0
Refuses command before after out out' =
    (run.Refuses (plain_command command) (verified_in before) (verified_in after) out out' ⊎ LacksEnvelope command before after out out')
    × IsUntouched before after

-- ---- the other statuses

-- What status 3 means: an input or the archive can't be read; and nothing was put anywhere.
abbrev pub Lacks : Command → Environment → Environment → Watched (List ℕ) → Watched (List ℕ) → Type 0
Lacks command before after out out' =
    (LacksInput before after out out' ⊎ run.LacksArchive (plain_command command) (verified_in before) (verified_in after) out out')
    × IsUntouched before after

-- the payload of an accepted bundle couldn't be put in the statement's place, where all is as it was; the count of the shelf's faults rose;
-- and the sink took exactly the line that says so
pub record Unplaces (command : Command) (before after : Environment) (out out' : Watched (List ℕ)) : Type 0 where
  pub accepted : IsAccepted command before after
  pub path : List ℕ
  pub payload : List ℕ
  pub statement : IsStatement command accepted.asked.gathered.bundle path payload
  pub rose : Rose before.outside.shelf.faults after.outside.shelf.faults
  pub same : after.outside.shelf.told ≡ before.outside.shelf.told
  pub written : TakesAll out out' unplaced_answer.text

-- What each status means. 4: the count of the sink's faults rose, or the shelf's did. 5: nothing was written, and nothing was put anywhere.
abbrev pub Means : Command → Environment → Environment → Watched (List ℕ) → Watched (List ℕ) → Status → Type 0
Means command before after out out' status.Accepted = Accepts command before after out out'
Means command before after out out' status.Refused = Refuses command before after out out'
Means command before after out out' status.Usage = Misuses (outputs_layout_of command.words) before after out out'
Means command before after out out' status.Input = Lacks command before after out out'
Means command before after out out' status.Output = Rose out.faults out'.faults ⊎ Unplaces command before after out out'
Means command before after out out' status.Memory = (out' ≡ out) × (after.outside.shelf.told ≡ before.outside.shelf.told)

-- ---- whatever the status

-- the payload of the accepted bundle was put in the statement's place
pub record IsDelivered (command : Command) (before after : Environment) : Type 0 where
  pub accepted : IsAccepted command before after
  pub path : List ℕ
  pub payload : List ℕ
  pub statement : IsStatement command accepted.asked.gathered.bundle path payload
  pub put : IsPut path payload before.outside.shelf after.outside.shelf

-- Nothing is put anywhere but the payload of an accepted bundle, whole, in the place that the words name.
abbrev pub Keeps : Command → Environment → Environment → Type 0
Keeps command before after = (after.outside.shelf.told ≡ before.outside.shelf.told) ⊎ IsDelivered command before after
