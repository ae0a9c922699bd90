-- What the statuses of a run over a list of bundles mean, and what is in the statement's place then.
use Rattle.std.specs.Prelude.{◌≡◌, ◌⊎◌, ℕ, List, codes, Some, None, Result, Ok, Err}
use Rattle.jiff_core.specs.declared.timestamp.Timestamp as jiff
use Rattle.foundation.specs.Watched.{Watched, Rose, IfTold}
use Rattle.sigstore_judgement.specs.declared.error.Error.{Error}
use Rattle.sigstore_judgement.specs.declared.rules.JudgedByRule.{JudgedByRule}
use Rattle.sigstore_verify.specs.Inputs.{Anchor}
use Rattle.release_gate.specs.Gate.{kept_of}
use Rattle.command_files.specs.Ending.{TakesAll}
use Rattle.command_files.specs.Gather.{word_of}
use Rattle.command_files.specs.Printed.{pair_line}
use Rattle.command_files.specs.Starting.{Command, now_of, Begins, Misuses}
use Rattle.command_files.specs.declared.answer.Answer.{Answer}
use Rattle.command_files.specs.declared.answer.Status.{Status}
use Rattle.command_files.specs.declared.answer.Status.TheVariants as status
use Rattle.command_files.specs.declared.gather.CommandStop.TheVariants.{Input}
use Rattle.command_files.specs.declared.inputs.InputFile.{InputFile}
use Rattle.command_verify.specs.Run.{anchor_of, verify_answer}
use Rattle.command_archive.specs.Reading.{unread_answer}
use Rattle.command_ways.specs.Report.{way_text, untrusted_answer}
use Rattle.command_ways.specs.Trust.{file_of, IsTrusted, GivesTrust}
use Rattle.command_ways.specs.declared.trust.Trust.{Trust}
use Rattle.command_ways.specs.declared.trust.TrustFault.{TrustFault}
use Rattle.command_ways.specs.declared.trust.TrustFault.TheVariants.{Unread}
use Rattle.command_outputs.specs.declared.layout.OutputsLayout.{OutputsLayout}
use Rattle.command_outputs.specs.Concluding.{no_envelope_answer, unplaced_answer, told_text}
use Rattle.command_outputs.specs.Payload.{payload_of}
use Rattle.command_outputs.specs.Promises.{IsPut, IsUntouched, IsGiven}
use Rattle.command_outputs.specs.Run.{Environment}
use Rattle.command_bundles.specs.declared.judging.BundleRefusal.{BundleRefusal}
use Rattle.command_bundles.specs.declared.lines.ListFault.{ListFault}
use Rattle.command_bundles.specs.declared.lines.ListedBundle.{ListedBundle}
use Rattle.command_bundles.specs.declared.listed.Listed.{Listed}
use Rattle.command_bundles.specs.Concluding.{list_answer, refusals_text}
use Rattle.command_bundles.specs.Judging.{Search, JudgesList}
use Rattle.command_bundles.specs.Layout.{bundles_layout_of}
use Rattle.command_bundles.specs.Lines.{listed_of}
use Rattle.command_bundles.specs.Listed.{listed_in}
use Rattle.command_bundles.specs.Run.{given_by, telling_of}

-- the words give a layout, and the inputs were read
pub record Asked (command : Command) (before after : Environment) : Type 0 where
  pub layout : OutputsLayout
  pub listed : Listed
  pub read : Begins (bundles_layout_of command.words) listed_in before.inputs after.inputs layout listed

abbrev pub now_in : {command : Command} {before after : Environment} → Asked command before after → jiff.Timestamp
now_in {command} asked = now_of asked.layout.verification.places command.clock

abbrev pub anchor_in : {command : Command} {before after : Environment} → Asked command before after → Anchor
anchor_in asked = anchor_of asked.listed.governed.anchored (now_in asked)

-- the list has these bundles
abbrev pub Lists : {command : Command} {before after : Environment} → Asked command before after → Result (List ListedBundle) ListFault → Type 0
Lists asked result = listed_of asked.listed.list ≡ result

-- what came of the search for a trusted root
abbrev pub TrustIs : {command : Command} {before after : Environment} → Asked command before after → Result Trust TrustFault → Type 0
TrustIs {command} {before} {after} asked result =
    GivesTrust (anchor_in asked) asked.layout.verification.way.by before.outside.verified.sources after.outside.verified.sources result

-- and of the search in the list under it
abbrev pub SearchIs : {command : Command} {before after : Environment} → Asked command before after → List ListedBundle → Trust → Search → Type 0
SearchIs {command} {before} {after} asked bundles trust search =
    JudgesList (given_by asked.listed (now_in asked) bundles) (file_of trust) asked.layout.verification.way.told
    before.outside.verified.source after.outside.verified.source search

-- there is a trusted root, by the way that the words tell, and the list has bundles
pub record IsUnder (command : Command) (before after : Environment) : Type 0 where
  pub asked : Asked command before after
  pub bundles : List ListedBundle
  pub lists : Lists asked (Ok bundles)
  pub trust : Trust
  pub given : TrustIs asked (Ok trust)
  pub trusted : IsTrusted (anchor_in asked) trust

-- under it a rule accepts this bundle of the list, and no rule an earlier one
pub record IsAccepted (command : Command) (before after : Environment) : Type 0 where
  pub under : IsUnder command before after
  pub bundle : ListedBundle
  pub judged : JudgedByRule
  pub first : SearchIs under.asked under.bundles under.trust (Ok (bundle, judged))

-- ---- status 0

-- What status 0 means. This bundle is the first that a rule accepts, and its payload is in the statement's place, where one is named. The
-- sink took exactly the report of `verify`, the number of the bundle's line, and the lines on it where they are asked for.
pub record Accepts (command : Command) (before after : Environment) (out out' : Watched (List ℕ)) : Type 0 where
  pub accepted : IsAccepted command before after
  pub given : IsGiven accepted.under.asked.layout.outputs.statement accepted.bundle.text before.outside.shelf after.outside.shelf
  pub text : List ℕ
  pub reported : way_text accepted.under.trust accepted.judged
      (telling_of accepted.under.asked.listed accepted.under.asked.layout.verification.way.told) ≡ Ok text
  pub written : TakesAll out out'
      (told_text (Some accepted.bundle.line) accepted.under.asked.layout.outputs.details accepted.bundle.text accepted.judged text)

-- ---- status 1

-- What status 1 means. The list has no bundle, or too many, and nothing but the inputs was called. Or there is no trusted root, or it can't be
-- used, and the artifact wasn't called. Or every bundle is refused. Or the statement is asked for, and the first that is accepted has a
-- message signature. The sink took exactly the lines that say so.
pub data Declines (command : Command) (before after : Environment) (out out' : Watched (List ℕ)) : Type 0 where
  no_list : (asked : Asked command before after) (fault : ListFault) (said : Answer) → Lists asked (Err fault)
      → after.outside ≡ before.outside → list_answer fault ≡ Some said → TakesAll out out' said.text
      → Declines command before after out out'
  no_trust : (asked : Asked command before after) (bundles : List ListedBundle) (fault : TrustFault) (said : Answer) → Lists asked (Ok bundles)
      → TrustIs asked (Err fault) → after.outside.verified.source ≡ before.outside.verified.source → untrusted_answer fault ≡ Some said
      → said.status ≡ status.Refused → TakesAll out out' said.text → Declines command before after out out'
  unusable : (under : IsUnder command before after) (e : Error) → after.outside.verified.source ≡ before.outside.verified.source
      → kept_of (file_of under.trust) ≡ Err e → TakesAll out out' (verify_answer e).text → Declines command before after out out'
  none_accepted : (under : IsUnder command before after) (refusals : List BundleRefusal)
      → SearchIs under.asked under.bundles under.trust (Err refusals) → TakesAll out out' (refusals_text refusals)
      → Declines command before after out out'
  no_envelope : (accepted : IsAccepted command before after) (path : List ℕ) → accepted.under.asked.layout.outputs.statement ≡ Some path
      → payload_of accepted.bundle.text ≡ Ok None → TakesAll out out' no_envelope_answer.text → Declines command before after out out'

-- ---- the other statuses

-- This input is the last that wasn't given. The count of the inputs' faults rose, or told inputs lack it or hold it longer than its limit,
-- which is that of a list. Nothing else was called, and the sink took exactly the line that names it.
pub record LacksOne (before after : Environment) (out out' : Watched (List ℕ)) : Type 0 where
  pub which : InputFile
  pub missing : after.inputs.missing ≡ Some which
  pub why : Rose before.inputs.faults after.inputs.faults ⊎ IfTold before.inputs.told (λ held. listed_in held ≡ Err (Input which))
  pub same : after.outside ≡ before.outside
  pub written : TakesAll out out' (pair_line (codes "input") (word_of which))

-- the archive can't be read, or is longer than 256 MiB
pub record LacksArchive (command : Command) (before after : Environment) (out out' : Watched (List ℕ)) : Type 0 where
  pub asked : Asked command before after
  pub bundles : List ListedBundle
  pub lists : Lists asked (Ok bundles)
  pub unread : TrustIs asked (Err Unread)
  pub untouched : after.outside.verified.source ≡ before.outside.verified.source
  pub written : TakesAll out out' unread_answer.text

-- this is the statement's file, and the payload of the accepted bundle
pub record IsStatement {command : Command} {before after : Environment} (accepted : IsAccepted command before after) (path payload : List ℕ)
    : Type 0 where
  pub named : accepted.under.asked.layout.outputs.statement ≡ Some path
  pub signed : payload_of accepted.bundle.text ≡ Ok (Some payload)

-- The payload of the accepted bundle couldn't be put in the statement's place, where all is as it was. The count of the shelf's faults rose,
-- and the sink took exactly the line that says so.
pub record Unplaces (command : Command) (before after : Environment) (out out' : Watched (List ℕ)) : Type 0 where
  pub accepted : IsAccepted command before after
  pub path : List ℕ
  pub payload : List ℕ
  pub statement : IsStatement accepted path payload
  pub rose : Rose before.outside.shelf.faults after.outside.shelf.faults
  pub same : after.outside.shelf.told ≡ before.outside.shelf.told
  pub written : TakesAll out out' unplaced_answer.text

-- What each status means. 1 and 3: nothing was put anywhere. 4: the count of the sink's faults rose, or the shelf's did. 5: nothing was
-- written, and nothing was put anywhere.
abbrev pub Means : Command → Environment → Environment → Watched (List ℕ) → Watched (List ℕ) → Status → Type 0
Means command before after out out' status.Accepted = Accepts command before after out out'
Means command before after out out' status.Refused = Declines command before after out out' × IsUntouched before after
Means command before after out out' status.Usage = Misuses (bundles_layout_of command.words) before after out out'
Means command before after out out' status.Input =
    (LacksOne before after out out' ⊎ LacksArchive command before after out out') × IsUntouched before after
Means command before after out out' status.Output = Rose out.faults out'.faults ⊎ Unplaces command before after out out'
Means command before after out out' status.Memory = (out' ≡ out) × (after.outside.shelf.told ≡ before.outside.shelf.told)

-- ---- whatever the status

-- the payload of the accepted bundle was put in the statement's place
pub record IsDelivered (command : Command) (before after : Environment) : Type 0 where
  pub accepted : IsAccepted command before after
  pub path : List ℕ
  pub payload : List ℕ
  pub statement : IsStatement accepted path payload
  pub put : IsPut path payload before.outside.shelf after.outside.shelf

-- Nothing is put anywhere but the payload of the first accepted bundle, whole, in the place that the words name.
abbrev pub Keeps : Command → Environment → Environment → Type 0
Keeps command before after = (after.outside.shelf.told ≡ before.outside.shelf.told) ⊎ IsDelivered command before after
