-- A run of `verify` in any way: what it reads, what it says, and what it writes.
use Rattle.std.specs.Prelude.{◌≡◌, ◌≢◌, ◌⊎◌, ℕ, List, Option, Some, is_some, Result, Ok, Err}
use Rattle.jiff_core.specs.declared.timestamp.Timestamp as jiff
use Rattle.foundation.specs.Watched.{Watched, Rose}
use Rattle.foundation.specs.declared.no_memory.NoMemory.{NoMemory as OutOfMemory}
use Rattle.sigstore_tuf_outside.specs.Repository.{Files, Folders}
use Rattle.sigstore_judgement.specs.declared.error.Error.TheVariants.{NoMemory}
use Rattle.sigstore_judgement.specs.declared.rules.JudgedByRule.{JudgedByRule}
use Rattle.sigstore_judgement.specs.declared.rules.RulesError.{RulesError}
use Rattle.sigstore_judgement.specs.declared.rules.RulesError.TheVariants.{Shared}
use Rattle.sigstore_judgement.specs.UnderRules.{RulesAsked}
use Rattle.sigstore_verify.specs.ByRules.{rules_asked_by}
use Rattle.sigstore_verify.specs.Inputs.{Anchor}
use Rattle.command_files.specs.Ending.{TakesAll, SaysAndEnds}
use Rattle.command_files.specs.Gather.{gathered_of}
use Rattle.command_files.specs.Inputs.{Supply}
use Rattle.command_files.specs.Starting as start
use Rattle.command_files.specs.Starting.{Command, now_of, Begins, Decides, Misuses, LacksInput}
use Rattle.command_files.specs.declared.answer.Answer.{Answer}
use Rattle.command_files.specs.declared.answer.Status.{Status}
use Rattle.command_files.specs.declared.answer.Status.TheVariants as status
use Rattle.command_files.specs.declared.gather.Gathered.{Gathered}
use Rattle.command_verify.specs.Run.{given_by, are_several}
use Rattle.command_archive.specs.Reading.{unread_answer}
use Rattle.command_ways.specs.declared.judging.Came.{Came}
use Rattle.command_ways.specs.declared.layout.Way.{Way}
use Rattle.command_ways.specs.declared.layout.WayLayout.{WayLayout}
use Rattle.command_ways.specs.declared.report.Telling.{Telling}
use Rattle.command_ways.specs.declared.trust.Trust.{Trust}
use Rattle.command_ways.specs.declared.trust.TrustFault.{TrustFault}
use Rattle.command_ways.specs.declared.trust.TrustFault.TheVariants.{Unread}
use Rattle.command_ways.specs.Digests.{Digest}
use Rattle.command_ways.specs.Judging.{Judges, Outside, outside_by, VerifiesWay, RefusalCause}
use Rattle.command_ways.specs.Layout.{way_layout_of}
use Rattle.command_ways.specs.Report.{way_text, untrusted_answer, refused_answer, Answers}
use Rattle.command_ways.specs.Trust.{file_of, IsTrusted, GivesTrust}

-- ---- what is given

-- what a run finds and leaves, but for its output
abbrev pub Environment : Type 0
Environment = start.Environment Outside

abbrev pub environment_by : Supply → Watched Folders → Watched Files → Watched (List ℕ) → Watched (List ℕ) → Environment
environment_by inputs repo store archive source = record { inputs = inputs; outside = outside_by repo store archive source }

-- from what the trusted root is trusted, and what is asked under it: as in the first way
abbrev pub anchor_for : Gathered → jiff.Timestamp → Anchor
anchor_for gathered now = (given_by gathered now).anchor

abbrev pub asked_for : Gathered → jiff.Timestamp → RulesAsked
asked_for gathered now = rules_asked_by (given_by gathered now)

abbrev pub telling_of : Gathered → Option (List Digest) → Telling
telling_of gathered told = record { several = are_several gathered; told = is_some told }

-- ---- what is said

-- what the verification came to, and what is said of it; or memory was wanting
pub data JudgesWay (way : Way) (gathered : Gathered) (now : jiff.Timestamp) (before after : Outside) (result : Result Answer OutOfMemory)
    : Type 0 where
  want_judging : (e : OutOfMemory) → result ≡ Err e → JudgesWay way gathered now before after result
  answered : (came : Came) (said : Answer) → VerifiesWay (given_by gathered now) way before after came
      → Answers (telling_of gathered way.told) came said → result ≡ Ok said → JudgesWay way gathered now before after result

-- the words first, then the inputs, then the verification; the first that refuses answers
abbrev pub Says : Command → Environment → Environment → Result Answer OutOfMemory → Type 0
Says command before after result =
    Decides (way_layout_of command.words) gathered_of (λ said. said)
    (λ layout gathered. JudgesWay layout.way gathered (now_of layout.places command.clock)) before after result

abbrev pub RunsTo : Command → Environment → Environment → Watched (List ℕ) → Watched (List ℕ) → Status → Type 0
RunsTo command before after out out' ended = SaysAndEnds (Says command before after) out out' ended

-- ---- what the statuses mean

-- the words give a layout, and the inputs were read
pub record Asked (command : Command) (before after : Environment) : Type 0 where
  pub layout : WayLayout
  pub gathered : Gathered
  pub read : Begins (way_layout_of command.words) gathered_of before.inputs after.inputs layout gathered

abbrev pub now_in : {command : Command} {before after : Environment} → Asked command before after → jiff.Timestamp
now_in {command} asked = now_of asked.layout.places command.clock

-- what came of the search for a trusted root
abbrev pub TrustIs : {command : Command} {before after : Environment} → Asked command before after → Result Trust TrustFault → Type 0
TrustIs {command} {before} {after} asked result =
    GivesTrust (anchor_for asked.gathered (now_in asked)) asked.layout.way.by before.outside.sources after.outside.sources result

-- and of the judgement under it
abbrev pub JudgedIs : {command : Command} {before after : Environment} → Asked command before after → Trust → Result JudgedByRule RulesError → Type 0
JudgedIs {command} {before} {after} asked trust answer =
    Judges (asked_for asked.gathered (now_in asked)) (file_of trust) asked.layout.way.told before.outside.source after.outside.source answer

-- What status 0 means: by the way that the words tell a trusted root was given; under it a rule accepts the bundle, over the artifact's
-- bytes or its told digests; and the sink took exactly the report.
pub record Accepts (command : Command) (before after : Environment) (out out' : Watched (List ℕ)) : Type 0 where
  pub asked : Asked command before after
  pub trust : Trust
  pub given : TrustIs asked (Ok trust)
  pub trusted : IsTrusted (anchor_for asked.gathered (now_in asked)) trust
  pub judged : JudgedByRule
  pub accepted : JudgedIs asked trust (Ok judged)
  pub text : List ℕ
  pub reported : way_text trust judged (telling_of asked.gathered asked.layout.way.told) ≡ Ok text
  pub written : TakesAll out out' text

-- What status 1 means: there is no trusted root, and the artifact wasn't called; or under it the judgement refuses, for its cause; and the
-- sink took exactly the refusal's lines.
pub data Refuses (command : Command) (before after : Environment) (out out' : Watched (List ℕ)) : Type 0 where
  no_trust : (asked : Asked command before after) (fault : TrustFault) (said : Answer) → TrustIs asked (Err fault)
      → after.outside.source ≡ before.outside.source → untrusted_answer fault ≡ Some said → said.status ≡ status.Refused
      → TakesAll out out' said.text → Refuses command before after out out'
  under_trust : (asked : Asked command before after) (trust : Trust) (e : RulesError) (said : Answer) → TrustIs asked (Ok trust)
      → IsTrusted (anchor_for asked.gathered (now_in asked)) trust → JudgedIs asked trust (Err e)
      → RefusalCause (asked_for asked.gathered (now_in asked)) (file_of trust) asked.layout.way.told before.outside.source after.outside.source e
      → e ≢ Shared NoMemory → said ≡ refused_answer e → TakesAll out out' said.text → Refuses command before after out out'

-- What status 3 means besides: the archive couldn't be read, or is longer than 256 MiB.
pub record LacksArchive (command : Command) (before after : Environment) (out out' : Watched (List ℕ)) : Type 0 where
  pub asked : Asked command before after
  pub unread : TrustIs asked (Err Unread)
  pub untouched : after.outside.source ≡ before.outside.source
  pub written : TakesAll out out' unread_answer.text

-- What each status means. 4: the count of the sink's faults rose. 5: nothing was written.
abbrev pub Means : Command → Environment → Environment → Watched (List ℕ) → Watched (List ℕ) → Status → Type 0
Means command before after out out' status.Accepted = Accepts command before after out out'
Means command before after out out' status.Refused = Refuses command before after out out'
Means command before after out out' status.Usage = Misuses (way_layout_of command.words) before after out out'
Means command before after out out' status.Input = LacksInput before after out out' ⊎ LacksArchive command before after out out'
Means command before after out out' status.Output = Rose out.faults out'.faults
Means command before after out out' status.Memory = out' ≡ out
