-- A run of `verify` over a list of bundles: what it goes to, and what it says.
use Rattle.std.specs.Prelude.{◌≡◌, ◌≢◌, ℕ, nat_lt, List, length, map, Option, Some, is_some, Result, Ok, Err, IfOk}
use Rattle.jiff_core.specs.declared.timestamp.Timestamp as jiff
use Rattle.foundation.specs.Watched.{Watched}
use Rattle.foundation.specs.declared.no_memory.NoMemory.{NoMemory as OutOfMemory}
use Rattle.sigstore_policy.specs.Policy.{meaning_in}
use Rattle.command_files.specs.Ending.{SaysAndEnds}
use Rattle.command_files.specs.Starting.{Command, now_of, Decides}
use Rattle.command_files.specs.declared.answer.Answer.{Answer}
use Rattle.command_files.specs.declared.answer.Status.{Status}
use Rattle.command_verify.specs.Run.{anchor_of}
use Rattle.command_ways.specs.Digests.{Digest}
use Rattle.command_ways.specs.declared.layout.Way.{Way}
use Rattle.command_ways.specs.declared.report.Telling.{Telling}
use Rattle.command_outputs.specs.declared.layout.Outputs.{Outputs}
use Rattle.command_outputs.specs.Run.{Outside, Environment}
use Rattle.command_bundles.specs.declared.judging.ListCame.{ListCame}
use Rattle.command_bundles.specs.declared.lines.ListFault.{ListFault}
use Rattle.command_bundles.specs.declared.lines.ListFault.TheVariants.{NoMemory}
use Rattle.command_bundles.specs.declared.lines.ListedBundle.{ListedBundle}
use Rattle.command_bundles.specs.declared.listed.Listed.{Listed}
use Rattle.command_bundles.specs.Concluding.{list_answer, ConcludesCame}
use Rattle.command_bundles.specs.Judging.{ListInputs, inputs_by, VerifiesList}
use Rattle.command_bundles.specs.Layout.{bundles_layout_of}
use Rattle.command_bundles.specs.Lines.{listed_of}
use Rattle.command_bundles.specs.Listed.{listed_in}

-- from what the trusted root is trusted, and what is asked of the bundles under it
abbrev pub given_by : Listed → jiff.Timestamp → List ListedBundle → ListInputs
given_by listed now bundles = inputs_by (anchor_of listed.governed.anchored now) (map meaning_in listed.governed.rules) bundles

-- how an acceptance is told
abbrev pub telling_of : Listed → Option (List Digest) → Telling
telling_of listed told = record { several = nat_lt 1 (length listed.governed.rules); told = is_some told }

-- the verification of the bundles, and what follows it; memory may be wanting
pub record VerifiesAndConcludes (way : Way) (outputs : Outputs) (listed : Listed) (now : jiff.Timestamp) (bundles : List ListedBundle)
    (before after : Outside) (result : Result Answer OutOfMemory) : Type 0 where
  pub came : Result ListCame OutOfMemory
  pub verifies : IfOk came (VerifiesList (given_by listed now bundles) way before.verified after.verified)
  pub concludes : ConcludesCame (telling_of listed way.told) outputs came before.shelf after.shelf result

-- The list has bundles, and they are verified; or it hasn't, or too many, and nothing is called.
pub data JudgesBundles (way : Way) (outputs : Outputs) (listed : Listed) (now : jiff.Timestamp) (before after : Outside)
    (result : Result Answer OutOfMemory) : Type 0 where
  unlisted : (fault : ListFault) → (fault ≢ NoMemory → listed_of listed.list ≡ Err fault) → after ≡ before
      → IfOk result (λ said. list_answer fault ≡ Some said) → JudgesBundles way outputs listed now before after result
  verified : (bundles : List ListedBundle) → listed_of listed.list ≡ Ok bundles
      → VerifiesAndConcludes way outputs listed now bundles before after result → JudgesBundles way outputs listed now before after result

-- the words first, then the inputs, then the list; the first that refuses answers
abbrev pub Says : Command → Environment → Environment → Result Answer OutOfMemory → Type 0
Says command before after result =
    Decides (bundles_layout_of command.words) listed_in (λ said. said)
    (λ layout listed. JudgesBundles layout.verification.way layout.outputs listed (now_of layout.verification.places command.clock))
    before after result

abbrev pub RunsTo : Command → Environment → Environment → Watched (List ℕ) → Watched (List ℕ) → Status → Type 0
RunsTo command before after out out' ended = SaysAndEnds (Says command before after) out out' ended
