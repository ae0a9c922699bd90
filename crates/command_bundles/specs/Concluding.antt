-- What is said of a list of bundles, and what follows where one is accepted.
use Rattle.std.specs.Prelude.{◌≡◌, ℕ, List, [], ◌∷◌, ◌++◌, codes, Option, Some, None, Result, Ok, Err, IfOk}
use Rattle.foundation.specs.Watched.{Watched}
use Rattle.foundation.specs.declared.no_memory.NoMemory.{NoMemory as OutOfMemory}
use Rattle.sigstore_judgement.specs.declared.rules.RulesError.TheVariants.{Shared}
use Rattle.command_files.specs.Answer.{answer}
use Rattle.command_files.specs.Printed.{number_line, refused_line}
use Rattle.command_files.specs.declared.answer.Answer.{Answer}
use Rattle.command_files.specs.declared.answer.Status.TheVariants as status
use Rattle.command_download.specs.declared.shelf.Placed.{Placed}
use Rattle.command_ways.specs.Report.{untrusted_answer, refused_answer, RefusesSo}
use Rattle.command_ways.specs.declared.judging.Came.TheVariants as ways
use Rattle.command_ways.specs.declared.report.Telling.{Telling}
use Rattle.command_ways.specs.declared.trust.Trust.{Trust}
use Rattle.command_outputs.specs.declared.layout.Outputs.{Outputs}
use Rattle.command_outputs.specs.Concluding.{Concludes}
use Rattle.command_bundles.specs.Judging.{Search, found_as}
use Rattle.command_bundles.specs.declared.judging.BundleRefusal.{BundleRefusal}
use Rattle.command_bundles.specs.declared.judging.ListCame.{ListCame}
use Rattle.command_bundles.specs.declared.judging.ListCame.TheVariants.{Untrusted, Unusable, Judged}
use Rattle.command_bundles.specs.declared.lines.ListFault.{ListFault}
use Rattle.command_bundles.specs.declared.lines.ListFault.TheVariants.{NoBundle, TooManyBundles, NoMemory}

-- ---- what is said

-- of a list whose bundles aren't judged; nothing out of memory
abbrev pub list_answer : ListFault → Option Answer
list_answer NoBundle = Some (answer status.Refused (refused_line (codes "bundles") 1 (codes "NoBundle")))
list_answer TooManyBundles = Some (answer status.Refused (refused_line (codes "bundles") 2 (codes "TooManyBundles")))
list_answer NoMemory = None

-- of a bundle that every rule refuses: the number of its line, and what is said of its refusal where it is the only one
abbrev pub refusal_text : BundleRefusal → List ℕ
refusal_text refusal = number_line (codes "bundle") refusal.line ++ (refused_answer refusal.why).text

abbrev pub refusals_text : List BundleRefusal → List ℕ
refusals_text [] = []
refusals_text (refusal ∷ refusals) = refusal_text refusal ++ refusals_text refusals

-- of bundles that every rule refuses, in their order
abbrev pub refusals_answer : List BundleRefusal → Answer
refusals_answer refusals = answer status.Refused (refusals_text refusals)

-- ---- what follows

-- The first bundle that is accepted is told with its line, and what is asked for beside follows, of this bundle. Or each is told with its
-- refusal, and nothing is put anywhere.
abbrev pub ConcludesFound : Telling → Outputs → Trust → Search → Watched (List Placed) → Watched (List Placed) → Result Answer OutOfMemory → Type 0
ConcludesFound telling outputs trust (Ok (bundle, judged)) old new result =
    Concludes telling (Some bundle.line) outputs bundle.text (ways.Judged trust (Ok judged)) old new result
ConcludesFound telling outputs trust (Err refusals) old new result = (new ≡ old) × IfOk result (λ said. said ≡ refusals_answer refusals)

-- the same; or that there is no trusted root, or that it can't be used
abbrev pub ConcludesList : Telling → Outputs → ListCame → Watched (List Placed) → Watched (List Placed) → Result Answer OutOfMemory → Type 0
ConcludesList telling outputs (Untrusted why) old new result = (new ≡ old) × IfOk result (λ said. untrusted_answer why ≡ Some said)
ConcludesList telling outputs (Unusable trust e) old new result = (new ≡ old) × IfOk result (RefusesSo (Shared e))
ConcludesList telling outputs (Judged trust found) old new result = ConcludesFound telling outputs trust (found_as found) old new result

-- the same where memory may have been wanting before
abbrev pub ConcludesCame : Telling → Outputs → Result ListCame OutOfMemory → Watched (List Placed) → Watched (List Placed) → Result Answer OutOfMemory → Type 0
ConcludesCame telling outputs (Ok came) old new result = ConcludesList telling outputs came old new result
ConcludesCame telling outputs (Err e) old new result = (new ≡ old) × (result ≡ Err e)
