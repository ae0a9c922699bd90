-- What the parts of a run over a list of bundles say of the whole.
use Rattle.std.proofs.Common.{◌≡◌, ◌≢◌, ℕ, List, Result, Ok, Err, IfOk, sym, ap, ◌∙◌, subst}
use Rattle.foundation.specs.declared.no_memory.NoMemory.{NoMemory as OutOfMemory}
use Rattle.jiff_core.specs.declared.timestamp.Timestamp as jiff
use Rattle.sigstore_judgement.specs.declared.error.Error.TheVariants.{NoMemory}
use Rattle.release_gate.specs.Gate.{kept_of}
use Rattle.command_files.specs.declared.answer.Answer.{Answer}
use Rattle.command_ways.specs.declared.layout.Way.{Way}
use Rattle.command_ways.specs.declared.report.Telling.{Telling}
use Rattle.command_ways.specs.declared.trust.Trust.{Trust}
use Rattle.command_ways.specs.Judging as ways
use Rattle.command_ways.specs.Trust.{file_of, IsTrusted, GivesTrust}
use Rattle.command_ways.proofs.Trusting.{given_trusted}
use Rattle.command_outputs.specs.declared.layout.Outputs.{Outputs}
use Rattle.command_outputs.specs.Run.{Outside}
use Rattle.command_bundles.specs.declared.judging.ListCame.{ListCame}
use Rattle.command_bundles.specs.declared.judging.ListCame.TheVariants.{Untrusted, Unusable, Judged}
use Rattle.command_bundles.specs.declared.lines.ListedBundle.{ListedBundle}
use Rattle.command_bundles.specs.declared.listed.Listed.{Listed}
use Rattle.command_bundles.specs.Concluding.{ConcludesCame}
use Rattle.command_bundles.specs.Judging.{ListInputs, found_as, JudgesList, JudgesUnder, VerifiesList}
use Rattle.command_bundles.specs.Lines.{listed_of}
use Rattle.command_bundles.specs.Run.{given_by, telling_of, VerifiesAndConcludes, JudgesBundles, verified}

-- ---- by the way that gave the trusted root

module _ (given : ListInputs) (way : Way) (before after : ways.Outside) (trust : Trust) (g : GivesTrust given.anchor way.by before.sources after.sources (Ok trust)) where
  given_as : (found : Trust) → found ≡ trust → GivesTrust given.anchor way.by before.sources after.sources (Ok found)
  given_as found same = subst (λ (t : Trust). GivesTrust given.anchor way.by before.sources after.sources (Ok t)) (sym same) g

  trusted_as : (found : Trust) → found ≡ trust → IsTrusted given.anchor found
  trusted_as found same = given_trusted given.anchor way.by before.sources after.sources found (given_as found same)

  by_way : (came : ListCame) → JudgesUnder given trust way.told before.source after.source came → VerifiesList given way before after came
  by_way (Untrusted why) u = absurd u
  by_way (Unusable found e) (same, fails, kept) = (
    given_as found same,
    trusted_as found same,
    subst (λ (t : Trust). e ≢ NoMemory → kept_of (file_of t) ≡ Err e) (sym same) fails,
    kept,
  )
  by_way (Judged found answer) (same, j) = (
    given_as found same,
    trusted_as found same,
    subst (λ (t : Trust). JudgesList given (file_of t) way.told before.source after.source (found_as answer)) (sym same) j,
  )

  pub came_by_way : (came : Result ListCame OutOfMemory) → IfOk came (JudgesUnder given trust way.told before.source after.source)
      → IfOk came (VerifiesList given way before after)
  came_by_way (Ok came) j = by_way came j
  came_by_way (Err e) j = tt

-- ---- the run

-- the verification, and what follows it
pub concludes_so : (way : Way) (outputs : Outputs) (listed : Listed) (now : jiff.Timestamp) (bundles : List ListedBundle) (before after : Outside)
    (came : Result ListCame OutOfMemory) (telling : Telling) (result : Result Answer OutOfMemory) → telling ≡ telling_of listed way.told
    → IfOk came (VerifiesList (given_by listed now bundles) way before.verified after.verified)
    → ConcludesCame telling outputs came before.shelf after.shelf result → VerifiesAndConcludes way outputs listed now bundles before after result
concludes_so way outputs listed now bundles before after came telling result t v c = record {
  came = came;
  verifies = v;
  concludes = subst (λ (x : Telling). ConcludesCame x outputs came before.shelf after.shelf result) t c;
}

-- of the bundles that were read
pub listed_so : (way : Way) (outputs : Outputs) (listed : Listed) (now : jiff.Timestamp) (list : List ℕ) (bundles slice : List ListedBundle) (before after : Outside)
    (result : Result Answer OutOfMemory) → list ≡ listed.list → listed_of list ≡ Ok bundles → slice ≡ bundles
    → VerifiesAndConcludes way outputs listed now slice before after result → JudgesBundles way outputs listed now before after result
listed_so way outputs listed now list bundles slice before after result l is s v =
    verified bundles (ap listed_of (sym l) ∙ is)
    (subst (λ (x : List ListedBundle). VerifiesAndConcludes way outputs listed now x before after result) s v)

-- at the same moment
pub judges_at : (way : Way) (outputs : Outputs) (listed : Listed) (now told : jiff.Timestamp) (before after : Outside) (result : Result Answer OutOfMemory)
    → now ≡ told → JudgesBundles way outputs listed now before after result → JudgesBundles way outputs listed told before after result
judges_at way outputs listed now told before after result same h = subst (λ n. JudgesBundles way outputs listed n before after result) same h
