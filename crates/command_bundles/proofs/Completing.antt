-- A run over a list of bundles under a trusted root that is offered does what the verdicts ask, unless it is out of memory or an object fails.
use Rattle.std.proofs.Common.{◌≡◌, ◌≢◌, ◌⊎◌, inl, inr, ℕ, List, Option, Some, None, Result, Ok, Err, IfOk, refl, sym, ap, ◌∙◌, subst}
use Rattle.foundation.specs.Watched.{Watched, Rose}
use Rattle.foundation.specs.Results.{ok_same, some_same, no_both}
use Rattle.foundation.specs.declared.no_memory.NoMemory.{NoMemory as OutOfMemory}
use Rattle.jiff_core.specs.declared.timestamp.Timestamp as jiff
use Rattle.sigstore_judgement.specs.declared.error.Error.{Error}
use Rattle.sigstore_judgement.specs.declared.error.Error.TheVariants.{NoMemory}
use Rattle.sigstore_judgement.specs.declared.rules.JudgedByRule.{JudgedByRule}
use Rattle.sigstore_judgement.specs.declared.rules.RulesError.TheVariants.{Shared}
use Rattle.sigstore_verify.specs.Inputs.{Anchor}
use Rattle.release_gate.specs.Gate.{kept_of}
use Rattle.command_files.specs.Answer.{answer}
use Rattle.command_files.specs.Ending.{TakesAll}
use Rattle.command_files.specs.Starting.{Command, now_of, unstarted, stopped, begun}
use Rattle.command_files.specs.declared.answer.Answer.{Answer}
use Rattle.command_files.specs.declared.answer.Status.{Status}
use Rattle.command_files.specs.declared.answer.Status.TheVariants as status
use Rattle.command_files.proofs.Endings.{ends_so}
use Rattle.command_files.proofs.Starts.{quiet_not_rose, never_stopped, begun_same}
use Rattle.command_verify.specs.Run.{anchor_of, verify_answer}
use Rattle.command_ways.specs.declared.judging.Came.TheVariants as ways
use Rattle.command_ways.specs.declared.report.Telling.{Telling}
use Rattle.command_ways.specs.declared.trust.Trust.{Trust}
use Rattle.command_ways.specs.Report.{way_text, said_of, RefusesSo}
use Rattle.command_ways.specs.Trust.{file_of, IsTrusted}
use Rattle.command_ways.proofs.Saying.{text_there}
use Rattle.command_ways.proofs.Trusting.{never_untrusted, given_offered}
use Rattle.command_outputs.specs.declared.layout.OutputsLayout.{OutputsLayout}
use Rattle.command_outputs.specs.Payload.{payload_of}
use Rattle.command_outputs.specs.Concluding.{no_envelope_answer, unplaced_answer, told_answer, Puts, want_putting, unplaced, placed, Delivers, want_payload, no_envelope, delivered, Gives, Yields, want_lines, yields, Concludes, want_saying, follows}
use Rattle.command_outputs.specs.Promises.{IsGiven, IsUntouched}
use Rattle.command_outputs.specs.Run.{Environment}
use Rattle.command_bundles.specs.declared.judging.ListCame.{ListCame}
use Rattle.command_bundles.specs.declared.judging.ListCame.TheVariants.{Untrusted, Unusable, Judged}
use Rattle.command_bundles.specs.declared.lines.ListFault.{ListFault}
use Rattle.command_bundles.specs.declared.lines.ListFault.TheVariants as list
use Rattle.command_bundles.specs.declared.lines.ListedBundle.{ListedBundle}
use Rattle.command_bundles.specs.declared.listed.Listed.{Listed}
use Rattle.command_bundles.specs.Concluding.{list_answer, refusals_answer, ConcludesFound, ConcludesList, ConcludesCame}
use Rattle.command_bundles.specs.Judging.{Search, found_as, JudgesList, VerifiesList}
use Rattle.command_bundles.specs.Layout.{bundles_layout_of}
use Rattle.command_bundles.specs.Listed.{listed_in}
use Rattle.command_bundles.specs.Run.{given_by, telling_of, VerifiesAndConcludes, JudgesBundles, unlisted, verified, Says, RunsTo}
use Rattle.command_bundles.specs.Complete.{Favoured, search_in, SaysReport, SaysNoEnvelope, SaysRefusals, SaysUnusable, Completes}
use Rattle.command_bundles.proofs.Verdicts.{search_is}

module _ (command : Command) (before after : Environment) (trust : Trust) (bytes : List ℕ) (f : Favoured command before after trust bytes) (out out' : Watched (List ℕ)) where
  abbrev layout : OutputsLayout
  layout = f.layout

  abbrev moment : jiff.Timestamp
  moment = now_of layout.verification.places command.clock

  abbrev anchor : Anchor
  anchor = anchor_of f.listed.governed.anchored moment

  abbrev telling : Telling
  telling = telling_of f.listed layout.verification.way.told

  -- what is promised of a run with this end
  abbrev C : Status → Type 0
  C ended =
      (ended ≡ status.Memory)
      ⊎ (((ended ≡ status.Output) × (Rose out.faults out'.faults ⊎ Rose before.outside.shelf.faults after.outside.shelf.faults))
      ⊎ (SaysReport f out out' ended ⊎ (SaysNoEnvelope f out out' ended ⊎ (SaysRefusals f out out' ended ⊎ SaysUnusable f out out' ended))))

  abbrev W : List ℕ → Type 0
  W text = TakesAll out out' text

  as_said : (a b : Answer) → a ≡ b → (W a.text → C a.status) → W b.text → C b.status
  as_said a b e m = subst (λ (x : Answer). W x.text → C x.status) e m

  -- ---- where a bundle is accepted

  module _ (bundle : ListedBundle) (judged : JudgedByRule) (first : search_in f ≡ Ok (bundle, judged)) (t : IsTrusted anchor trust) (report said : Answer)
      (r : said_of (way_text trust judged telling) ≡ Some report) where
    abbrev with_lines : Answer → Answer
    with_lines x = told_answer (Some bundle.line) layout.outputs.details bundle.text judged x

    reported_so : said ≡ with_lines report → IsGiven layout.outputs.statement bundle.text before.outside.shelf after.outside.shelf
        → W said.text → C said.status
    reported_so same given =
        let text = text_there anchor trust judged telling t in
        as_said (with_lines (answer status.Accepted text.0)) said
        (ap with_lines (some_same (answer status.Accepted text.0) report (sym (ap said_of text.1) ∙ r)) ∙ sym same)
        (λ w. inr (inr (inl (record {
          bundle = bundle;
          judged = judged;
          first = first;
          given = given;
          text = text.0;
          reported = text.1;
          written = w;
          ended_is = refl;
        }))))

    module _ (path : List ℕ) (named : layout.outputs.statement ≡ Some path) where
      put_so : (payload : List ℕ) → payload_of bundle.text ≡ Ok (Some payload)
          → Puts path payload (with_lines report) before.outside.shelf after.outside.shelf (Ok said) → W said.text → C said.status
      put_so payload signed (want_putting e same eq) = no_both said e eq
      put_so payload signed (unplaced p eq) =
          as_said unplaced_answer said (sym (ok_same said unplaced_answer eq)) (λ w. inr (inl (refl, inr (p.failed refl))))
      put_so payload signed (placed p eq) =
          reported_so (ok_same said (with_lines report) eq)
          (subst (λ (o : Option (List ℕ)). IsGiven o bundle.text before.outside.shelf after.outside.shelf) (sym named)
          (record { payload = payload; signed = signed; put = p.puts }))

      delivered_so : Delivers bundle.text path (with_lines report) before.outside.shelf after.outside.shelf (Ok said) → W said.text → C said.status
      delivered_so (want_payload e same eq) = no_both said e eq
      delivered_so (no_envelope message same eq) =
          as_said no_envelope_answer said (sym (ok_same said no_envelope_answer eq))
          (λ w. inr (inr (inr (inl (record {
            bundle = bundle;
            judged = judged;
            first = first;
            path = path;
            named = named;
            message = message;
            untouched = same;
            written = w;
            ended_is = refl;
          })))))
      delivered_so (delivered payload signed p) = put_so payload signed p

    gives_so : (asked_file : Option (List ℕ)) → layout.outputs.statement ≡ asked_file
        → Gives asked_file bundle.text (with_lines report) before.outside.shelf after.outside.shelf (Ok said) → W said.text → C said.status
    gives_so None none g =
        reported_so (ok_same said (with_lines report) g.1)
        (subst (λ (o : Option (List ℕ)). IsGiven o bundle.text before.outside.shelf after.outside.shelf) (sym none) g.0)
    gives_so (Some path) some g = delivered_so path some g

    yielded_so : Yields (Some bundle.line) layout.outputs bundle.text judged report before.outside.shelf after.outside.shelf (Ok said) → W said.text → C said.status
    yielded_so (want_lines e same eq) = no_both said e eq
    yielded_so (yields g) = gives_so layout.outputs.statement refl g

  -- ---- whatever is found

  found_so : (search : Search) (said : Answer) → search_in f ≡ search → IsTrusted anchor trust
      → ConcludesFound telling layout.outputs trust search before.outside.shelf after.outside.shelf (Ok said) → W said.text → C said.status
  found_so (Ok (bundle, judged)) said first t c = by_concluded c
    where
      by_concluded : Concludes telling (Some bundle.line) layout.outputs bundle.text (ways.Judged trust (Ok judged)) before.outside.shelf after.outside.shelf (Ok said)
          → W said.text → C said.status
      by_concluded (want_saying e same eq) = no_both said e eq
      by_concluded (follows report a k) = yielded_so bundle judged first t report said a k
  found_so (Err refusals) said none t c =
      as_said (refusals_answer refusals) said (sym c.1)
      (λ w. inr (inr (inr (inr (inl (record { refusals = refusals; none = none; untouched = c.0; written = w; ended_is = refl }))))))

  unusable_so : (e : Error) (said : Answer) → (e ≢ NoMemory → kept_of (file_of trust) ≡ Err e) → RefusesSo (Shared e) said → IsUntouched before after
      → W said.text → C said.status
  unfolding verify_answer
  unusable_so e said fails a k =
      as_said (verify_answer e) said (sym a.0)
      (λ w. inr (inr (inr (inr (inr (record {
        fault = e;
        fails = fails (λ is. a.1 (ap (λ (d : Error). Shared d) is));
        untouched = k;
        written = w;
        ended_is = refl;
      }))))))

  -- ---- the whole

  list_so : (came : ListCame) (said : Answer) → VerifiesList (given_by f.listed moment f.bundles) layout.verification.way before.outside.verified after.outside.verified came
      → ConcludesList telling layout.outputs came before.outside.shelf after.outside.shelf (Ok said) → W said.text → C said.status
  list_so (Untrusted why) said v c w =
      absurd (never_untrusted anchor layout.verification.way.by before.outside.verified.sources after.outside.verified.sources trust why said f.offers v.0 c.1)
  list_so (Unusable found e) said v c w =
      let same = given_offered anchor layout.verification.way.by before.outside.verified.sources after.outside.verified.sources trust found f.offers v.0 in
      unusable_so e said (subst (λ (x : Trust). e ≢ NoMemory → kept_of (file_of x) ≡ Err e) same v.2) c.1 c.0 w
  list_so (Judged found answer) said v c w =
      let same = given_offered anchor layout.verification.way.by before.outside.verified.sources after.outside.verified.sources trust found f.offers v.0 in
      found_so (found_as answer) said
      (search_is before.outside.verified.source after.outside.verified.source bytes (given_by f.listed moment f.bundles) (file_of trust) layout.verification.way.told (found_as answer) f.subject
      (subst (λ (x : Trust). JudgesList (given_by f.listed moment f.bundles) (file_of x) layout.verification.way.told before.outside.verified.source after.outside.verified.source (found_as answer)) same v.2))
      (subst (IsTrusted anchor) same v.1)
      (subst (λ (x : Trust). ConcludesFound telling layout.outputs x (found_as answer) before.outside.shelf after.outside.shelf (Ok said)) same c) w

  came_so : (came : Result ListCame OutOfMemory) (said : Answer)
      → IfOk came (VerifiesList (given_by f.listed moment f.bundles) layout.verification.way before.outside.verified after.outside.verified)
      → ConcludesCame telling layout.outputs came before.outside.shelf after.outside.shelf (Ok said) → W said.text → C said.status
  came_so (Ok came) said v c = list_so came said v c
  came_so (Err e) said v c = no_both said e c.1

  judged_so : (said : Answer) → JudgesBundles layout.verification.way layout.outputs f.listed moment before.outside after.outside (Ok said) → W said.text → C said.status
  judged_so said (unlisted why l o a) = absurd (listed_never why (λ n. no_both f.bundles why (sym f.lists ∙ l n)) a)
    where
      listed_never : (why : ListFault) → (why ≢ list.NoMemory → ⊥) → list_answer why ≡ Some said → ⊥
      listed_never list.NoBundle n a = n (λ e. cc)
      listed_never list.TooManyBundles n a = n (λ e. cc)
      listed_never list.NoMemory n a = cc
  judged_so said (verified bundles lists v) =
      by_bundles v
    where
      same : bundles ≡ f.bundles
      same = ok_same bundles f.bundles (sym lists ∙ f.lists)

      by_bundles : VerifiesAndConcludes layout.verification.way layout.outputs f.listed moment bundles before.outside after.outside (Ok said) → W said.text → C said.status
      by_bundles v =
          came_so v.came said
          (subst (λ (x : List ListedBundle). IfOk v.came (VerifiesList (given_by f.listed moment x) layout.verification.way before.outside.verified after.outside.verified)) same v.verifies) v.concludes

  begun_so : (l : OutputsLayout) (given : Listed) (said : Answer) → l ≡ layout → given ≡ f.listed
      → JudgesBundles l.verification.way l.outputs given (now_of l.verification.places command.clock) before.outside after.outside (Ok said) → W said.text → C said.status
  begun_so l given said same_layout same_given j =
      judged_so said
      (subst (λ (x : Listed). JudgesBundles layout.verification.way layout.outputs x moment before.outside after.outside (Ok said)) same_given
      (subst (λ (x : OutputsLayout). JudgesBundles x.verification.way x.outputs given (now_of x.verification.places command.clock) before.outside after.outside (Ok said)) same_layout j))

  says_so : (said : Answer) → Says command before after (Ok said) → W said.text → C said.status
  says_so said (unstarted e s o eq) w = no_both said e eq
  says_so said (stopped other s o eq) w =
      absurd (never_stopped (bundles_layout_of command.words) listed_in before.inputs after.inputs layout f.held f.listed f.worded f.inputs.told
      (λ rose. quiet_not_rose before.inputs.faults after.inputs.faults f.inputs.quiet rose) f.listed_is other s)
  says_so said (begun l given b j) w =
      let same = begun_same (bundles_layout_of command.words) listed_in before.inputs after.inputs layout f.held f.listed f.worded f.inputs.told
      (λ rose. quiet_not_rose before.inputs.faults after.inputs.faults f.inputs.quiet rose) f.listed_is l given b in
      begun_so l given said same.0 same.1 j w

pub run_completes : (command : Command) (before after : Environment) (out out' : Watched (List ℕ)) (ended : Status) → RunsTo command before after out out' ended
    → Completes command before after out out' ended
run_completes command before after out out' ended r =
    ends_so (Says command before after) (Completes command before after out out') (λ (a : Answer). a.status) (λ (a : Answer). a.text) r.said out out' ended r.says
    (λ same trust bytes f. inl refl) (λ rose trust bytes f. inr (inl (refl, inl rose)))
    (λ said s w trust bytes f. says_so command before after trust bytes f out out' said s w) r.ends
