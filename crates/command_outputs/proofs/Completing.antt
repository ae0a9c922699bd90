-- A run under a trusted root that is offered does what the verdict and the bundle ask, unless it is out of memory or an object fails.
use Rattle.std.proofs.Common.{◌≡◌, ◌≢◌, ◌⊎◌, inl, inr, ℕ, List, Option, Some, None, Result, Ok, Err, refl, sym, ap, ◌∙◌, subst}
use Rattle.foundation.specs.Watched.{Watched, Rose}
use Rattle.foundation.specs.Results.{ok_same, some_same, no_both}
use Rattle.foundation.specs.declared.no_memory.NoMemory.{NoMemory as OutOfMemory}
use Rattle.jiff_core.specs.declared.timestamp.Timestamp as jiff
use Rattle.sigstore_judgement.specs.declared.error.Error.TheVariants.{NoMemory}
use Rattle.sigstore_judgement.specs.declared.rules.JudgedByRule.{JudgedByRule}
use Rattle.sigstore_judgement.specs.declared.rules.RulesError.{RulesError}
use Rattle.sigstore_judgement.specs.declared.rules.RulesError.TheVariants.{Shared, Each}
use Rattle.command_files.specs.Answer.{answer}
use Rattle.command_files.specs.Ending.{TakesAll}
use Rattle.command_files.specs.Gather.{gathered_of}
use Rattle.command_files.specs.Starting.{Command, now_of, unstarted, stopped, begun}
use Rattle.command_files.specs.declared.answer.Answer.{Answer}
use Rattle.command_files.specs.declared.answer.Status.{Status}
use Rattle.command_files.specs.declared.answer.Status.TheVariants as status
use Rattle.command_files.specs.declared.gather.Gathered.{Gathered}
use Rattle.command_files.proofs.Endings.{ends_so}
use Rattle.command_files.proofs.Starts.{quiet_not_rose, never_stopped, begun_same}
use Rattle.command_verify.specs.Run.{verify_answer, each_answer, given_by}
use Rattle.command_ways.specs.declared.judging.Came.{Came}
use Rattle.command_ways.specs.declared.judging.Came.TheVariants.{Untrusted, Judged}
use Rattle.command_ways.specs.declared.layout.WayLayout.{WayLayout}
use Rattle.command_ways.specs.declared.trust.Trust.{Trust}
use Rattle.command_ways.specs.Digests.{Digest}
use Rattle.command_ways.specs.Judging.{Judges, VerifiesWay}
use Rattle.command_ways.specs.Report.{way_text, said_of, refused_answer, Answers}
use Rattle.command_ways.specs.Run.{anchor_for, asked_for, telling_of}
use Rattle.command_ways.specs.Trust.{file_of, IsTrusted}
use Rattle.command_ways.proofs.Completing.{accepts, refuses}
use Rattle.command_ways.proofs.Saying.{text_there}
use Rattle.command_ways.proofs.Trusting.{never_untrusted, given_offered}
use Rattle.command_outputs.specs.declared.layout.OutputsLayout.{OutputsLayout}
use Rattle.command_outputs.specs.Layout.{outputs_layout_of}
use Rattle.command_outputs.specs.Payload.{payload_of}
use Rattle.command_outputs.specs.declared.layout.Outputs.{Outputs}
use Rattle.command_outputs.specs.Concluding.{no_envelope_answer, unplaced_answer, told_answer, Puts, want_putting, unplaced, placed, Delivers, want_payload, no_envelope, delivered, Gives, Yields, want_lines, yields, Follows, Concludes, want_saying, follows}
use Rattle.command_outputs.specs.Run.{Environment, JudgesOutputs, Says, RunsTo}
use Rattle.command_outputs.specs.Promises.{IsGiven, IsUntouched}
use Rattle.command_outputs.specs.Complete.{Favoured, verdict_in, SaysReport, SaysNoEnvelope, SaysRefusal, Completes}
use Rattle.command_outputs.proofs.Words.{plain_layout}

refused_status : (e : RulesError) → (refused_answer e).status ≡ status.Refused
unfolding verify_answer each_answer
refused_status (Shared e) = refl
refused_status (Each refusals) = refl

-- what a verification of this layout came to, and what follows it
record Ran (command : Command) (before after : Environment) (l : WayLayout) (outputs : Outputs) (g : Gathered) (said : Answer) : Type 0 where
  came : Came
  verifies : VerifiesWay (given_by g (now_of l.places command.clock)) l.way before.outside.verified after.outside.verified came
  concludes : Concludes (telling_of g l.way.told) None outputs g.bundle came before.outside.shelf after.outside.shelf (Ok said)

module _ (command : Command) (before after : Environment) (trust : Trust) (bytes : List ℕ) (f : Favoured command before after trust bytes) (out out' : Watched (List ℕ)) where
  abbrev layout : WayLayout
  layout = f.favoured.layout

  abbrev gathered : Gathered
  gathered = f.favoured.gathered

  abbrev moment : jiff.Timestamp
  moment = now_of layout.places command.clock

  abbrev told : Option (List Digest)
  told = layout.way.told

  abbrev outputs : Outputs
  outputs = f.layout.outputs

  -- what is promised of a run with this end
  abbrev C : Status → Type 0
  C ended =
      (ended ≡ status.Memory)
      ⊎ (((ended ≡ status.Output) × (Rose out.faults out'.faults ⊎ Rose before.outside.shelf.faults after.outside.shelf.faults))
      ⊎ (SaysReport f out out' ended ⊎ (SaysNoEnvelope f out out' ended ⊎ SaysRefusal f out out' ended)))

  abbrev W : List ℕ → Type 0
  W text = TakesAll out out' text

  as_said : (a b : Answer) → a ≡ b → (W a.text → C a.status) → W b.text → C b.status
  as_said a b e m = subst (λ (x : Answer). W x.text → C x.status) e m

  -- ---- where a rule accepts

  module _ (judged : JudgedByRule) (j : Judges (asked_for gathered moment) (file_of trust) told before.outside.verified.source after.outside.verified.source (Ok judged))
      (t : IsTrusted (anchor_for gathered moment) trust) (report said : Answer)
      (r : said_of (way_text trust judged (telling_of gathered told)) ≡ Some report) where
    accepted : verdict_in f ≡ Ok judged
    accepted = accepts gathered moment (file_of trust) before.outside.verified.source after.outside.verified.source bytes told judged f.favoured.subject j

    abbrev with_lines : Answer → Answer
    with_lines x = told_answer None outputs.details gathered.bundle judged x

    reported_so : said ≡ with_lines report → IsGiven outputs.statement gathered.bundle before.outside.shelf after.outside.shelf
        → W said.text → C said.status
    reported_so same given =
        let text = text_there (anchor_for gathered moment) trust judged (telling_of gathered told) t in
        as_said (with_lines (answer status.Accepted text.0)) said
        (ap with_lines (some_same (answer status.Accepted text.0) report (sym (ap said_of text.1) ∙ r)) ∙ sym same)
        (λ w. inr (inr (inl (record { judged = judged; verdict = accepted; given = given; text = text.0; reported = text.1; written = w; ended_is = refl }))))

    module _ (path : List ℕ) (named : outputs.statement ≡ Some path) where
      put_so : (payload : List ℕ) → payload_of gathered.bundle ≡ Ok (Some payload)
          → Puts path payload (with_lines report) before.outside.shelf after.outside.shelf (Ok said) → W said.text → C said.status
      put_so payload signed (want_putting e same eq) = no_both said e eq
      put_so payload signed (unplaced p eq) =
          as_said unplaced_answer said (sym (ok_same said unplaced_answer eq)) (λ w. inr (inl (refl, inr (p.failed refl))))
      put_so payload signed (placed p eq) =
          reported_so (ok_same said (with_lines report) eq)
          (subst (λ (o : Option (List ℕ)). IsGiven o gathered.bundle before.outside.shelf after.outside.shelf) (sym named)
          (record { payload = payload; signed = signed; put = p.puts }))

      delivered_so : Delivers gathered.bundle path (with_lines report) before.outside.shelf after.outside.shelf (Ok said) → W said.text → C said.status
      delivered_so (want_payload e same eq) = no_both said e eq
      delivered_so (no_envelope message same eq) =
          as_said no_envelope_answer said (sym (ok_same said no_envelope_answer eq))
          (λ w. inr (inr (inr (inl (record {
            judged = judged;
            verdict = accepted;
            path = path;
            named = named;
            message = message;
            untouched = same;
            written = w;
            ended_is = refl;
          })))))
      delivered_so (delivered payload signed p) = put_so payload signed p

    gives_so : (asked_file : Option (List ℕ)) → outputs.statement ≡ asked_file
        → Gives asked_file gathered.bundle (with_lines report) before.outside.shelf after.outside.shelf (Ok said) → W said.text → C said.status
    gives_so None none g =
        reported_so (ok_same said (with_lines report) g.1)
        (subst (λ (o : Option (List ℕ)). IsGiven o gathered.bundle before.outside.shelf after.outside.shelf) (sym none) g.0)
    gives_so (Some path) some g = delivered_so path some g

    yielded_so : Yields None outputs gathered.bundle judged report before.outside.shelf after.outside.shelf (Ok said) → W said.text → C said.status
    yielded_so (want_lines e same eq) = no_both said e eq
    yielded_so (yields g) = gives_so outputs.statement refl g

  -- ---- where none does

  refused_so : (e : RulesError) (report said : Answer)
      → Judges (asked_for gathered moment) (file_of trust) told before.outside.verified.source after.outside.verified.source (Err e)
      → (report ≡ refused_answer e) × e ≢ Shared NoMemory → IsUntouched before after → ◌≡◌ {A = Result Answer OutOfMemory} (Ok said) (Ok report)
      → W said.text → C said.status
  refused_so e report said j a same eq =
      as_said (refused_answer e) said (sym a.0 ∙ sym (ok_same said report eq))
      (λ w. inr (inr (inr (inr (record {
        refusal = e;
        verdict = refuses gathered moment (file_of trust) before.outside.verified.source after.outside.verified.source bytes told e a.1 f.favoured.subject j;
        untouched = same;
        written = w;
        ended_is = refused_status e;
      })))))

  -- ---- the whole

  came_so : (came : Came) (report said : Answer) → VerifiesWay (given_by gathered moment) layout.way before.outside.verified after.outside.verified came
      → Answers (telling_of gathered told) came report → Follows None outputs gathered.bundle came report before.outside.shelf after.outside.shelf (Ok said)
      → W said.text → C said.status
  came_so (Untrusted why) report said v a k w =
      absurd (never_untrusted (anchor_for gathered moment) layout.way.by before.outside.verified.sources after.outside.verified.sources trust why report f.favoured.offers v.0 a)
  came_so (Judged found (Ok judged)) report said v a k w =
      let same = given_offered (anchor_for gathered moment) layout.way.by before.outside.verified.sources after.outside.verified.sources trust found f.favoured.offers v.0 in
      yielded_so judged
      (subst (λ (x : Trust). Judges (asked_for gathered moment) (file_of x) told before.outside.verified.source after.outside.verified.source (Ok judged)) same v.2)
      (subst (IsTrusted (anchor_for gathered moment)) same v.1) report said
      (subst (λ (x : Trust). said_of (way_text x judged (telling_of gathered told)) ≡ Some report) same a) k w
  came_so (Judged found (Err e)) report said v a k w =
      let same = given_offered (anchor_for gathered moment) layout.way.by before.outside.verified.sources after.outside.verified.sources trust found f.favoured.offers v.0 in
      refused_so e report said
      (subst (λ (x : Trust). Judges (asked_for gathered moment) (file_of x) told before.outside.verified.source after.outside.verified.source (Err e)) same v.2)
      a k.0 k.1 w

  ran_so : (said : Answer) → Ran command before after layout outputs gathered said → W said.text → C said.status
  ran_so said r = by_concluded r.concludes
    where
      by_concluded : Concludes (telling_of gathered told) None outputs gathered.bundle r.came before.outside.shelf after.outside.shelf (Ok said) → W said.text → C said.status
      by_concluded (want_saying e same eq) = no_both said e eq
      by_concluded (follows report a k) = came_so r.came report said r.verifies a k

  laid : f.layout.verification ≡ layout
  laid = ok_same f.layout.verification layout (sym (plain_layout command.words f.layout f.worded) ∙ f.favoured.worded)

  begun_so : (l : OutputsLayout) (g : Gathered) (said : Answer) → l ≡ f.layout → g ≡ gathered
      → JudgesOutputs l.verification.way l.outputs g (now_of l.verification.places command.clock) before.outside after.outside (Ok said) → W said.text → C said.status
  begun_so l g said same_layout same_given j =
      ran_so said (subst (λ (x : WayLayout). Ran command before after x outputs gathered said) laid
      (subst (λ (x : Gathered). Ran command before after f.layout.verification outputs x said) same_given
      (subst (λ (x : OutputsLayout). Ran command before after x.verification x.outputs g said) same_layout
      (record { came = j.came; verifies = j.verifies; concludes = j.concludes }))))

  says_so : (said : Answer) → Says command before after (Ok said) → W said.text → C said.status
  says_so said (unstarted e s o eq) w = no_both said e eq
  says_so said (stopped other s o eq) w =
      absurd (never_stopped (outputs_layout_of command.words) gathered_of before.inputs after.inputs f.layout f.favoured.held gathered f.worded f.favoured.inputs.told
      (λ rose. quiet_not_rose before.inputs.faults after.inputs.faults f.favoured.inputs.quiet rose) f.favoured.gathered_is other s)
  says_so said (begun l g b j) w =
      let same = begun_same (outputs_layout_of command.words) gathered_of before.inputs after.inputs f.layout f.favoured.held gathered f.worded f.favoured.inputs.told
      (λ rose. quiet_not_rose before.inputs.faults after.inputs.faults f.favoured.inputs.quiet rose) f.favoured.gathered_is l g b in
      begun_so l g said same.0 same.1 j w

pub run_completes : (command : Command) (before after : Environment) (out out' : Watched (List ℕ)) (ended : Status) → RunsTo command before after out out' ended
    → Completes command before after out out' ended
run_completes command before after out out' ended r =
    ends_so (Says command before after) (Completes command before after out out') (λ (a : Answer). a.status) (λ (a : Answer). a.text) r.said out out' ended r.says
    (λ same trust bytes f. inl refl) (λ rose trust bytes f. inr (inl (refl, inl rose)))
    (λ said s w trust bytes f. says_so command before after trust bytes f out out' said s w) r.ends
