-- A run under a trusted root that is offered says the verdict, unless it is out of memory or the sink fails.
use Rattle.std.proofs.Common.{◌≡◌, ◌≢◌, ◌⊎◌, inl, inr, ℕ, List, Option, Some, None, Result, Ok, Err, refl, sym, ap, ◌∙◌, subst}
use Rattle.foundation.specs.Watched.{Watched}
use Rattle.foundation.specs.Results.{ok_same, err_same, some_same, no_both}
use Rattle.jiff_core.specs.declared.timestamp.Timestamp as jiff
use Rattle.sigstore_judgement.specs.declared.error.Error.{Error}
use Rattle.sigstore_judgement.specs.declared.error.Error.TheVariants.{NoMemory}
use Rattle.sigstore_judgement.specs.declared.rules.JudgedByRule.{JudgedByRule}
use Rattle.sigstore_judgement.specs.declared.rules.RulesError.{RulesError}
use Rattle.sigstore_judgement.specs.declared.rules.RulesError.TheVariants.{Shared, Each}
use Rattle.sigstore_judgement.proofs.RulesCompleting.{rules_complete}
use Rattle.sigstore_verify.specs.ByDigests.{TellsVerdict}
use Rattle.command_files.specs.Answer.{answer}
use Rattle.command_files.specs.Gather.{gathered_of}
use Rattle.command_files.specs.Starting.{Command, now_of, unstarted, stopped, begun}
use Rattle.command_files.specs.declared.answer.Answer.{Answer}
use Rattle.command_files.specs.declared.answer.Status.{Status}
use Rattle.command_files.specs.declared.answer.Status.TheVariants as status
use Rattle.command_files.specs.declared.gather.Gathered.{Gathered}
use Rattle.command_files.proofs.Endings.{ends_so}
use Rattle.command_files.proofs.Starts.{quiet_not_rose, never_stopped, begun_same}
use Rattle.command_verify.specs.Run.{given_by}
use Rattle.command_ways.specs.declared.judging.Came.{Came}
use Rattle.command_ways.specs.declared.judging.Came.TheVariants.{Untrusted, Judged}
use Rattle.command_ways.specs.declared.layout.WayLayout.{WayLayout}
use Rattle.command_ways.specs.declared.trust.Trust.{Trust}
use Rattle.command_ways.specs.Complete.{TellsSubject, Favoured, SaysOf, Completes}
use Rattle.command_ways.specs.Digests.{Digest}
use Rattle.command_ways.specs.Judging.{Judges, verdict_over, VerifiesWay}
use Rattle.command_ways.specs.Layout.{way_layout_of}
use Rattle.command_ways.specs.Report.{said_of, Answers}
use Rattle.command_ways.specs.Run.{Environment, anchor_for, asked_for, telling_of, JudgesWay, want_judging, answered, Says, RunsTo}
use Rattle.command_ways.specs.Trust.{file_of, IsTrusted}
use Rattle.command_ways.proofs.Saying.{text_there}
use Rattle.command_ways.proofs.Trusting.{never_untrusted, given_offered}

-- ---- the judgement's answer is the verdict

module _ (gathered : Gathered) (now : jiff.Timestamp) (file : List ℕ) (old new : Watched (List ℕ)) (bytes : List ℕ) where
  abbrev Verdict : Option (List Digest) → Result JudgedByRule RulesError
  Verdict told = verdict_over (asked_for gathered now) file told bytes

  read_accepts : (judged : JudgedByRule) → TellsSubject None old new bytes → Judges (asked_for gathered now) file None old new (Ok judged) → Verdict None ≡ Ok judged
  read_accepts judged (tells, short) j =
      by_complete (rules_complete (asked_for gathered now) old new file bytes tells.told (λ rose. quiet_not_rose old.faults new.faults tells.quiet rose) short (Ok judged) j)
    where
      by_complete : (◌≡◌ {A = Result JudgedByRule RulesError} (Ok judged) (Err (Shared NoMemory))) ⊎ (Ok judged ≡ Verdict None) → Verdict None ≡ Ok judged
      by_complete (inl w) = no_both judged (Shared NoMemory) w
      by_complete (inr e) = sym e

  read_refuses : (e : RulesError) → e ≢ Shared NoMemory → TellsSubject None old new bytes → Judges (asked_for gathered now) file None old new (Err e) → Verdict None ≡ Err e
  read_refuses e n (tells, short) j =
      by_complete (rules_complete (asked_for gathered now) old new file bytes tells.told (λ rose. quiet_not_rose old.faults new.faults tells.quiet rose) short (Err e) j)
    where
      by_complete : (◌≡◌ {A = Result JudgedByRule RulesError} (Err e) (Err (Shared NoMemory))) ⊎ (Err e ≡ Verdict None) → Verdict None ≡ Err e
      by_complete (inl w) = absurd (n (err_same e (Shared NoMemory) w))
      by_complete (inr is) = sym is

  told_refuses : (verdict : Result JudgedByRule RulesError) (e : RulesError) → e ≢ Shared NoMemory → TellsVerdict verdict (Err e) → verdict ≡ Err e
  told_refuses verdict (Shared e) n t = t (λ w. n (ap (λ (d : Error). Shared d) w))
  told_refuses verdict (Each refusals) n t = t.0

  pub accepts : (told : Option (List Digest)) (judged : JudgedByRule) → TellsSubject told old new bytes → Judges (asked_for gathered now) file told old new (Ok judged) → Verdict told ≡ Ok judged
  accepts None judged s j = read_accepts judged s j
  accepts (Some told) judged s j = j.1

  pub refuses : (told : Option (List Digest)) (e : RulesError) → e ≢ Shared NoMemory → TellsSubject told old new bytes → Judges (asked_for gathered now) file told old new (Err e) → Verdict told ≡ Err e
  refuses None e n s j = read_refuses e n s j
  refuses (Some told) e n s j = told_refuses (Verdict (Some told)) e n j.1

-- ---- what is said

module _ (command : Command) (before after : Environment) (trust : Trust) (bytes : List ℕ) (f : Favoured command before after trust bytes) where
  abbrev moment : jiff.Timestamp
  moment = now_of f.layout.places command.clock

  abbrev told : Option (List Digest)
  told = f.layout.way.told

  abbrev S : Result JudgedByRule RulesError → Answer → Type 0
  S verdict said = SaysOf trust (telling_of f.gathered told) verdict said

  abbrev T : Answer → Type 0
  T said = S (verdict_over (asked_for f.gathered moment) (file_of trust) told bytes) said

  -- under the trusted root that is offered
  under_so : (answer : Result JudgedByRule RulesError) (said : Answer)
      → Judges (asked_for f.gathered moment) (file_of trust) told before.outside.source after.outside.source answer
      → Answers (telling_of f.gathered told) (Judged trust answer) said → IsTrusted (anchor_for f.gathered moment) trust → T said
  under_so (Ok judged) said j a t =
      let text = text_there (anchor_for f.gathered moment) trust judged (telling_of f.gathered told) t in
      subst (λ r. S r said) (sym (accepts f.gathered moment (file_of trust) before.outside.source after.outside.source bytes told judged f.subject j))
      (text.0, text.1, some_same said (answer status.Accepted text.0) (sym a ∙ ap said_of text.1))
  under_so (Err e) said j a t =
      subst (λ r. S r said) (sym (refuses f.gathered moment (file_of trust) before.outside.source after.outside.source bytes told e a.1 f.subject j)) a.0

  came_so : (came : Came) (said : Answer) → VerifiesWay (given_by f.gathered moment) f.layout.way before.outside after.outside came
      → Answers (telling_of f.gathered told) came said → T said
  came_so (Untrusted why) said v a =
      absurd (never_untrusted (anchor_for f.gathered moment) f.layout.way.by before.outside.sources after.outside.sources trust why said f.offers v.0 a)
  came_so (Judged found answer) said v a =
      let same = given_offered (anchor_for f.gathered moment) f.layout.way.by before.outside.sources after.outside.sources trust found f.offers v.0 in
      under_so answer said
      (subst (λ (x : Trust). Judges (asked_for f.gathered moment) (file_of x) told before.outside.source after.outside.source answer) same v.2)
      (subst (λ (x : Trust). Answers (telling_of f.gathered told) (Judged x answer) said) same a)
      (subst (IsTrusted (anchor_for f.gathered moment)) same v.1)

  judged_so : (said : Answer) → JudgesWay f.layout.way f.gathered moment before.outside after.outside (Ok said) → T said
  judged_so said (want_judging e eq) = no_both said e eq
  judged_so said (answered came other v a eq) = subst T (sym (ok_same said other eq)) (came_so came other v a)

  begun_so : (layout : WayLayout) (gathered : Gathered) (said : Answer) → layout ≡ f.layout → gathered ≡ f.gathered
      → JudgesWay layout.way gathered (now_of layout.places command.clock) before.outside after.outside (Ok said) → T said
  begun_so layout gathered said l g j =
      judged_so said (subst (λ (x : Gathered). JudgesWay f.layout.way x moment before.outside after.outside (Ok said)) g
      (subst (λ (x : WayLayout). JudgesWay x.way gathered (now_of x.places command.clock) before.outside after.outside (Ok said)) l j))

  says_verdict : (said : Answer) → Says command before after (Ok said) → T said
  says_verdict said (unstarted e s o eq) = no_both said e eq
  says_verdict said (stopped other s o eq) =
      absurd (never_stopped (way_layout_of command.words) gathered_of before.inputs after.inputs f.layout f.held f.gathered f.worded f.inputs.told
      (λ rose. quiet_not_rose before.inputs.faults after.inputs.faults f.inputs.quiet rose) f.gathered_is other s)
  says_verdict said (begun layout gathered b j) =
      let same = begun_same (way_layout_of command.words) gathered_of before.inputs after.inputs f.layout f.held f.gathered f.worded f.inputs.told
      (λ rose. quiet_not_rose before.inputs.faults after.inputs.faults f.inputs.quiet rose) f.gathered_is layout gathered b in
      begun_so layout gathered said same.0 same.1 j

pub run_completes : (command : Command) (before after : Environment) (out out' : Watched (List ℕ)) (ended : Status) → RunsTo command before after out out' ended → Completes command before after out out' ended
run_completes command before after out out' ended r =
    ends_so (Says command before after) (Completes command before after out out') (λ (a : Answer). a.status) (λ (a : Answer). a.text) r.said out out' ended r.says
    (λ same trust bytes f. inl refl) (λ rose trust bytes f. inr (inl (refl, rose)))
    (λ said s w trust bytes f.
    inr (inr (record { said = said; says = says_verdict command before after trust bytes f said s; written = w; ended_is = refl }))) r.ends
