-- A run over an offered chain says the verdict, unless memory is wanting or the sink fails.
use Rattle.std.proofs.Common.{◌≡◌, ◌⊎◌, inl, inr, ℕ, List, Bool, Some, Result, Ok, Err, refl, sym, ap, ◌∙◌, subst}
use Rattle.foundation.specs.Watched.{Watched}
use Rattle.foundation.specs.Results.{ok_same, err_same, no_both}
use Rattle.sigstore_tuf_rules.specs.declared.chain.TrustChain.{TrustChain}
use Rattle.sigstore_judgement.specs.UnderRules.{rules_verdict_by}
use Rattle.sigstore_verify.specs.declared.by_rules.RuleAcceptance.{RuleAcceptance}
use Rattle.sigstore_verify.specs.declared.by_rules.RulesFault.{RulesFault}
use Rattle.sigstore_verify.specs.declared.by_rules.RulesFault.TheVariants.{Root}
use Rattle.sigstore_verify.specs.declared.from_root.RootFault.TheVariants as root
use Rattle.sigstore_verify.specs.ByRules.{RulesInputs, rules_asked_by, ruled_of, RunsByRules, FavoursRules}
use Rattle.sigstore_verify.specs.Complete.{StaysWarm}
use Rattle.sigstore_verify.specs.Inputs.{Outside}
use Rattle.sigstore_verify.proofs.ByRulesPromise.{runs_promise}
use Rattle.command_files.specs.Gather.{gathered_of}
use Rattle.command_files.specs.Layout.{layout_of}
use Rattle.command_files.specs.Starting.{Command, now_of, unstarted, stopped, begun}
use Rattle.command_files.specs.declared.answer.Answer.{Answer}
use Rattle.command_files.specs.declared.answer.Status.{Status}
use Rattle.command_files.specs.declared.gather.Gathered.{Gathered}
use Rattle.command_files.specs.declared.layout.Layout.{Layout}
use Rattle.command_files.proofs.Endings.{ends_so}
use Rattle.command_files.proofs.Starts.{quiet_not_rose, never_stopped, begun_same}
use Rattle.command_verify.specs.Run.{refusal_answer, are_several, Environment, SaysReport, Judges, want_judging, refused, reported, Says, RunsTo}
use Rattle.command_verify.specs.Complete.{Favoured, SaysOf, favoured_in, Completes}

no_answer : (said : Answer) → refusal_answer (Root root.NoMemory) ≡ Some said → ⊥
unfolding refusal_answer
no_answer said h = cc

module _ (several : Bool) (given : RulesInputs) (before after : Outside) (chain : TrustChain) (bytes : List ℕ) (f : FavoursRules given before after chain bytes) where
  abbrev Verdict : Result RuleAcceptance RulesFault
  Verdict = ruled_of chain (rules_verdict_by (rules_asked_by given) chain.file bytes)

  abbrev V : Answer → Type 0
  V said = SaysOf several Verdict said × StaysWarm after.store f.offer

  refused_says : (fault : RulesFault) (said : Answer) → RunsByRules given before after (Err fault) → refusal_answer fault ≡ Some said → V said
  refused_says fault said v h = by_complete ((runs_promise given before after (Err fault) v).complete chain bytes f)
    where
      by_complete : (◌≡◌ {A = Result RuleAcceptance RulesFault} (Err fault) (Err (Root root.NoMemory))) ⊎ ((Err fault ≡ Verdict) × StaysWarm after.store f.offer) → V said
      by_complete (inl w) = absurd (no_answer said (ap refusal_answer (sym (err_same fault (Root root.NoMemory) w)) ∙ h))
      by_complete (inr (e, w)) = (subst (λ r. SaysOf several r said) e h, w)

  reported_says : (ruled : RuleAcceptance) (said : Answer) → RunsByRules given before after (Ok ruled) → SaysReport several ruled said → V said
  reported_says ruled said v h = by_complete ((runs_promise given before after (Ok ruled) v).complete chain bytes f)
    where
      by_complete : (◌≡◌ {A = Result RuleAcceptance RulesFault} (Ok ruled) (Err (Root root.NoMemory))) ⊎ ((Ok ruled ≡ Verdict) × StaysWarm after.store f.offer) → V said
      by_complete (inl w) = no_both ruled (Root root.NoMemory) w
      by_complete (inr (e, w)) = (subst (λ r. SaysOf several r said) e h, w)

module _ (command : Command) (before after : Environment) (chain : TrustChain) (bytes : List ℕ) (f : Favoured command before after chain bytes) where
  abbrev T : Answer → Type 0
  T said =
      SaysOf (are_several f.gathered) (ruled_of chain (rules_verdict_by (rules_asked_by (favoured_in f)) chain.file bytes)) said
      × StaysWarm after.outside.store f.outside.offer

  judged_says : (said : Answer) → Judges f.gathered (now_of f.layout command.clock) before.outside after.outside (Ok said) → T said
  judged_says said (want_judging r e v eq) = no_both said e eq
  judged_says said (refused fault other v c h eq) =
      subst T (sym (ok_same said other eq)) (refused_says (are_several f.gathered) (favoured_in f) before.outside after.outside chain bytes f.outside fault other v h)
  judged_says said (reported ruled other v a h eq) =
      subst T (sym (ok_same said other eq)) (reported_says (are_several f.gathered) (favoured_in f) before.outside after.outside chain bytes f.outside ruled other v h)

  begun_says : (layout : Layout) (gathered : Gathered) (said : Answer) → layout ≡ f.layout → gathered ≡ f.gathered
      → Judges gathered (now_of layout command.clock) before.outside after.outside (Ok said) → T said
  begun_says layout gathered said l g j =
      judged_says said (subst (λ (x : Gathered). Judges x (now_of f.layout command.clock) before.outside after.outside (Ok said)) g
      (subst (λ (x : Layout). Judges gathered (now_of x command.clock) before.outside after.outside (Ok said)) l j))

  says_verdict : (said : Answer) → Says command before after (Ok said) → T said
  says_verdict said (unstarted e s o eq) = no_both said e eq
  says_verdict said (stopped other s o eq) =
      absurd (never_stopped (layout_of command.words) gathered_of before.inputs after.inputs f.layout f.held f.gathered f.worded f.inputs.told
      (λ rose. quiet_not_rose before.inputs.faults after.inputs.faults f.inputs.quiet rose) f.gathered_is other s)
  says_verdict said (begun layout gathered b j) =
      let same = begun_same (layout_of command.words) gathered_of before.inputs after.inputs f.layout f.held f.gathered f.worded f.inputs.told
      (λ rose. quiet_not_rose before.inputs.faults after.inputs.faults f.inputs.quiet rose) f.gathered_is layout gathered b in
      begun_says layout gathered said same.0 same.1 j

pub run_completes : (command : Command) (before after : Environment) (out out' : Watched (List ℕ)) (ended : Status) → RunsTo command before after out out' ended → Completes command before after out out' ended
run_completes command before after out out' ended r =
    ends_so (Says command before after) (Completes command before after out out') (λ (a : Answer). a.status) (λ (a : Answer). a.text) r.said out out' ended r.says
    (λ same chain bytes f. inl refl) (λ rose chain bytes f. inr (inl (refl, rose)))
    (λ said s w chain bytes f.
    let t = says_verdict command before after chain bytes f said s in
    inr (inr (record { said = said; says = t.0; written = w; ended_is = refl }, t.1))) r.ends
