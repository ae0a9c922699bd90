-- What the top call under rules promises, from the run of it.
use Rattle.std.proofs.Common.{◌≡◌, ◌≢◌, ◌⊎◌, inl, inr, ℕ, List, [], ◌∷◌, ◌++◌, length, suc, Result, Ok, Err, IfOk, IfErr, refl, sym, ap, ◌∙◌, subst}
use Rattle.std.specs.List.{AllZip}
use Rattle.foundation.specs.Results.{ok_same, err_same, step_ok, refused_at, no_both}
use Rattle.sigstore_policy.specs.Policy.{Meaning}
use Rattle.sigstore_types.specs.declared.bundle.Bundle.{Bundle}
use Rattle.sigstore_tuf_text.specs.declared.error.Error.{Error as TufError}
use Rattle.sigstore_tuf_text.specs.declared.error.Error.TheVariants as tuf
use Rattle.sigstore_tuf_rules.specs.declared.chain.TrustChain.{TrustChain}
use Rattle.sigstore_tuf_causes.proofs.Faults.{not_both}
use Rattle.sigstore_judgement.specs.declared.error.Error.{Error}
use Rattle.sigstore_judgement.specs.declared.error.Error.TheVariants as verify
use Rattle.sigstore_judgement.specs.declared.report.JudgedBundle.{JudgedBundle}
use Rattle.sigstore_judgement.specs.declared.rules.JudgedByRule.{JudgedByRule}
use Rattle.sigstore_judgement.specs.declared.rules.RulesError.{RulesError}
use Rattle.sigstore_judgement.specs.declared.rules.RulesError.TheVariants.{Shared, Each as EachOf}
use Rattle.sigstore_judgement.specs.declared.trust.Material.{Material}
use Rattle.sigstore_judgement.specs.Artifact.{Read}
use Rattle.sigstore_judgement.specs.Cause.{JudgeCause}
use Rattle.sigstore_judgement.specs.Judged.{judged_of}
use Rattle.sigstore_judgement.specs.Rules.{Whole, answer_of, AllRefuse, NoneWants}
use Rattle.sigstore_judgement.specs.Under.{trust_fault, bundle_fault, terms_of}
use Rattle.sigstore_judgement.specs.UnderRules as rules
use Rattle.sigstore_judgement.specs.UnderRules.{grounds_of, JudgesByRules, rules_verdict_by}
use Rattle.sigstore_judgement.proofs.Accepts.{accepts_exactly}
use Rattle.sigstore_judgement.proofs.FirstLaw.{is_first}
use Rattle.sigstore_judgement.proofs.JudgeCauses.{read_of}
use Rattle.sigstore_judgement.proofs.RuleCauses.{rules_refused, shared_refused}
use Rattle.sigstore_judgement.proofs.RulesCompleting.{rules_complete}
use Rattle.sigstore_tuf_offers.proofs.TargetCompleting.{GivenChain, chain_wanting, chain_given as is_given}
use Rattle.sigstore_verify.specs.declared.by_rules.RuleAcceptance.{RuleAcceptance}
use Rattle.sigstore_verify.specs.declared.by_rules.RulesFault.{RulesFault}
use Rattle.sigstore_verify.specs.declared.by_rules.RulesFault.TheVariants.{Root, Each}
use Rattle.sigstore_verify.specs.declared.from_root.RootFault.TheVariants as root
use Rattle.sigstore_verify.specs.Cause.{RootCause}
use Rattle.sigstore_verify.specs.Complete.{StaysWarm}
use Rattle.sigstore_verify.specs.FromRoot.{TrustsChain, GivesChain, IsAccepted, root_of_tuf, root_of_verify}
use Rattle.sigstore_verify.specs.Inputs.{Outside, places_in, asked_by}
use Rattle.sigstore_verify.specs.Promises.{HasStored}
use Rattle.sigstore_verify.specs.ByRules.{RulesInputs, given_under, rules_asked_by, ruled_of, RunsByRules, chain_refused, judged, IsAcceptedByRule, RulesFaultCause}
use Rattle.sigstore_verify.specs.ByRules.{FavoursRules, PromisesByRules, OneRuleAlone}
use Rattle.sigstore_verify.proofs.RootCauses.{chain_cause, by_tuf, by_verify}
use Rattle.sigstore_verify.proofs.RootCompleting.{AfterChain, offered_chain, warm_so}
use Rattle.sigstore_verify.proofs.RootFacts.{chain_trusts, chain_kept}

module _ (given : RulesInputs) (before after : Outside) where
  -- ---- an acceptance

  -- a refusal of the bundle over the bytes is one of the judgement
  refused_under : (material : Material) (reading : Bundle) (bytes : List ℕ) (policies : List Meaning) (refusals : List Error)
      → AllRefuse (answer_of (grounds_of (rules_asked_by given) material) reading (Whole bytes)) policies refusals
      → AllZip (λ policy e. judged_of (terms_of (asked_by (given_under given policy)) material) reading (Read bytes) ≡ Err e) policies refusals
  refused_under material reading bytes [] [] u = tt
  refused_under material reading bytes [] (e ∷ refusals) u = absurd u
  refused_under material reading bytes (policy ∷ policies) [] u = absurd u
  refused_under material reading bytes (policy ∷ policies) (e ∷ refusals) u = (
    refused_at (judged_of (terms_of (asked_by (given_under given policy)) material) reading (Read bytes)) _ e u.0 (λ h. h) (λ report p k. cc),
    refused_under material reading bytes policies refusals u.1,
  )

  accepted_so : (chain : TrustChain) (accepted : JudgedByRule) → TrustsChain given.anchor chain
      → JudgesByRules (rules_asked_by given) chain.file before.source after.source (Ok accepted) → (answer : RuleAcceptance)
      → answer ≡ record { rule = accepted.rule; acceptance = record { result = accepted.judged.result; chain = chain; digests = accepted.judged.digests } }
      → IsAcceptedByRule given before after answer
  accepted_so chain accepted c (rules.trust_refused e h s n) answer is = cc
  accepted_so chain accepted c (rules.verifier_refused trust e t h s n) answer is = cc
  accepted_so chain accepted c (rules.bundle_refused trust material e t u h s n) answer is = cc
  accepted_so chain accepted c (rules.judged trust material reading t u b v) answer is =
      let a = v.accepted in
      let f = is_first (answer_of (grounds_of (rules_asked_by given) material) reading (Whole a.bytes)) given.rules accepted.rule accepted.judged a.first in
      let terms = terms_of (asked_by (given_under given f.policy)) material in
      let s = step_ok (judged_of terms reading (Read a.bytes)) _ accepted.judged f.accepts in
      let same = ok_same _ accepted.judged s.2 in
      let report : judged_of terms reading (Read a.bytes) ≡ Ok accepted.judged.result = s.1 ∙ ap (λ (j : JudgedBundle). Ok j.result) same in
      subst (IsAcceptedByRule given before after) (sym is)
      (record {
        earlier = f.earlier;
        policy = f.policy;
        later = f.later;
        split = f.split;
        number = f.number;
        under = record {
          trusted = c;
          trust = trust;
          trust_read = read_of trust_fault _ trust t;
          material = material;
          usable = u;
          reading = reading;
          read = read_of bundle_fault _ reading b;
          bytes = a.bytes;
          whole = a.read;
          judged = report;
          means = (accepts_exactly terms reading (Read a.bytes) accepted.judged.result).0 report;
          digests = ap (λ (j : JudgedBundle). j.digests) (sym same);
        };
        refusals = f.refusals;
        refused = refused_under material reading a.bytes f.earlier f.refusals f.refuse;
      })

  -- ---- a refusal

  shared_cause : (e : Error) (chain : TrustChain) → TrustsChain given.anchor chain
      → JudgesByRules (rules_asked_by given) chain.file before.source after.source (Err (Shared e))
      → RulesFaultCause given before after (Root (root_of_verify e chain))
  shared_cause e chain c j policy =
      by_verify (given_under given policy) before after e chain c (shared_refused (rules_asked_by given) chain.file before.source after.source e j policy)

  -- ---- the run

  fault_same : (d e : RulesFault) → ◌≡◌ {A = Result RuleAcceptance RulesFault} (Err d) (Err e) → e ≡ d
  fault_same d e h = cc

  by_answer : (result : Result RuleAcceptance RulesFault) (chain : TrustChain) (answer : Result JudgedByRule RulesError) → TrustsChain given.anchor chain
      → JudgesByRules (rules_asked_by given) chain.file before.source after.source answer → result ≡ ruled_of chain answer
      → IfOk result (IsAcceptedByRule given before after) × IfErr result (RulesFaultCause given before after)
  by_answer (Ok accepted) chain (Ok found) c j is = (accepted_so chain found c j accepted (ok_same accepted _ is), tt)
  by_answer (Ok accepted) chain (Err (Shared e)) c j is = cc
  by_answer (Ok accepted) chain (Err (EachOf faults)) c j is = cc
  by_answer (Err fault) chain (Ok found) c j is = cc
  by_answer (Err fault) chain (Err (Shared e)) c j is =
      (tt, subst (RulesFaultCause given before after) (fault_same fault (Root (root_of_verify e chain)) is) (shared_cause e chain c j))
  by_answer (Err fault) chain (Err (EachOf faults)) c j is =
      let why = rules_refused (rules_asked_by given) chain.file before.source after.source faults j in
      (tt, subst (RulesFaultCause given before after) (fault_same fault (Each faults chain) is) (c, why.0, why.1))

  runs_means : (result : Result RuleAcceptance RulesFault) → RunsByRules given before after result
      → IfOk result (IsAcceptedByRule given before after) × IfErr result (RulesFaultCause given before after)
  runs_means (Ok accepted) (chain_refused e c s is) = cc
  runs_means (Err fault) (chain_refused e c s is) = (
    tt,
    subst (RulesFaultCause given before after) (fault_same fault (Root (root_of_tuf e)) is)
        (λ policy. by_tuf (given_under given policy) before after e (chain_cause given.anchor (places_in before) (places_in after) e c) s),
  )
  runs_means result (judged chain answer c j is) =
      by_answer result chain answer (chain_trusts given.anchor before.repo after.repo before.store after.store chain c) j is

  stored_so : (result : Result RuleAcceptance RulesFault) → RunsByRules given before after result
      → IfOk result (λ accepted. HasStored (places_in before) (places_in after) accepted.acceptance.chain)
  stored_so (Err fault) runs = tt
  stored_so (Ok accepted) (chain_refused e c s is) = cc
  stored_so (Ok accepted) (judged chain (Err (Shared e)) c j is) = cc
  stored_so (Ok accepted) (judged chain (Err (EachOf faults)) c j is) = cc
  stored_so (Ok accepted) (judged chain (Ok found) c j is) =
      subst (λ (a : RuleAcceptance). HasStored (places_in before) (places_in after) a.acceptance.chain) (sym (ok_same accepted _ is))
      (chain_kept given.anchor before.repo after.repo before.store after.store chain c)

  -- ---- over an offered chain

  module _ (chain : TrustChain) (bytes : List ℕ) (f : FavoursRules given before after chain bytes) where
    abbrev Answered : Result RuleAcceptance RulesFault → Type 0
    Answered result =
        (result ≡ Err (Root root.NoMemory))
        ⊎ ((result ≡ ruled_of chain (rules_verdict_by (rules_asked_by given) chain.file bytes)) × StaysWarm after.store f.offer)

    abbrev AfterWarm : Type 0
    AfterWarm = AfterChain given.anchor (places_in before) (places_in after) chain f.offer

    chain_of : (answer : Result TrustChain TufError) → GivesChain given.anchor before.repo after.repo before.store after.store answer
        → GivenChain AfterWarm chain answer
    chain_of answer g = offered_chain given.anchor (places_in before) (places_in after) chain f.offer answer g

    by_verdict : (result : Result RuleAcceptance RulesFault) (answer : Result JudgedByRule RulesError) → AfterWarm → result ≡ ruled_of chain answer
        → (answer ≡ Err (Shared verify.NoMemory)) ⊎ (answer ≡ rules_verdict_by (rules_asked_by given) chain.file bytes) → Answered result
    by_verdict result answer w is (inl h) = inl (is ∙ ap (ruled_of chain) h)
    by_verdict result answer w is (inr h) =
        inr (is ∙ ap (ruled_of chain) h, warm_so given.anchor (places_in before) (places_in after) chain f.offer w)

    run_complete : (result : Result RuleAcceptance RulesFault) → RunsByRules given before after result → Answered result
    run_complete result (chain_refused e g s is) = by_given (chain_of (Err e) g)
      where
        by_given : GivenChain AfterWarm chain (Err e) → Answered result
        by_given (chain_wanting h) = inl (is ∙ ap (λ e. Err (Root (root_of_tuf e))) (err_same e tuf.NoMemory h))
        by_given (is_given h w) = no_both chain e (sym h)
    run_complete result (judged c answer g j is) = by_given (chain_of (Ok c) g)
      where
        by_given : GivenChain AfterWarm chain (Ok c) → Answered result
        by_given (chain_wanting h) = no_both c tuf.NoMemory h
        by_given (is_given h w) =
            let same = ok_same c chain h in
            by_verdict result answer w (is ∙ ap (λ c. ruled_of c answer) same)
            (rules_complete (rules_asked_by given) before.source after.source chain.file bytes f.source.told
            (λ rose. not_both before.source.faults after.source.faults rose f.source.quiet) f.short answer
            (subst (λ (c : TrustChain). JudgesByRules (rules_asked_by given) c.file before.source after.source answer) same j))

  pub runs_promise : (result : Result RuleAcceptance RulesFault) → RunsByRules given before after result → PromisesByRules given before after result
  runs_promise result runs =
      let m = runs_means result runs in
      record {
        accepted = m.0;
        refused = m.1;
        runs = runs;
        complete = λ chain bytes f. run_complete chain bytes f result runs;
        stored = stored_so result runs;
      }

-- ---- one rule

alone_at : (policy q : Meaning) (earlier later : List Meaning) → policy ∷ [] ≡ earlier ++ q ∷ later → (earlier ≡ []) × (q ≡ policy)
alone_at policy q [] later h = (refl, cc)
alone_at policy q (x ∷ []) later h = cc
alone_at policy q (x ∷ y ∷ earlier) later h = cc

-- a refusal that isn't want of memory stays one of the bundle
verify_kept : (e : Error) (chain : TrustChain) → e ≢ verify.NoMemory → root_of_verify e chain ≡ root.Verify e chain
verify_kept (verify.IdentityMismatch a b) chain n = refl
verify_kept (verify.IssuerMismatch a b) chain n = refl
verify_kept verify.SignatureInvalid chain n = refl
verify_kept verify.ArtifactMismatch chain n = refl
verify_kept verify.UnsupportedArtifact chain n = refl
verify_kept (verify.Certificate a) chain n = refl
verify_kept (verify.TransparencyLog a) chain n = refl
verify_kept (verify.Timestamp a) chain n = refl
verify_kept verify.InvalidBundle chain n = refl
verify_kept verify.UnsupportedBundle chain n = refl
verify_kept verify.InvalidTrustRoot chain n = refl
verify_kept verify.Types chain n = refl
verify_kept verify.Crypto chain n = refl
verify_kept verify.Bundle chain n = refl
verify_kept verify.TrustRoot chain n = refl
verify_kept verify.TrustedCertificate chain n = refl
verify_kept (verify.ArtifactRead a) chain n = refl
verify_kept (verify.TooFewLogs a b) chain n = refl
verify_kept (verify.ClaimMismatch a b c) chain n = refl
verify_kept (verify.PredicateMismatch a b) chain n = refl
verify_kept (verify.TooFewTimes a b) chain n = refl
verify_kept (verify.TooFewTokens a b) chain n = refl
verify_kept (verify.TimeOutside a) chain n = refl
verify_kept verify.NoMemory chain n = absurd (n refl)

abbrev CausedUnder : RulesInputs → TrustChain → Outside → Outside → Meaning → Error → Type 0
CausedUnder given chain before after policy e = JudgeCause (asked_by (given_under given policy)) chain.file before.source after.source e

pub one_rule_alone : OneRuleAlone
one_rule_alone given policy before after (Ok accepted) one p =
    let a = p.accepted in
    let at = alone_at policy a.policy a.earlier a.later (sym one ∙ a.split) in
    (a.number ∙ ap (λ l. suc (length l)) at.0, subst (λ q. IsAccepted (given_under given q) before after accepted.acceptance) at.1 a.under)
one_rule_alone given policy before after (Err (Root fault)) one p = p.refused policy
one_rule_alone given policy before after (Err (Each faults chain)) one p =
    of_faults faults p.refused.1 (subst (λ rules. AllZip (CausedUnder given chain before after) rules faults) one p.refused.2)
  where
    of_faults : (told : List Error) → NoneWants told → AllZip (CausedUnder given chain before after) (policy ∷ []) told
        → (e : Error) × (told ≡ e ∷ []) × RootCause (given_under given policy) before after (root.Verify e chain)
    of_faults [] n z = absurd z
    of_faults (e ∷ []) n z = (
      e,
      refl,
      subst (RootCause (given_under given policy) before after) (verify_kept e chain n.0)
          (by_verify (given_under given policy) before after e chain p.refused.0 z.0),
    )
    of_faults (e ∷ d ∷ more) n z = absurd z.1
