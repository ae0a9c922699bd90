use Rattle.std.proofs.Common.{◌≡◌, ◌≢◌, ◌∙◌, ap, sym, subst, None, Result, Ok, Err, IfOk, IfErr}
use Rattle.sigstore_judgement.specs.declared.error.Error.{Error}
use Rattle.sigstore_judgement.specs.declared.error.Error.TheVariants.{NoMemory}
use Rattle.sigstore_judgement.specs.declared.report.VerificationResult.{VerificationResult}
use Rattle.sigstore_judgement.specs.Artifact.{digest_among}
use Rattle.sigstore_judgement.specs.Grounds.{Grounds, terms_by}
use Rattle.sigstore_judgement.specs.Judged.{ready_as, bundle_in, judged_had, given_of}
use Rattle.sigstore_judgement.proofs.Stages.{given_steps}
use Rattle.sigstore_judgement.proofs.verifier.Verifier.judge_digests.Goals as goal

pub returns-in-Ok-clause-ok : goal.returns-in-Ok-clause-ok
returns-in-Ok-clause-ok g c policy =
    let ready = ready_as c.args.ready in
    let bundle = bundle_in c.args.ready in
    let digest = digest_among c.args.digests.now in
    let given : given_of ready.needed digest ≡ Ok tt =
    ap (λ l. given_of l digest) (sym c.as_slice.ensures) ∙ sym c.in-Ok.ensures.exact in
    subst (λ (x : Result VerificationResult Error). IfOk c.judge.result (λ report. x ≡ Ok report))
    (ap (λ (grounds : Grounds). judged_had grounds ready bundle digest None) c.grounds.ensures
    ∙ sym (given_steps (terms_by g.C.CryptoProvider g.M.Armor c.args.self.now policy c.args.now).grounds ready bundle digest given))
    c.judge.ensures.ok

pub returns-in-Ok-clause-err : goal.returns-in-Ok-clause-err
returns-in-Ok-clause-err g c policy =
    let ready = ready_as c.args.ready in
    let bundle = bundle_in c.args.ready in
    let digest = digest_among c.args.digests.now in
    let given : given_of ready.needed digest ≡ Ok tt =
    ap (λ l. given_of l digest) (sym c.as_slice.ensures) ∙ sym c.in-Ok.ensures.exact in
    subst (λ (x : Result VerificationResult Error). IfErr c.judge.result (λ e. e ≢ NoMemory → x ≡ Err e))
    (ap (λ (grounds : Grounds). judged_had grounds ready bundle digest None) c.grounds.ensures
    ∙ sym (given_steps (terms_by g.C.CryptoProvider g.M.Armor c.args.self.now policy c.args.now).grounds ready bundle digest given))
    c.judge.ensures.err
