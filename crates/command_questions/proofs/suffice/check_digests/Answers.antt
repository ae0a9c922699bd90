use Rattle.std.proofs.Common.{◌≡◌, Ok, subst}
use Rattle.sigstore_types.specs.declared.bundle.Bundle.{Bundle}
use Rattle.sigstore_judgement.specs.Artifact.{digest_among}
use Rattle.sigstore_judgement.specs.Grounds.{terms_by}
use Rattle.sigstore_judgement.specs.Judged.{ready_as, judged_by}
use Rattle.sigstore_policy.specs.Policy.{meaning_in}
use Rattle.command_questions.proofs.suffice.check_digests.Goals as goal

pub returns-in-Ok-judge_digests : goal.returns-in-Ok-judge_digests
returns-in-Ok-judge_digests g c =
    let policy = meaning_in c.args.policy.now in
    let terms = terms_by g.C.CryptoProvider g.M.Armor c.args.verifier.now policy c.args.moment in
    record {
      ready = ready_as c.in-Ok.ready;
      prepared = c.in-Ok.ensures.ok;
      report = c.in-Ok-judge_digests.report;
      judged =
          subst (λ (b : Bundle). judged_by terms.grounds (ready_as c.in-Ok.ready) b (digest_among c.args.digests.now) ≡ Ok c.in-Ok-judge_digests.report)
          c.in-Ok.ensures.bundle (c.in-Ok-judge_digests.ensures.ok policy);
    }
