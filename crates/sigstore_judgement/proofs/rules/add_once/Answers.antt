use Rattle.sigstore_policy.specs.Policy.{meaning_in}
use Rattle.sigstore_judgement.specs.Artifact.{read_kind}
use Rattle.sigstore_judgement.specs.Judged.{prepared_of}
use Rattle.sigstore_judgement.proofs.SharedNeeds.{with_others, with_own}
use Rattle.sigstore_judgement.proofs.rules.add_once.Goals as goal

pub returns-in_ok-add_needed-in-Certificate-clause-has : goal.returns-in_ok-add_needed-in-Certificate-clause-has
returns-in_ok-add_needed-in-Certificate-clause-has c =
    with_own c.args.bundle.now c.args.found.now c.add_needed.new.found c.args.policy.now c.in-Certificate.certificate c.in-Certificate.is
    c.in_ok-add_needed-in-Certificate.ensures

pub returns-in-PublicKey-clause-has : goal.returns-in-PublicKey-clause-has
returns-in-PublicKey-clause-has c =
    with_others c.args.bundle.now c.args.asked.now c.args.found.now c.add_needed-in-PublicKey.new.found
    (prepared_of read_kind (meaning_in c.args.policy.now) c.args.bundle.now) c.add_needed-in-PublicKey.result c.requires.has c.add_needed-in-PublicKey.ensures
