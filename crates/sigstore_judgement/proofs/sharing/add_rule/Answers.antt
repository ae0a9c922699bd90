use Rattle.std.proofs.Common.{sym, subst}
use Rattle.sigstore_judgement.specs.Sharing.{EachComesToNames}
use Rattle.sigstore_judgement.proofs.NamesLast.{one_more}
use Rattle.sigstore_judgement.proofs.sharing.add_rule.Goals as goal

pub returns-in_ok-push-in-Some : goal.returns-in_ok-push-in-Some
returns-in_ok-push-in-Some c =
    λ grounds artifact named each refused.
    subst (EachComesToNames grounds c.args.bundle.now artifact) (sym c.in_ok-push-in-Some.ensures.ok)
    (one_more grounds c.args.bundle.now artifact c.args.policy.now c.args.e.now c.args.earlier.now c.in-Some.rule named each refused c.in-Some.ensures.of_bundle c.in-Some.ensures.alike)
