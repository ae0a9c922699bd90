use Rattle.std.proofs.Common.{◌≡◌, ◌≢◌, Err, IfErr, sym, subst}
use Rattle.sigstore_policy.specs.Policy.{meaning_in}
use Rattle.sigstore_policy.specs.declared.policy.SigningPolicy.{SigningPolicy}
use Rattle.sigstore_judgement.specs.declared.error.Error.TheVariants.{NoMemory}
use Rattle.sigstore_judgement.specs.Rules.{answer_by}
use Rattle.sigstore_judgement.proofs.sharing.check_shared.Goals as goal

pub returns-in-Certificate : goal.returns-in-Certificate
returns-in-Certificate c =
    λ grounds bundle artifact each.
    subst (λ (p : SigningPolicy). IfErr c.check_each.result (λ e. e ≢ NoMemory → answer_by grounds bundle artifact (meaning_in p) ≡ Err e)) (sym c.in-Certificate.is)
    (c.check_each.ensures grounds bundle artifact each)
