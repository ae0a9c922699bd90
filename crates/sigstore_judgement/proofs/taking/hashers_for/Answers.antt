use Rattle.std.proofs.Common.{◌≡◌, ◌++◌, ◌∷◌, [], ap, ◌∙◌, if◌then◌else◌}
use Rattle.sigstore_judgement.proofs.Taken.{are_next}
use Rattle.sigstore_judgement.proofs.taking.hashers_for.Goals as goal

pub each-preserved : goal.each-preserved
each-preserved c =
    let at = c.each in
    let h = c.in_ok-hasher.hasher in
    let pushed : c.push.new.self.items ≡ at.hashers.items ++ h ∷ [] =
    c.push.ensures.items ∙ ap (λ t. if t then at.hashers.items ++ h ∷ [] else at.hashers.items) c.if-is_err.ensures.negation in
    rw pushed (are_next at.hashers.items c.args.algorithms.now h at.algorithm-index _ c.each-test.true at.invariant c.in_ok-hasher.ensures.ok.1 c.in_ok-hasher.ensures.ok.0)
