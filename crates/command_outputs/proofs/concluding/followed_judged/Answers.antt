use Rattle.std.proofs.Common.{Result, sym, subst}
use Rattle.sigstore_judgement.specs.declared.rules.JudgedByRule.{JudgedByRule}
use Rattle.sigstore_judgement.specs.declared.rules.RulesError.{RulesError}
use Rattle.command_outputs.specs.Concluding.{FollowsJudged}
use Rattle.command_outputs.proofs.concluding.followed_judged.Goals as goal

pub returns-in-Ok : goal.returns-in-Ok
returns-in-Ok g c =
    subst (λ (x : Result JudgedByRule RulesError). FollowsJudged c.args.asked.now.line c.args.asked.now.outputs.now c.args.asked.now.bundle.now x c.args.said
    (g.F.Shelf.seen c.args.shelf.now) (g.F.Shelf.seen c.yielded.new.shelf) c.yielded.result) (sym c.in-Ok.is) c.yielded.ensures
