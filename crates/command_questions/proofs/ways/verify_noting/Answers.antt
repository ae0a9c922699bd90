use Rattle.std.proofs.Common.{ap}
use Rattle.question_notes.specs.declared.notes.Notes.{Notes}
use Rattle.command_questions.proofs.WaySufficing.{verified_noting}
use Rattle.command_questions.proofs.ways.verify_noting.Goals as goal

pub returns : goal.returns
returns g c =
    verified_noting c.args.request.now c.args.way _ _ _ c.new-provider.result.notes.now.refused.now c.args.notes.now.refused.now
    (ap (λ (n : Notes). n.refused.now) c.new-provider.ensures) c.verify_way.ensures
