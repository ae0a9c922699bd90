use Rattle.std.proofs.Common.{ap}
use Rattle.question_notes.specs.declared.notes.Notes.{Notes}
use Rattle.command_questions.proofs.GateWaySufficing.{gated_noting}
use Rattle.command_questions.proofs.gate_ways.gate_noting.Goals as goal

pub returns : goal.returns
returns g c =
    gated_noting c.args.request.now c.args.by _ _ _ c.new-provider.result.notes.now.refused.now c.args.notes.now.refused.now
    (ap (λ (n : Notes). n.refused.now) c.new-provider.ensures) c.gate_way.ensures.gates
