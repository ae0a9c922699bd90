use Rattle.std.proofs.Common.{nat_lt, ap}
use Rattle.command_verify.proofs.RunFacts.{judged_answered}
use Rattle.command_verify.proofs.program.judge.Goals as goal

pub returns : goal.returns
returns g c =
    judged_answered c.args.gathered c.args.now _ _ _ _ _ _ c.verify_request-judged.result c.answered-said.result c.as_slice.ensures c.as_bytes.ensures c.as_bytes-2.ensures
    (ap (nat_lt 1) c.len.ensures)
    c.verify_request-judged.ensures c.answered-said.ensures
