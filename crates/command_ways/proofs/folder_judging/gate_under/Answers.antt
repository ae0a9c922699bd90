use Rattle.std.proofs.Common.{refl}
use Rattle.command_ways.proofs.folder_judging.gate_under.Goals as goal

pub returns-in-Ok-clause-gates : goal.returns-in-Ok-clause-gates
returns-in-Ok-clause-gates g c = (
  refl,
  record {
    material = c.in-Ok.verifier.material;
    usable = rw c.file.ensures at c.in-Ok.ensures.kept;
    judges = rw (c.in-Ok.ensures.provider, c.in-Ok.ensures.armor) at c.judge_under-judged.ensures.judges;
  },
)

pub returns-in-Err-clause-gates : goal.returns-in-Err-clause-gates
returns-in-Err-clause-gates g c = (refl, rw c.file.ensures at c.in-Err.ensures.err, refl)

pub returns-in-Ok-clause-rests : goal.returns-in-Ok-clause-rests
returns-in-Ok-clause-rests g c = (
  c.in-Ok.verifier.material,
  rw c.file.ensures at c.in-Ok.ensures.kept,
  rw (c.in-Ok.ensures.provider, c.in-Ok.ensures.armor) at c.judge_under-judged.ensures.walks,
)
