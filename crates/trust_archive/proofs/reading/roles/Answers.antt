use Rattle.std.proofs.Common.{arith}
use Rattle.trust_archive.specs.Spelling.{role_at}
use Rattle.trust_archive.proofs.Steps.{goes_on}
use Rattle.trust_archive.proofs.reading.roles.Goals as goal

pub items-preserved : goal.items-preserved
items-preserved c = goes_on role_at _ _ _ _ _ _ _ _ (omega (arith, c.items-test.true)) c.in_ok-push.ensures.ok c.in_ok-item.ensures.ok c.items.invariant
