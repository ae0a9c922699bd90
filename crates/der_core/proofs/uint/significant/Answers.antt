use Rattle.std.proofs.Common.{◌∙◌, arith}
use Rattle.der_core.proofs.Numbers.{short_same}
use Rattle.der_core.proofs.uint.significant.Goals as goal

pub returns-in_default : goal.returns-in_default
returns-in_default c = short_same c.zeros.digits.now (omega (arith, c.in_default.len_below)) ∙ c.zeros.invariant
