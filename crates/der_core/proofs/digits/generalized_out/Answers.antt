use Rattle.std.proofs.Common.{rules}
use Rattle.der_core.proofs.Written.{generalized-again}
use Rattle.der_core.proofs.digits.generalized_out.Goals as goal

pub returns : goal.returns
returns c = generalized-again c.args.time.now _ c.requires (search rules)
