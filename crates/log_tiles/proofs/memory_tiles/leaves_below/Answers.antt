use Rattle.std.proofs.Common.{◌+◌, ◌*◌, arith}
use Rattle.log_tiles.proofs.Octets.{beyond}
use Rattle.log_tiles.proofs.memory_tiles.leaves_below.Goals as goal

pub returns-in_err-first-clause-none : goal.returns-in_err-first-clause-none
returns-in_err-first-clause-none c =
    let wide = c.in_err-first.ensures in
    λ none. beyond _ (c.args.index * 256 + c.args.count) c.args.level (omega arith) (λ fits. wide (omega arith))

pub returns-in_err-checked_add-clause-none : goal.returns-in_err-checked_add-clause-none
returns-in_err-checked_add-clause-none c =
    let wide = c.in_err-checked_add.ensures in
    λ none. beyond _ (c.args.index * 256 + c.args.count) c.args.level (omega arith) (λ fits. wide (omega arith))
