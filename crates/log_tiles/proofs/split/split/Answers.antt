use Rattle.std.proofs.Common.{arith, ◌≡◌, ◌+◌, ◌^◌, suc}
use Rattle.std.proofs.Math.Nat.{pow-suc}
use Rattle.log_tiles.proofs.Splits.{one_largest, split_is}
use Rattle.log_tiles.proofs.split.split.Goals as goal

pub doubled-preserved : goal.doubled-preserved
doubled-preserved c =
    let i = c.doubled.invariant in
    let twice : c.doubled.part + c.doubled.part ≡ 2 ^ suc i.0.0 = omega (arith, pow-suc 2 i.0.0, i.0.1) in
    ((suc i.0.0, twice), omega (arith, i.1), omega (arith, c.doubled-test.true))

pub returns-clause-value : goal.returns-clause-value
returns-clause-value c =
    let i = c.doubled.invariant in
    one_largest c.args.size c.doubled.part _
    (record { height = i.0.0; power = i.0.1; below = i.2; largest = omega (arith, c.doubled-test.false) })
    (split_is c.args.size c.requires)
