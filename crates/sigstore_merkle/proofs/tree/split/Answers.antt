use Rattle.std.proofs.Common.{arith, ◌≡◌, ◌+◌, ◌^◌, ℕ, suc}
use Rattle.std.proofs.Math.Nat.{pow-suc}
use Rattle.sigstore_merkle.proofs.tree.split.Goals as goal

pub doubled-preserved : goal.doubled-preserved
doubled-preserved c =
    let i = c.doubled.invariant in
    let twice : c.doubled.part + c.doubled.part ≡ 2 ^ suc i.0.0 = omega (arith, pow-suc 2 i.0.0, i.0.1) in
    ((suc i.0.0, twice), omega (arith, i.1), omega (arith, c.doubled-test.true))
