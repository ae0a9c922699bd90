use Rattle.std.proofs.Common.{◌<◌, ℕ, refl, sym, subst}
use Rattle.der_numbers.proofs.Grows.{too_great_on}
use Rattle.der_numbers.proofs.number.number_in.Goals as goal

pub returns-then-number-ge72057594037927936-clause-err : goal.returns-then-number-ge72057594037927936-clause-err
returns-then-number-ge72057594037927936-clause-err c = (
  refl,
  subst (λ (z : ℕ). 18446744073709551615 < z) (sym c.octets.invariant)
      (too_great_on c.octets.number c.octets.octet-index c.args.octets.now c.octets-test.true c.if-number-ge72057594037927936.true),
)
