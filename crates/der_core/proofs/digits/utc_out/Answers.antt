use Rattle.std.proofs.Common.{refl, arith, rules}
use Rattle.der_core.specs.TimeLaws.{utc-year}
use Rattle.der_core.proofs.Written.{utc-again}
use Rattle.der_core.proofs.digits.utc_out.Goals as goal

pub returns-then-time-lt1950-clause-err : goal.returns-then-time-lt1950-clause-err
returns-then-time-lt1950-clause-err c = (refl, λ bytes e. let w = utc-year bytes c.args.time.now e in absurd (omega (arith, w.0, c.if-time-lt1950.true)))

pub returns-then-time-gt2049-clause-err : goal.returns-then-time-gt2049-clause-err
returns-then-time-gt2049-clause-err c = (refl, λ bytes e. let w = utc-year bytes c.args.time.now e in absurd (omega (arith, w.1, c.if-time-gt2049.true)))

pub returns-clause-ok : goal.returns-clause-ok
returns-clause-ok c = utc-again c.args.time.now _ c.requires (omega (arith, c.if-time-lt1950.false)) (omega (arith, c.if-time-gt2049.false)) (search rules)
