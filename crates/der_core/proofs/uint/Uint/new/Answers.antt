use Rattle.std.proofs.Common.{◌≡◌, ◌∙◌, sym, ap, subst, ◌<◌, eqb, length, false, true, arith, rules, List, ℕ}
use Rattle.std.proofs.lemmas.Bool.Decides.{nat_tests}
use Rattle.der_core.specs.Unsigned.{is_uint, with_sign}
use Rattle.der_core.proofs.Numbers.{normal}
use Rattle.der_core.proofs.uint.Uint.new.Goals as goal

pub invariant_of-result : goal.invariant_of-result
invariant_of-result c =
    let nonempty : eqb (length c.args.bytes.now) 0 ≡ false = search rules in
    let some : 0 < length c.args.bytes.now = grind (arith, nat_tests) in
    subst (λ (z : List ℕ). is_uint z ≡ true) (sym (c.in_ok-signed.ensures ∙ ap with_sign c.significant.ensures)) (normal c.args.bytes.now some)
