use Rattle.std.proofs.Common.{◌≡◌, ◌∙◌, ◌+◌, ◌*◌, ap, add-one, arith}
use Rattle.der_core.proofs.Groups.{group_after, group_after-zero, group_after-ends, group_after-last, group_after-more, group_after-led, group_after-five, greatest, greatest-bound}
use Rattle.der_core.proofs.arcs.group.Goals.{else-count-eq0-via-then-count-eq0+else-octet, else-count-eq0-via-else-count-eq0}
use Rattle.der_core.proofs.arcs.group.Goals as goal

pub octets-init : goal.octets-init
octets-init c = record {
  left = group_after-zero c.args.bytes.now;
  bound = omega arith;
  small = omega arith;
  shorter = omega arith;
}

pub returns-in_default-clause-err : goal.returns-in_default-clause-err
returns-in_default-clause-err c =
    c.octets.invariant.left
    ∙ group_after-ends c.octets.count c.octets.number c.octets.rest.now c.in_default.ensures.cases

pub returns-then-octet-lt128-clause-ok : goal.returns-then-octet-lt128-clause-ok
returns-then-octet-lt128-clause-ok c =
    c.octets.invariant.left
    ∙ ap (group_after c.octets.count c.octets.number) c.in-Some.ensures.cases.0
    ∙ group_after-last c.octets.count c.octets.number c.in-Some.octet.now c.in-Some.after.now c.octets-test.true c.octets.invariant.bound c.if-octet-lt128.true

pub returns-then-octet-clause-err : goal.returns-then-octet-clause-err
returns-then-octet-clause-err c =
    c.octets.invariant.left
    ∙ ap (group_after c.octets.count c.octets.number) c.in-Some.ensures.cases.0
    ∙ rw (c.if-count-eq0.true, c.if-octet.true) (group_after-led c.octets.number c.in-Some.after.now)

pub octets-preserved : goal.octets-preserved
octets-preserved c =
    let n = c.octets.count in
    let v = c.octets.number in
    let b = c.in-Some.octet.now in
    let bytes = c.in-Some.after.now in
    let other : n ≡ 0 → b ≡ 128 → ⊥ = elim c.else-count-eq0.branch [
      | else-count-eq0-via-then-count-eq0+else-octet w ↦ λ p q. w.if-octet.false q
      | else-count-eq0-via-else-count-eq0 w ↦ λ p q. w.if-count-eq0.false p
    ] in
    let step : greatest (n + 1) ≡ 128 * greatest n + 127 = rw add-one in
    record {
      left =
          c.octets.invariant.left
          ∙ ap (group_after n v) c.in-Some.ensures.cases.0
          ∙ rw c.low_bits.ensures.value (group_after-more n v b bytes c.octets-test.true c.octets.invariant.bound c.if-octet-lt128.false other);
      bound = omega (arith, step);
      small = omega (arith, step, greatest-bound n c.octets-test.true);
      shorter = omega (arith, c.in-Some.ensures.cases.1);
    }

pub returns-clause-err : goal.returns-clause-err
returns-clause-err c = c.octets.invariant.left ∙ group_after-five c.octets.count c.octets.number c.octets.rest.now c.octets-test.false
