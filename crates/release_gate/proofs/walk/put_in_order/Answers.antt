use Rattle.std.proofs.Common.{refl, subst, sym, arith}
use Rattle.release_gate.specs.Names.{IsFirstDoubled}
use Rattle.release_gate.proofs.Walking.{in_order, doubled_listed}
use Rattle.release_gate.proofs.walk.put_in_order.Goals as goal

pub returns-in-None-clause-ok : goal.returns-in-None-clause-ok
returns-in-None-clause-ok c =
    in_order c.args.names.items c.sort_unstable.new.self.items (omega arith) c.sort_unstable.ensures.permutation c.sort_unstable.ensures.sorted
    (rw c.as_slice.ensures.value at (c.in-None.ensures.none refl))

pub returns-in-Some-clause-err : goal.returns-in-Some-clause-err
returns-in-Some-clause-err c = (
  omega arith,
  doubled_listed c.args.names.items c.sort_unstable.new.self.items c.remove-name.result c.sort_unstable.ensures.permutation
      (subst (IsFirstDoubled c.sort_unstable.new.self.items) (sym c.remove-name.ensures.value) (rw c.as_slice.ensures.value at (c.in-Some.ensures.some c.remove-name.result))),
)
