use Rattle.std.proofs.Common.{◌≡◌, ◌∷◌, [], length, ap, ◌∙◌, append_assoc, arith}
use Rattle.std.specs.Vec.Iter.{into_iter_items}
use Rattle.sigstore_judgement.proofs.Taken.{finalized_more}
use Rattle.sigstore_judgement.proofs.taking.finalize_all.Goals as goal

pub each-preserved : goal.each-preserved
each-preserved c =
    let at = c.each in
    let x = c.in-Some.hasher in
    let steps : into_iter_items at.hasher-iterator ≡ x ∷ into_iter_items c.next.new.self = c.in-Some.ensures.steps.0 in (
      append_assoc at.yielded (x ∷ []) _ ∙ rw (← steps) at.invariant.0,
      rw c.in_ok-push.ensures.ok (finalized_more at.yielded at.digests x _ at.invariant.1 c.in_ok-finalize.ensures.ok),
      let was = at.invariant.2 in
          let gone = c.in-Some.ensures.steps.1 in
          let short = ap length steps in
          omega arith,
    )
