use Rattle.std.proofs.Common.{arith, ap, ◌∙◌, sym, drop, ◌+◌}
use Rattle.std.proofs.lemmas.List.{drop-set-lt, drop-drop}
use Rattle.sigstore_keys.proofs.Feeding.{fed_next}
use Rattle.release_gate.proofs.hashing.update_each.Goals as goal

pub each-preserved : goal.each-preserved
each-preserved g c =
    let inv = c.each.invariant in
    let i = c.each.hasher-index in
    record {
      fed = fed_next _ c.args.hashers.now c.each.hashers i c.hasher-item.result _ _ (omega arith) (omega arith) inv.rest c.update.ensures inv.fed;
      rest = drop-set-lt (i + 1) c.each.hashers i c.update.new.self (omega arith) ∙ sym (drop-drop 1 i c.each.hashers) ∙ ap (λ l. drop 1 l) inv.rest ∙ drop-drop 1 i c.args.hashers.now;
    }
