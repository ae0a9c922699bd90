use Rattle.std.proofs.Common.{arith, ◌∙◌, sym}
use Rattle.log_tiles.proofs.TreeHashes.{tree_of_parts}
use Rattle.log_tiles.proofs.Splits.{same_split}
use Rattle.log_tiles.proofs.Nodes.{prefix_right, or_collision}
use Rattle.log_tiles.proofs.Steps.{same_step, step_some, left_some, left_above, gives_left, right_some, right_above}
use Rattle.log_tiles.proofs.grown.+grown_apart.Goals as goal

pub same_trees-requires-clause-hash : goal.same_trees-requires-clause-hash
same_trees-requires-clause-hash t c = same_step _ _ c.args.whole c.args.hashes.now c.args.root.now _ _ (omega arith) c.requires.roots

pub returns-in_err-hash : goal.returns-in_err-hash
returns-in_err-hash t c =
    step_some _ _ c.args.whole c.args.hashes.now c.args.root.now _ _ (omega arith) c.in_err-hash.ensures.cases c.requires.roots

pub returns-in_err-newer : goal.returns-in_err-newer
returns-in_err-newer t c =
    left_some _ _ _ c.args.whole c.args.hashes.now _ _ c.args.root.now _ _ c.split_len-part.ensures.value (omega arith) c.if-first-part.true
    c.in_ok-hash.ensures.cases.0 c.requires.roots c.in_err-newer.ensures

pub over_same-requires : goal.over_same-requires
over_same-requires t c =
    let above = left_above _ _ _ c.args.whole c.args.hashes.now _ _ c.args.root.now _ _ _ _ c.split_len-part.ensures.value (omega arith)
    c.if-first-part.true c.in_ok-hash.ensures.cases.0 c.requires.roots c.in_ok-newer.ensures in
    rw (c.tree_hash.ensures, c.tree_hash-then-first-part.ensures)
    (above.1
    ∙ sym (tree_of_parts c.args.second.now _ _ _ c.split_len-part.ensures.value (omega arith) c.split_at.ensures.front c.split_at.ensures.back))

pub grown_apart-requires : goal.grown_apart-requires
grown_apart-requires t c =
    let above = left_above _ _ _ c.args.whole c.args.hashes.now _ _ c.args.root.now _ _ _ _ c.split_len-part.ensures.value (omega arith)
    c.if-first-part.true c.in_ok-hash.ensures.cases.0 c.requires.roots c.in_ok-newer.ensures in (
      omega (arith, c.decreases, c.in_ok-hash.ensures.cases.1),
      (
        c.requires.some,
        (
          omega (arith, c.split_at.ensures.front_len, c.if-first-part.true),
          gives_left _ _ _ c.args.whole c.in_ok-hash.others.now c.args.root.now _ _ _ _ c.in_ok-newer.ensures above.0
              (c.in_default.ensures.0 ∙ c.tree_hash.ensures) c.split_at.ensures.front_len,
        ),
      ),
    )

pub returns-in_err-older : goal.returns-in_err-older
returns-in_err-older t c =
    right_some _ _ _ _ _ c.args.whole c.args.hashes.now _ _ c.args.root.now _ _ c.split_len-part.ensures.value (omega arith) c.if-first-part.false
    c.split_at-2.ensures.back_len c.split_at.ensures.back_len c.in_ok-hash.ensures.cases.0 c.requires.roots c.in_err-older.ensures

pub over_same-requires-2 : goal.over_same-requires-2
over_same-requires-2 t c =
    let above = right_above _ _ _ _ _ c.args.whole c.args.hashes.now _ _ c.args.root.now _ _ _ _ c.split_len-part.ensures.value (omega arith)
    c.if-first-part.false c.split_at-2.ensures.back_len c.split_at.ensures.back_len c.in_ok-hash.ensures.cases.0 c.requires.roots
    c.in_ok-older.ensures in
    rw (c.tree_hash-2.ensures, c.tree_hash-3.ensures)
    (above.0 ∙ sym (tree_of_parts c.args.first.now _ _ _ (same_split _ _ _ c.split_len-part.ensures.value (omega arith) (omega arith) c.if-first-part.false)
    (omega arith) c.split_at-2.ensures.front c.split_at-2.ensures.back))

pub over_same-requires-3 : goal.over_same-requires-3
over_same-requires-3 t c =
    let above = right_above _ _ _ _ _ c.args.whole c.args.hashes.now _ _ c.args.root.now _ _ _ _ c.split_len-part.ensures.value (omega arith)
    c.if-first-part.false c.split_at-2.ensures.back_len c.split_at.ensures.back_len c.in_ok-hash.ensures.cases.0 c.requires.roots
    c.in_ok-older.ensures in
    rw (c.tree_hash-4.ensures, c.tree_hash-5.ensures)
    (above.1
    ∙ sym (tree_of_parts c.args.second.now _ _ _ c.split_len-part.ensures.value (omega arith) c.split_at.ensures.front c.split_at.ensures.back))

pub returns : goal.returns
returns t c =
    or_collision _ _ c.grown_apart-2.result
    (prefix_right c.args.first.now c.args.second.now _ _ _ _ _ c.split_at-2.ensures.front c.split_at-2.ensures.back
    c.split_at.ensures.front c.split_at.ensures.back c.in_default-same_trees.ensures c.split_at-2.ensures.back_len)
    c.grown_apart-2.ensures
