use Rattle.std.proofs.Common.{arith, ◌∙◌, sym, ap}
use Rattle.sigstore_merkle.specs.Tree.{split}
use Rattle.log_tiles.proofs.TreeHashes.{one_leaf, tree_of_parts}
use Rattle.log_tiles.proofs.grown.+same_trees.Goals as goal

pub returns-then-first-eq1 : goal.returns-then-first-eq1
returns-then-first-eq1 t c = one_leaf c.args.first.now c.args.second.now c.if-first-eq1.true c.requires.size c.requires.hash

pub over_same-requires : goal.over_same-requires
over_same-requires t c =
    rw (c.tree_hash.ensures, c.tree_hash-2.ensures, c.tree_hash-3.ensures, c.tree_hash-4.ensures)
    (tree_of_parts c.args.first.now _ _ _ c.split_len-part.ensures.value (omega arith) c.split_at.ensures.front c.split_at.ensures.back
    ∙ (c.requires.hash
    ∙ sym (tree_of_parts c.args.second.now _ _ _ (c.split_len-part.ensures.value ∙ ap split c.requires.size) (omega arith)
    c.split_at-2.ensures.front c.split_at-2.ensures.back)))
