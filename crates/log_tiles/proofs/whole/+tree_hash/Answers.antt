use Rattle.std.proofs.Common.{arith, ◌∙◌}
use Rattle.log_tiles.proofs.TreeHashes.{tree_of_one, tree_of_parts}
use Rattle.log_tiles.proofs.whole.+tree_hash.Goals as goal

pub returns-then-leaves-eq1 : goal.returns-then-leaves-eq1
returns-then-leaves-eq1 t c = c.copied.ensures ∙ (c.index-leaves-0.is ∙ tree_of_one c.args.leaves.now _ c.if-leaves-eq1.true)

pub returns : goal.returns
returns t c =
    rw (c.hash_node.ensures, c.tree_hash.ensures, c.tree_hash-2.ensures)
    (tree_of_parts c.args.leaves.now _ _ _ c.split_len.ensures.value (omega arith) c.split_at.ensures.front c.split_at.ensures.back)
