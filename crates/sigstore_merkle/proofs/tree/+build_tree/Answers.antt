use Rattle.sigstore_merkle.proofs.Trees.{only_item, tree_of_one, split_there, whole_there, tree_of_two}
use Rattle.sigstore_merkle.proofs.tree.+build_tree.Goals as goal

pub returns-in-len1 : goal.returns-in-len1
returns-in-len1 t c =
    tree_of_one c.args.leaves.now c.leaf-item.result c.lone.result
    (only_item _ _ c.in-len1.len_at_least c.in-len1.len_below c.leaf-item.is) c.lone.ensures.root c.lone.ensures.paths

pub returns : goal.returns
returns t c =
    let front = c.split_at.ensures.front in
    let back = c.split_at.ensures.back in
    tree_of_two c.args.leaves.now c.split_at.result.0.now c.split_at.result.1.now c.in_ok-left.left c.in_ok-right.right c.join.result
    (whole_there c.split.result _ _ _ front back)
    (split_there c.split.result _ _ _ front back c.split.ensures.power c.split.ensures.below c.split.ensures.largest)
    c.in_ok-left.ensures c.in_ok-right.ensures c.join.ensures.root c.join.ensures.paths
