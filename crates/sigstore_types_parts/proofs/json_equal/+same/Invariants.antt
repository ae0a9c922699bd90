use Rattle.std.proofs.Common.{◌≡◌, drop}
use Rattle.std.specs.Slice.Iter.{iter_rest}
use Rattle.serde_json.specs.View.{items_view, members_view}
use Rattle.sigstore_types_parts.specs.JsonEqual.{same_items, same_members}
use Rattle.sigstore_types_parts.proofs.json_equal.+same.Given as goal

-- the whole is the same where what is left is
abbrev pub invariant-same_lists-loop-item : goal.invariant-same_lists-loop-item
invariant-same_lists-loop-item l =
    same_items (items_view l.left.items) (items_view l.right.items)
    ≡ same_items (items_view (drop l.item-index l.item-items)) (items_view (iter_rest l.others))

abbrev pub invariant-same_objects-loop-name : goal.invariant-same_objects-loop-name
invariant-same_objects-loop-name l =
    same_members (members_view l.left.entries) (members_view l.right.entries)
    ≡ same_members (members_view l.name-iterator) (members_view l.others)
