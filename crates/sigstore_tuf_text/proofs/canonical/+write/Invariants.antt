use Rattle.std.proofs.Common.{◌≡◌, ◌++◌, false, drop}
use Rattle.serde_json.specs.View.{items_view, members_view}
use Rattle.serde_json.specs.Written.{items_have_float, members_have_float}
use Rattle.sigstore_tuf_text.specs.Canon.{canon_items, canon_members}
use Rattle.sigstore_tuf_text.specs.Exact.{AreExact, HasExact}
use Rattle.sigstore_tuf_text.proofs.canonical.+write.Given as goal

-- what is written, with what is left, is the whole; a float that is inside is in what is left
abbrev pub invariant-write_items-loop-item : goal.invariant-write_items-loop-item
invariant-write_items-loop-item l =
    let left = items_view (drop l.item-index l.item-items) in
    record {
      text : l.out.items ++ canon_items l.later left ≡ l.initial.out.items ++ canon_items false (items_view l.item-items);
      floats : items_have_float (items_view l.item-items) ≡ items_have_float left;
      exact : AreExact left → AreExact (items_view l.item-items);
    }

abbrev pub invariant-write_members-loop-name : goal.invariant-write_members-loop-name
invariant-write_members-loop-name l =
    let left = members_view l.name-iterator in
    record {
      text : l.out.items ++ canon_members l.later left ≡ l.initial.out.items ++ canon_members false (members_view l.members.entries);
      floats : members_have_float (members_view l.members.entries) ≡ members_have_float left;
      exact : HasExact left → HasExact (members_view l.members.entries);
    }
