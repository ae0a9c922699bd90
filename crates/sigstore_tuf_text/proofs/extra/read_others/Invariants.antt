use Rattle.std.proofs.Common.{◌≡◌, ◌++◌}
use Rattle.std.specs.List.Sorted.{IsStrictlySortedBy}
use Rattle.std.specs.Map.{keys_of}
use Rattle.serde_json.specs.View.{members_view}
use Rattle.sigstore_types_parts.specs.Entries.{text_cmp}
use Rattle.sigstore_types_parts.proofs.Entries.{names_of}
use Rattle.sigstore_tuf_text.specs.Others.{others_in}
use Rattle.sigstore_tuf_text.proofs.extra.read_others.Given as goal

-- the names ascend, and what was found is followed by the others of what is left
abbrev pub invariant-loop-name : goal.invariant-loop-name
invariant-loop-name l = record {
  sorted : IsStrictlySortedBy text_cmp (keys_of l.found ++ names_of l.name-iterator);
  others : others_in l.known (members_view l.members.entries) ≡ l.found ++ others_in l.known (members_view l.name-iterator);
}
