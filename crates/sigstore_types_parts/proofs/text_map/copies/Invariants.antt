use Rattle.std.proofs.Common.{◌≡◌, ◌++◌}
use Rattle.std.specs.List.Sorted.{IsStrictlySortedBy}
use Rattle.std.specs.Map.{keys_of}
use Rattle.sigstore_types_parts.specs.Entries.{text_cmp, named}
use Rattle.sigstore_types_parts.proofs.text_map.copies.Given as goal

-- the names ascend, and what was copied is followed by what is left
abbrev pub invariant-loop-name : goal.invariant-loop-name
invariant-loop-name g l = record {
  sorted : IsStrictlySortedBy text_cmp (keys_of (l.found ++ named l.name-iterator));
  same : l.found ++ named l.name-iterator ≡ l.entries;
}
