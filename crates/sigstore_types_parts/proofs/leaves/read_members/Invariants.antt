use Rattle.std.proofs.Common.{◌≡◌, ◌++◌, Ok}
use Rattle.std.specs.List.Sorted.{IsStrictlySortedBy}
use Rattle.std.specs.Map.{keys_of}
use Rattle.serde_json.specs.View.{members_view}
use Rattle.sigstore_types_parts.specs.Entries.{text_cmp}
use Rattle.foundation.specs.Steps.{◌>>=◌}
use Rattle.sigstore_types_parts.specs.Read.{entries_of}
use Rattle.sigstore_types_parts.proofs.Entries.{names_of}
use Rattle.sigstore_types_parts.proofs.leaves.read_members.Given as goal

-- the names ascend, and reading all is reading what is left, after what was found
abbrev pub invariant-loop-name : goal.invariant-loop-name
invariant-loop-name g l = record {
  sorted : IsStrictlySortedBy text_cmp (keys_of l.found ++ names_of l.name-iterator);
  read : entries_of g.T.FromValue.reads (members_view l.members.entries) ≡ (entries_of g.T.FromValue.reads (members_view l.name-iterator) >>= λ rest. Ok (l.found ++ rest));
}
