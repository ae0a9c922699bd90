use Rattle.std.proofs.Common.{◌≡◌, ◌++◌, Ok, drop}
use Rattle.serde_json.specs.View.{items_view}
use Rattle.foundation.specs.Steps.{◌>>=◌}
use Rattle.sigstore_types_parts.specs.Read.{items_of}
use Rattle.sigstore_types.specs.Members.{held_of}
use Rattle.sigstore_types.proofs.held.held_by_items.Given as goal

-- reading all is reading what is left, after what was found
abbrev pub invariant-loop-item : goal.invariant-loop-item
invariant-loop-item g l =
    items_of (held_of l.member) (items_view l.item-items) ≡ (items_of (held_of l.member) (items_view (drop l.item-index l.item-items)) >>= λ rest. Ok (l.found ++ rest))
