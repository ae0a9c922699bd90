use Rattle.std.proofs.Common.{◌≡◌, take, map}
use Rattle.serde_json.specs.View.{view}
use Rattle.sigstore_entries.specs.Writing.{octets_data, holding}
use Rattle.sigstore_types.proofs.written.each_held.Given as goal

-- what is written so far
abbrev pub invariant-loop-item : goal.invariant-loop-item
invariant-loop-item g l = map view l.values.items ≡ map (λ o. holding l.member (octets_data o)) (take l.item-index l.item-items)
