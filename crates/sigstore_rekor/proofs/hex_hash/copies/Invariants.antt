use Rattle.std.proofs.Common.{◌≡◌, take}
use Rattle.sigstore_rekor.proofs.hex_hash.copies.Given as goal

abbrev pub invariant-loop-item : goal.invariant-loop-item
invariant-loop-item l = l.list ≡ take l.item-index l.items
