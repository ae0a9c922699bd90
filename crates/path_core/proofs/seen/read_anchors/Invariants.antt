use Rattle.std.proofs.Common.{◌≡◌, take}
use Rattle.path_core.proofs.seen.read_anchors.Given as goal

abbrev pub invariant-anchors : goal.invariant-anchors
invariant-anchors l = l.seen.items ≡ take l.anchor-index l.anchors
