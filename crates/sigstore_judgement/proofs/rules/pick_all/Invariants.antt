use Rattle.std.proofs.Common.{◌≡◌, drop}
use Rattle.sigstore_judgement.specs.Rules.{picked_of}
use Rattle.sigstore_judgement.proofs.Picking.{behind}
use Rattle.sigstore_judgement.proofs.rules.pick_all.Given as goal

-- picking all is picking those that are left, behind those that were picked
abbrev pub invariant-needed : goal.invariant-needed
invariant-needed l = picked_of l.needed l.digests ≡ behind l.picked (picked_of (drop l.algorithm-index l.needed) l.digests)
