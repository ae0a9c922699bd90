use Rattle.std.proofs.Common.{◌≡◌, map, drop}
use Rattle.sigstore_policy.specs.Policy.{meaning_in}
use Rattle.sigstore_judgement.specs.Grounds.{grounds_at}
use Rattle.command_bundles.specs.Judging.{verdict_under, first_of}
use Rattle.command_bundles.proofs.Searching.{refused_behind}
use Rattle.command_bundles.proofs.judging.judge_each.Given as goal

-- what is found in all is what is found in those that are left, behind the refusals so far
abbrev pub invariant-bundles : goal.invariant-bundles
invariant-bundles g l =
    first_of (verdict_under (grounds_at g.C.CryptoProvider g.M.Armor l.verifier l.over.moment) (map meaning_in l.over.rules.now) l.over.artifact.now) l.bundles
    ≡ refused_behind l.refusals (first_of (verdict_under (grounds_at g.C.CryptoProvider g.M.Armor l.verifier l.over.moment) (map meaning_in l.over.rules.now) l.over.artifact.now)
    (drop l.bundle-index l.bundles))
