use Rattle.std.proofs.Common.{◌≡◌, None, map, drop}
use Rattle.sigstore_policy.specs.Policy.{meaning_in}
use Rattle.sigstore_judgement.specs.Rules.{needed_from}
use Rattle.sigstore_judgement.specs.Sharing.{HasNeeded}
use Rattle.sigstore_judgement.proofs.rules.all_needed.Given as goal

-- what all need is what those that are left need, behind what was found
abbrev pub invariant-rules : goal.invariant-rules
invariant-rules l =
    HasNeeded l.bundle l.asked l.found
    × (needed_from l.bundle None (map meaning_in l.rules) ≡ needed_from l.bundle l.found (map meaning_in (drop l.policy-index l.rules)))
