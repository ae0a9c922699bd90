use Rattle.std.proofs.Common.{◌≡◌, drop}
use Rattle.sigstore_judgement.specs.Rules.{with_each}
use Rattle.sigstore_judgement.proofs.rules.add_each.Given as goal

-- all are added where those that are left are
abbrev pub invariant-each : goal.invariant-each
invariant-each l = with_each l.initial.list l.others ≡ with_each l.list (drop l.algorithm-index l.others)
