use Rattle.std.proofs.Common.{◌≡◌, ◌++◌, drop}
use Rattle.trust_archive.specs.Grammar.{each_spelled}
use Rattle.trust_archive.specs.Grammar.{counted}
use Rattle.trust_archive.proofs.writing.push_each.Given as goal

-- what is written, and what is left
abbrev pub invariant-loop-item : goal.invariant-loop-item
invariant-loop-item l = l.out.items ++ each_spelled counted (drop l.item-index l.items) ≡ l.initial.out.items ++ each_spelled counted l.items
