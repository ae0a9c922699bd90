use Rattle.std.proofs.Common.{◌≡◌, drop}
use Rattle.trust_archive.specs.Grammar.{all_fit_of}
use Rattle.trust_archive.specs.Spelling.{counted_numbers, each_number}
use Rattle.trust_archive.proofs.writing.check_each.Given as goal

-- those that are left decide
abbrev pub invariant-loop-item : goal.invariant-loop-item
invariant-loop-item l = all_fit_of (each_number counted_numbers (drop l.item-index l.items)) ≡ all_fit_of (each_number counted_numbers l.items)
