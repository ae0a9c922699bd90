use Rattle.std.proofs.Common.{drop}
use Rattle.given_objects.specs.Given.{HaveTheSame}
use Rattle.given_objects.proofs.file.are_same.Given as goal

abbrev pub invariant-loop-index : goal.invariant-loop-index
invariant-loop-index l = HaveTheSame (drop l.index l.files) (drop l.index l.others) → HaveTheSame l.files l.others
