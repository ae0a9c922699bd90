use Rattle.std.proofs.Common.{◌≡◌, drop}
use Rattle.given_objects.specs.Given.{has_name}
use Rattle.given_objects.proofs.file.is_among.Given as goal

abbrev pub invariant-loop-absent : goal.invariant-loop-absent
invariant-loop-absent l = has_name l.name (drop l.absent-index l.names) ≡ has_name l.name l.names
