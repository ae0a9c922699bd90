use Rattle.std.proofs.Common.{◌≡◌, drop}
use Rattle.given_objects.specs.Given.{at_file}
use Rattle.given_objects.proofs.file.find.Given as goal

abbrev pub invariant-loop-file : goal.invariant-loop-file
invariant-loop-file l = at_file l.name (drop l.file-index l.files) ≡ at_file l.name l.files
