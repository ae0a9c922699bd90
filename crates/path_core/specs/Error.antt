-- The numbers of the refusals.
use Rattle.std.specs.Prelude.{ℕ}
use Rattle.path_core.specs.declared.error.PathError.{PathError}
use Rattle.path_core.specs.declared.error.PathError.TheVariants.{Leaf, NoPath, NameConstraints, Certificate, NoMemory}

abbrev pub number_of : PathError → ℕ
number_of (Leaf fault) = 1
number_of NoPath = 2
number_of NameConstraints = 3
number_of Certificate = 4
number_of NoMemory = 5
