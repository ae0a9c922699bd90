-- The numbers and names of the refusals.
use Rattle.std.specs.Prelude.{ℕ, List, codes}
use Rattle.log_witnesses.specs.declared.error.WitnessError.{WitnessError}
use Rattle.log_witnesses.specs.declared.error.WitnessError.TheVariants.{Form, KeyType, KeyId, TooMany, TooFew, NoMemory}

abbrev pub number_of : WitnessError → ℕ
number_of Form = 1
number_of KeyType = 2
number_of KeyId = 3
number_of TooMany = 4
number_of (TooFew asked found) = 5
number_of NoMemory = 6

abbrev pub name_of : WitnessError → List ℕ
name_of Form = codes "Form"
name_of KeyType = codes "KeyType"
name_of KeyId = codes "KeyId"
name_of TooMany = codes "TooMany"
name_of (TooFew asked found) = codes "TooFew"
name_of NoMemory = codes "NoMemory"
