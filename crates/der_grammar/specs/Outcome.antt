-- Values or the first refusal, as functions on lists of bytes give them.
use Rattle.std.specs.Prelude.{◌≡◌, ℕ, ◌⊎◌, Result}
use Rattle.der_grammar.specs.declared.error.DerError.{DerError}
use Rattle.der_grammar.specs.declared.error.DerError.TheVariants.{Truncated, Length, Tag, Value, Trailing}
use Rattle.der_grammar.specs.declared.error.DerError.TheVariants.{SetDuplicate, Oid, TooLong, NoMemory}

abbrev pub Outcome : Type 0 → Type 0
Outcome A = Result A DerError

abbrev pub number_of : DerError → ℕ
number_of Truncated = 1
number_of Length = 2
number_of Tag = 3
number_of Value = 4
number_of Trailing = 5
number_of SetDuplicate = 6
number_of Oid = 7
number_of TooLong = 8
number_of NoMemory = 9

-- the only refusals of a call that writes
abbrev pub IsTooLong : DerError → Type 0
IsTooLong e = (e ≡ TooLong) ⊎ (e ≡ NoMemory)

-- the refusals of a set that is made of its members
abbrev pub IsSetRefusal : DerError → Type 0
IsSetRefusal e = (e ≡ SetDuplicate) ⊎ IsTooLong e
