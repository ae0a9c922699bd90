-- Which calls of an object in memory fail.
use Rattle.std.specs.Prelude.{ℕ, ◌+◌, ◌-◌, ◌^◌, List, [], ◌∷◌, Bool, true, ◌&&◌, ◌==◌, nat_lt}
use Rattle.std.specs.List.{list_any}

-- each number is above the one before it, and the first above this one
abbrev pub is_ascending_above : ℕ → List ℕ → Bool
is_ascending_above low [] = true
is_ascending_above low (n ∷ ns) = nat_lt low n && is_ascending_above n ns

abbrev pub is_named : ℕ → List ℕ → Bool
is_named call numbers = list_any (λ n. n == call) numbers

-- the call after so many is named; none past number 2^64 - 1 is
abbrev pub fails_next : List ℕ → ℕ → Bool
fails_next numbers made = nat_lt made (2 ^ 64 - 1) && is_named (made + 1) numbers
