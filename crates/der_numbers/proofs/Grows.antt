-- A number only grows with each octet behind it.
use Rattle.std.proofs.Common.{ℕ, zero, suc, length, drop, ◌+◌, ◌*◌, ◌<◌, ◌≤◌, List, [], ◌∷◌, arith}
use Rattle.der_numbers.specs.Numbers.{number_from}

grows : (n : ℕ) (bytes : List ℕ) → n ≤ number_from n bytes
grows n [] = omega arith
grows n (b ∷ bytes) = let h = grows (256 * n + b) bytes in omega (arith, h)

pub too_great : (n b : ℕ) (bytes : List ℕ) → 72057594037927936 ≤ n → 18446744073709551615 < number_from n (b ∷ bytes)
too_great n b bytes h = let g = grows (256 * n + b) bytes in omega (arith, h, g)

pub too_great_on : (n i : ℕ) (bytes : List ℕ) → i < length bytes → 72057594037927936 ≤ n → 18446744073709551615 < number_from n (drop i bytes)
too_great_on n i [] within h = absurd (omega (arith, within))
too_great_on n zero (b ∷ bytes) within h = too_great n b bytes h
too_great_on n (suc i) (b ∷ bytes) within h = too_great_on n i bytes (omega (arith, within)) h
