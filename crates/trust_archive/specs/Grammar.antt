-- The parts of an archive: how each is spelled, and how it is read. A reading gives the part and what follows it, or how many octets are
-- left where the first part begins that can't be read.
use Rattle.std.specs.Prelude.{ℕ, zero, suc, List, [], ◌∷◌, ◌++◌, length, take, drop, nat_le, nat_lt, if◌then◌else◌, Result, Ok, Err, ⊤}
use Rattle.std.specs.Int.{w32, from_be_bytes, to_be_bytes}
use Rattle.std.specs.Str.{is_utf8}
use Rattle.foundation.specs.Steps.{◌>>=◌}
use Rattle.trust_archive.specs.declared.error.ArchiveError.{ArchiveError}
use Rattle.trust_archive.specs.declared.error.ArchiveError.TheVariants.{TooLong}
use Rattle.trust_archive.specs.declared.error.Unread.{Unread}
use Rattle.trust_archive.specs.declared.error.Unread.TheVariants.{Left}

abbrev pub Reading : Type 0 → Type 0
Reading A = Result (A × List ℕ) Unread

abbrev pub unread_at : {A : Type 0} → List ℕ → Reading A
unread_at bytes = Err (Left (length bytes))

-- ---- numbers

-- four octets, the most significant first
abbrev pub number_spelled : ℕ → List ℕ
number_spelled n = to_be_bytes w32 n

unfoldable pub number_at : List ℕ → Reading ℕ
number_at bytes = if nat_le 4 (length bytes) then Ok (from_be_bytes w32 (take 4 bytes), drop 4 bytes) else unread_at bytes

-- they have four octets where they are below 2^32
unfoldable pub fits_of : ℕ → Result ⊤ ArchiveError
fits_of n = if nat_lt n 4294967296 then Ok tt else Err (TooLong n)

-- each of them, in this order
abbrev pub all_fit_of : List ℕ → Result ⊤ ArchiveError
all_fit_of [] = Ok tt
all_fit_of (n ∷ ns) = fits_of n >>= λ _. all_fit_of ns

-- ---- octets behind their number

abbrev pub counted : List ℕ → List ℕ
counted bytes = number_spelled (length bytes) ++ bytes

unfoldable pub octets_at : ℕ → List ℕ → Reading (List ℕ)
octets_at n bytes = if nat_le n (length bytes) then Ok (take n bytes, drop n bytes) else unread_at bytes

unfoldable pub counted_at : List ℕ → Reading (List ℕ)
counted_at bytes = number_at bytes >>= λ n. octets_at n.0 n.1

-- a text is octets that are UTF-8
unfoldable pub utf8_at : ℕ → List ℕ → Reading (List ℕ)
utf8_at n bytes = octets_at n bytes >>= λ t. if is_utf8 t.0 then Ok t else unread_at bytes

unfoldable pub text_at : List ℕ → Reading (List ℕ)
text_at bytes = number_at bytes >>= λ n. utf8_at n.0 n.1

-- ---- lists: their number, and each item

abbrev pub each_spelled : {A : Type 0} → (A → List ℕ) → List A → List ℕ
each_spelled spelled [] = []
each_spelled spelled (x ∷ xs) = spelled x ++ each_spelled spelled xs

abbrev pub list_spelled : {A : Type 0} → (A → List ℕ) → List A → List ℕ
list_spelled spelled xs = number_spelled (length xs) ++ each_spelled spelled xs

abbrev pub times_at : {A : Type 0} → (List ℕ → Reading A) → ℕ → List ℕ → Reading (List A)
times_at reads zero bytes = Ok ([], bytes)
times_at reads (suc n) bytes = reads bytes >>= λ first. times_at reads n first.1 >>= λ later. Ok (first.0 ∷ later.0, later.1)

abbrev pub list_at : {A : Type 0} → (List ℕ → Reading A) → List ℕ → Reading (List A)
list_at reads bytes = number_at bytes >>= λ n. times_at reads n.0 n.1

-- ---- the end

abbrev pub ended_at : {A : Type 0} → A → List ℕ → Result A Unread
ended_at x [] = Ok x
ended_at x (b ∷ bytes) = Err (Left (length (b ∷ bytes)))
