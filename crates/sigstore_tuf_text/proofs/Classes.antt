-- Lemmas on classes of characters, and how they are read.
use Rattle.std.proofs.Common.{◌≡◌, ◌≢◌, ℕ, suc, ◌+◌, ◌-◌, ◌≤◌, List, [], ◌∷◌, length, get_or, take, drop, Bool, true, false, cond, not, ◌&&◌, ◌||◌, ◌==◌, nat_le, nat_lt, Some, None, refl, sym, ◌∙◌, add-one, arith}
use Rattle.std.proofs.Math.Seq.{take-length}
use Rattle.std.proofs.lemmas.List.{length-take-le}
use Rattle.std.proofs.lemmas.Bool.Decides.{nat_tests}
use Rattle.std.specs.List.{list_any, position, position_or_len}
use Rattle.foundation.specs.Results.{some_same}
use Rattle.sigstore_tuf_text.specs.Pattern.{one, is_member}
use Rattle.sigstore_tuf_text.specs.Piece.{turn_of, closed_in}

-- a range from a character to itself has that one alone
pub between_same : (a c : ℕ) → (nat_le a c && nat_le c a) ≡ (a == c)
between_same a c = grind (arith, nat_tests)

-- what is left after two is all the rest
take_rest : (a b : ℕ) (l : List ℕ) → take (length (a ∷ b ∷ l) - 2) l ≡ l
take_rest a b l = let e : length (a ∷ b ∷ l) - 2 ≡ length l = omega arith in rw e (take-length l)

pub range_member : (first c dash last : ℕ) (later : List ℕ) → 2 ≤ length later → dash ≡ get_or later 0 dash → last ≡ get_or later 1 last → dash ≡ 45
    → is_member (first ∷ later) c ≡ ((nat_le first c && nat_le c last) || is_member (take (length later - 2) (drop 2 later)) c)
range_member first c dash last [] h at to is = absurd (omega arith)
range_member first c dash last (a ∷ []) h at to is = absurd (omega arith)
range_member first c dash last (a ∷ b ∷ l) h at to is =
    let a_is : a ≡ 45 = sym at ∙ is in rw (a_is, to, take_rest 45 b l)

pub lone_member : (first c dash : ℕ) (later : List ℕ) → 2 ≤ length later → dash ≡ get_or later 0 dash → dash ≢ 45
    → is_member (first ∷ later) c ≡ ((nat_le first c && nat_le c first) || is_member later c)
lone_member first c dash [] h at not_dash = absurd (omega arith)
lone_member first c dash (a ∷ []) h at not_dash = absurd (omega arith)
lone_member first c dash (a ∷ b ∷ l) h at not_dash =
    let other : (a == 45) ≡ false = grind (arith, nat_tests) in rw (other, between_same first c)

-- an element passes where the first place is before the end
pub any_below : (p : ℕ → Bool) (xs : List ℕ) → list_any p xs ≡ nat_lt (position_or_len p xs) (length xs)
any_below p [] = refl
any_below p (x ∷ xs) = cases (p x) (any_below p xs)
  where
    cases : (b : Bool) → list_any p xs ≡ nat_lt (position_or_len p xs) (length xs)
        → (b || list_any p xs) ≡ nat_lt (cond (not b) (1 + position_or_len p xs) 0) (length (x ∷ xs))
    cases true e = grind (arith, nat_tests)
    cases false e = e ∙ grind (arith, nat_tests)

some_closed : (negated : Bool) (first : ℕ) (later : List ℕ) → list_any (λ c. c == 93) later ≡ true → position_or_len (λ c. c == 93) later ≤ length later
    → closed_in negated (first ∷ later)
    ≡ Some (one (λ c. turn_of negated (is_member (first ∷ take (position_or_len (λ c. c == 93) later) later) c)), drop (position_or_len (λ c. c == 93) later + 1) later)
some_closed negated first later any short =
    let n = position_or_len (λ c. c == 93) later in
    let e : 1 + n + 1 ≡ suc (n + 1) = omega arith in
    rw (any, length-take-le n later short, e)

none_closed : (negated : Bool) (first : ℕ) (later : List ℕ) → list_any (λ c. c == 93) later ≡ false → closed_in negated (first ∷ later) ≡ None
none_closed negated first later any = rw any

-- the class ends at the first `]`
closed_at : (negated : Bool) (first : ℕ) (later : List ℕ) (end : ℕ) → Some end ≡ position (λ c. c == 93) later
    → closed_in negated (first ∷ later) ≡ Some (one (λ c. turn_of negated (is_member (first ∷ take end later) c)), drop (end + 1) later)
closed_at negated first later end is = cases (nat_lt (position_or_len (λ c. c == 93) later) (length later)) refl is
  where
    cases : (b : Bool) → nat_lt (position_or_len (λ c. c == 93) later) (length later) ≡ b → Some end ≡ cond b (Some (position_or_len (λ c. c == 93) later)) None
        → closed_in negated (first ∷ later) ≡ Some (one (λ c. turn_of negated (is_member (first ∷ take end later) c)), drop (end + 1) later)
    cases true e at =
        let same : end ≡ position_or_len (λ c. c == 93) later = some_same end (position_or_len (λ c. c == 93) later) at in
        let short : position_or_len (λ c. c == 93) later ≤ length later = grind (arith, nat_tests) in
        rw same (some_closed negated first later (any_below (λ c. c == 93) later ∙ e) short)
    cases false e at = cc

pub never_closed : (negated : Bool) (first : ℕ) (later : List ℕ) → None ≡ position (λ c. c == 93) later → closed_in negated (first ∷ later) ≡ None
never_closed negated first later is = cases (nat_lt (position_or_len (λ c. c == 93) later) (length later)) refl is
  where
    cases : (b : Bool) → nat_lt (position_or_len (λ c. c == 93) later) (length later) ≡ b → None ≡ cond b (Some (position_or_len (λ c. c == 93) later)) None
        → closed_in negated (first ∷ later) ≡ None
    cases true e at = cc
    cases false e at = none_closed negated first later (any_below (λ c. c == 93) later ∙ e)

-- what is left after the first is all the rest
pub taken_tail : (first : ℕ) (later : List ℕ) → take (length (first ∷ later) - 1) later ≡ later
taken_tail first later = let e : length (first ∷ later) - 1 ≡ length later = omega arith in rw e (take-length later)

-- a class that was read, by the parts of the text
pub class_read : (negated : Bool) (text members rest : List ℕ) (end : ℕ) → 1 ≤ length text → Some end ≡ position (λ c. c == 93) (take (length text - 1) (drop 1 text))
    → members ≡ take (end + 1) text → rest ≡ drop (end + 1) (take (length text - 1) (drop 1 text))
    → Some (one (λ c. turn_of negated (is_member members c)), rest) ≡ closed_in negated text
class_read negated [] members rest end some at is left = absurd (omega arith)
class_read negated (first ∷ later) members rest end some at is left =
    let here : Some end ≡ position (λ c. c == 93) later = rw (taken_tail first later) at at in
    let front : members ≡ first ∷ take end later = is ∙ rw add-one in
    let back : rest ≡ drop (end + 1) later = left ∙ rw (taken_tail first later) in
    sym (rw (front, back) (closed_at negated first later end here))

pub class_unread : (negated : Bool) (text : List ℕ) → 1 ≤ length text → None ≡ position (λ c. c == 93) (take (length text - 1) (drop 1 text)) → None ≡ closed_in negated text
class_unread negated [] some at = absurd (omega arith)
class_unread negated (first ∷ later) some at = sym (never_closed negated first later (rw (taken_tail first later) at at))
