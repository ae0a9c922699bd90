-- SET OF: the members in ascending order of their encodings (X.690, 11.6), no two equal.
use Rattle.std.specs.Prelude.{◌≡◌, ℕ, Bool, true, false, List, [], ◌∷◌, map, Ok, Err, ◌==◌, ◌&&◌, if◌then◌else◌}
use Rattle.std.specs.List.Sorted.{IsPermutation}
use Rattle.std.specs.Ordering.{nat_cmp, is_lt}
use Rattle.std.specs.Cmp.Lexicographic.{slice_cmp}
use Rattle.foundation.specs.Steps.{◌>>=◌}
use Rattle.der_grammar.specs.declared.error.DerError.TheVariants.{SetDuplicate, Value}
use Rattle.der_grammar.specs.Outcome.{Outcome}
use Rattle.der_grammar.specs.Grammar.{Grammar, write}
use Rattle.der_grammar.specs.Many.{EachEncoded, many_of, write_each}

-- a member with its encoding
abbrev pub Keyed : Type 0 → Type 0
Keyed A = List ℕ × A

-- the first encoding comes before the second: at the first octet where they differ it has the smaller
-- one. No encoding is the front of another, so padding with zeros makes no difference.
abbrev pub is_before : {A : Type 0} → Keyed A → Keyed A → Bool
is_before x y = is_lt (slice_cmp nat_cmp x.0 y.0)

-- the members with their encodings
unfoldable pub keyed : {A : Type 0} → Grammar A → List A → Outcome (List (Keyed A))
keyed g [] = Ok []
keyed g (x ∷ xs) = write g x >>= λ key. keyed g xs >>= λ ks. Ok ((key, x) ∷ ks)

-- the member goes behind those that come before it
abbrev pub place : {A : Type 0} → Keyed A → List (Keyed A) → List (Keyed A)
place x [] = x ∷ []
place x (y ∷ ys) = if is_before y x then y ∷ place x ys else x ∷ y ∷ ys

-- in ascending order of the encodings
abbrev pub ordered : {A : Type 0} → List (Keyed A) → List (Keyed A)
ordered [] = []
ordered (x ∷ xs) = place x (ordered xs)

-- each comes before the next, so that no two are equal
abbrev pub rises : {A : Type 0} → List (Keyed A) → Bool
rises [] = true
rises (x ∷ []) = true
rises (x ∷ y ∷ ys) = is_before x y && rises (y ∷ ys)

abbrev pub values : {A : Type 0} → List (Keyed A) → List A
values ks = map (λ k. k.1) ks

abbrev pub distinct : {A : Type 0} → List (Keyed A) → Outcome (List A)
distinct ks = if rises ks then Ok (values ks) else Err SetDuplicate

-- the set of these members: TooLong where one can't be written, then SetDuplicate where two are equal
unfoldable pub set_from : {A : Type 0} → Grammar A → List A → Outcome (List A)
set_from g members = keyed g members >>= λ ks. distinct (ordered ks)

abbrev pub rise : {A : Type 0} → Outcome (List (Keyed A)) → Bool
rise (Ok ks) = rises ks
rise (Err e) = false

-- a list that is a set: each member can be written and comes before the next
unfoldable pub is_set : {A : Type 0} → Grammar A → List A → Bool
is_set g xs = rise (keyed g xs)

-- the members of a set: those that were put in, each encoded before the next
pub record IsSetOf {A : Type 0} (g : Grammar A) (members a : List A) : Type 0 where
  pub same : IsPermutation members a
  pub keys : List (Keyed A)
  pub are : keyed g a ≡ Ok keys
  pub rise_so : rises keys ≡ true

-- read in any order, written in ascending order
abbrev pub set_of : {A : Type 0} → Grammar A → Grammar (List A)
set_of {A} g = record {
  accepts = λ t. t == 49;
  IsEncoded = λ a t c. (t ≡ 49) × ((members : List A) × EachEncoded g members c × (set_from g members ≡ Ok a));
  value = λ t c. many_of g c >>= set_from g;
  tag = λ a. 49;
  contents = λ a. if is_set g a then write_each g a else Err Value;
  plain = false;
}
