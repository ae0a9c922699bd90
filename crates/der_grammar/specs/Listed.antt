-- Types with few values, each with a number below 128: versions and enumerations.
use Rattle.std.specs.Prelude.{◌≡◌, ℕ, true, List, [], ◌∷◌, Ok, Err, ◌==◌, if◌then◌else◌}
use Rattle.std.proofs.Common.{sym, ap, subst, eqb, ◌∙◌, inl, inr}
use Rattle.std.proofs.lemmas.Bool.{eqb-true}
use Rattle.der_grammar.specs.declared.error.DerError.TheVariants.{Value}
use Rattle.der_grammar.specs.Outcome.{Outcome}
use Rattle.der_grammar.specs.Choices.{is_tag}
use Rattle.der_grammar.specs.TlvLaws.{chosen, ok_is}
use Rattle.der_grammar.specs.Types.{AsnType, primitive_type, refined_type}

-- the value with this number
abbrev pub with_number : {A : Type 0} → (A → ℕ) → List A → ℕ → Outcome A
with_number number [] n = Err Value
with_number number (a ∷ values) n = if number a == n then Ok a else with_number number values n

-- the value whose number is the one octet
abbrev pub listed_of : {A : Type 0} → (A → ℕ) → List A → List ℕ → Outcome A
listed_of number values [] = Err Value
listed_of number values (n ∷ []) = with_number number values n
listed_of number values (n ∷ m ∷ more) = Err Value

with_number-is : {A : Type 0} (number : A → ℕ) (values : List A) (n : ℕ) (b : A) → with_number number values n ≡ Ok b → number b ≡ n
with_number-is number [] n b e = absurd cc
with_number-is number (a ∷ values) n b e = elim (chosen (eqb (number a) n) _ _ _ e) [
  | inl p ↦ subst (λ z. number z ≡ n) (ok_is a b p.1) (eqb-true (number a) n p.0)
  | inr p ↦ with_number-is number values n b p.1
]

pub listed-again : {A : Type 0} (number : A → ℕ) (values : List A) (c : List ℕ) (b : A)
    → listed_of number values c ≡ Ok b → number b ∷ [] ≡ c
listed-again number values [] b e = absurd cc
listed-again number values (n ∷ []) b e = ap (λ (z : ℕ). z ∷ []) (with_number-is number values n b e)
listed-again number values (n ∷ m ∷ more) b e = absurd cc

pub listed-fixed : {A : Type 0} (number : A → ℕ) (values : List A) (b other : A)
    → with_number number values (number b) ≡ Ok b → with_number number values (number b) ≡ Ok other → other ≡ b
listed-fixed number values b other found e = ok_is other b (sym e ∙ found)

-- the values under a tag; each is found by its number, which is `refl` in each case
abbrev pub listed_type : {A : Type 0} (tag : ℕ) (number : A → ℕ) (values : List A) → is_tag tag ≡ true
    → ((a : A) → with_number number values (number a) ≡ Ok a) → AsnType A
listed_type tag number values ok found =
    refined_type (listed_of number values) (λ a. number a ∷ []) (primitive_type tag (λ c. true) ok)
    (listed-again number values) (λ b other e. listed-fixed number values b other (found b) e)
