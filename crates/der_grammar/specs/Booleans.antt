-- BOOLEAN: one octet, 0 for FALSE and 255 for TRUE (X.690, 8.2 and 11.1).
use Rattle.std.specs.Prelude.{◌≡◌, ℕ, Bool, true, false, ◌==◌, List, [], ◌∷◌, Ok, Err, if◌then◌else◌}
use mathlib.Core.Bool.{beq}
use Rattle.std.proofs.Common.{refl, sym, ap, eqb, ◌∙◌, inl, inr}
use Rattle.std.proofs.lemmas.Bool.{eqb-true}
use Rattle.der_grammar.specs.declared.error.DerError.TheVariants.{Value}
use Rattle.der_grammar.specs.Outcome.{Outcome}
use Rattle.der_grammar.specs.TlvLaws.{chosen, passed, ok_is}
use Rattle.der_grammar.specs.Types.{AsnType, Components, primitive_type, refined_type, default_component}

abbrev pub boolean_of : List ℕ → Outcome Bool
boolean_of [] = Err Value
boolean_of (b ∷ []) = if b == 0 then Ok false else if b == 255 then Ok true else Err Value
boolean_of (b ∷ c ∷ more) = Err Value

abbrev pub boolean_contents : Bool → List ℕ
boolean_contents true = 255 ∷ []
boolean_contents false = 0 ∷ []

pub boolean-again : (a : List ℕ) (b : Bool) → boolean_of a ≡ Ok b → boolean_contents b ≡ a
boolean-again [] b e = absurd cc
boolean-again (x ∷ y ∷ more) b e = absurd cc
boolean-again (x ∷ []) b e = elim (chosen (eqb x 0) _ _ _ e) [
  | inl p ↦ ap boolean_contents (sym (ok_is false b p.1)) ∙ ap (λ (z : ℕ). z ∷ []) (sym (eqb-true x 0 p.0))
  | inr p ↦ let q = passed (eqb x 255) Value (Ok true) b p.1 in
      ap boolean_contents (sym (ok_is true b q.1)) ∙ ap (λ (z : ℕ). z ∷ []) (sym (eqb-true x 255 q.0))
]

pub boolean-fixed : (b other : Bool) → boolean_of (boolean_contents b) ≡ Ok other → other ≡ b
boolean-fixed true other e = sym (ok_is true other e)
boolean-fixed false other e = sym (ok_is false other e)

abbrev pub boolean_type : AsnType Bool
boolean_type = refined_type boolean_of boolean_contents (primitive_type 1 (λ c. true) refl) boolean-again boolean-fixed

-- ---- BOOLEAN DEFAULT FALSE

pub only_false : (b : Bool) → beq false b ≡ true → b ≡ false
only_false true e = absurd cc
only_false false e = refl

abbrev pub false_by_default : Components Bool
false_by_default = default_component (beq false) false boolean_type refl only_false
