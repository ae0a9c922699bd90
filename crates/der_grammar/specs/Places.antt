-- How a member is put into a set: at its place, found from the front.
use Rattle.std.specs.Prelude.{ℕ, suc, List, [], ◌∷◌, insert, Ok, Err}
use Rattle.std.specs.declared.cmp.Ordering.{Ordering}
use Rattle.std.specs.declared.cmp.Ordering.TheVariants.{Less, Equal, Greater}
use Rattle.std.specs.Ordering.{nat_cmp}
use Rattle.std.specs.Cmp.Lexicographic.{slice_cmp}
use Rattle.foundation.specs.Steps.{◌>>=◌}
use Rattle.der_grammar.specs.declared.error.DerError.TheVariants.{SetDuplicate}
use Rattle.der_grammar.specs.Outcome.{Outcome}
use Rattle.der_grammar.specs.Grammar.{Grammar, write}

abbrev pub by_order : {X : Type 0} → Ordering → X → X → X → X
by_order Less a b c = a
by_order Equal a b c = b
by_order Greater a b c = c

-- the place of a member with this encoding, or SetDuplicate where an equal one is there
unfoldable pub place_of : {A : Type 0} → Grammar A → List ℕ → List A → Outcome ℕ
place_of g key [] = Ok 0
place_of g key (y ∷ ys) =
    write g y >>= λ other. by_order (slice_cmp nat_cmp key other) (Ok 0) (Err SetDuplicate) (place_of g key ys >>= λ i. Ok (suc i))

unfoldable pub put : {A : Type 0} → Grammar A → A → List A → Outcome (List A)
put g x ys = write g x >>= λ key. place_of g key ys >>= λ i. Ok (insert ys i x)
