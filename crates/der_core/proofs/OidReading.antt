-- Reading the arcs of groups, one after the other.
use Rattle.std.proofs.Common.{◌≡◌, ℕ, zero, suc, ◌+◌, ◌-◌, ◌*◌, ◌<◌, ◌≤◌, ltb, eqb, List, [], ◌∷◌, ◌++◌, length, Ok, Err, refl, sym, ap, ◌∙◌, append_assoc, arith, inl, inr}
use Rattle.std.proofs.lemmas.List.{append-nil}
use Rattle.foundation.specs.Steps.{◌>>=◌}
use Rattle.der_grammar.specs.declared.error.DerError.{DerError}
use Rattle.der_grammar.specs.declared.error.DerError.TheVariants.{Value}
use Rattle.der_grammar.specs.Outcome.{Outcome}
use Rattle.der_grammar.specs.TlvLaws.{ok_is, chosen, passed, not_refused}
use Rattle.der_grammar.specs.ManyLaws.{two_ways}
use Rattle.der_core.specs.Oid.{fifth_octet, fourth_octet, third_octet, second_octet, group_at, one_arc, later_at, later_arcs}

-- ---- a group takes an octet at least

rest_is : (n : ℕ) (bytes : List ℕ) (v : ℕ) (rest : List ℕ) → Path (Outcome (ℕ × List ℕ)) (Ok (n, bytes)) (Ok (v, rest)) → bytes ≡ rest
rest_is n bytes v rest e = ap (λ (x : ℕ × List ℕ). x.1) (ok_is (n, bytes) (v, rest) e)

fifth-shorter : (v : ℕ) (bytes : List ℕ) (n : ℕ) (rest : List ℕ) → fifth_octet v bytes ≡ Ok (n, rest) → length rest < length bytes
unfolding fifth_octet
fifth-shorter v [] n rest e = absurd cc
fifth-shorter v (b ∷ bytes) n rest e = let p = passed (ltb b 128) Value (Ok (128 * v + b, bytes)) (n, rest) e in omega (arith, ap length (rest_is (128 * v + b) bytes n rest p.1))

fourth-shorter : (v : ℕ) (bytes : List ℕ) (n : ℕ) (rest : List ℕ) → fourth_octet v bytes ≡ Ok (n, rest) → length rest < length bytes
unfolding fourth_octet
fourth-shorter v [] n rest e = absurd cc
fourth-shorter v (b ∷ bytes) n rest e = elim (chosen (ltb b 128) _ _ _ e) [
  | inl p ↦ omega (arith, ap length (rest_is (128 * v + b) bytes n rest p.1))
  | inr p ↦ omega (arith, fifth-shorter (128 * v + (b - 128)) bytes n rest p.1)
]

third-shorter : (v : ℕ) (bytes : List ℕ) (n : ℕ) (rest : List ℕ) → third_octet v bytes ≡ Ok (n, rest) → length rest < length bytes
unfolding third_octet
third-shorter v [] n rest e = absurd cc
third-shorter v (b ∷ bytes) n rest e = elim (chosen (ltb b 128) _ _ _ e) [
  | inl p ↦ omega (arith, ap length (rest_is (128 * v + b) bytes n rest p.1))
  | inr p ↦ omega (arith, fourth-shorter (128 * v + (b - 128)) bytes n rest p.1)
]

second-shorter : (v : ℕ) (bytes : List ℕ) (n : ℕ) (rest : List ℕ) → second_octet v bytes ≡ Ok (n, rest) → length rest < length bytes
unfolding second_octet
second-shorter v [] n rest e = absurd cc
second-shorter v (b ∷ bytes) n rest e = elim (chosen (ltb b 128) _ _ _ e) [
  | inl p ↦ omega (arith, ap length (rest_is (128 * v + b) bytes n rest p.1))
  | inr p ↦ omega (arith, third-shorter (128 * v + (b - 128)) bytes n rest p.1)
]

pub group-shorter : (bytes : List ℕ) (n : ℕ) (rest : List ℕ) → group_at bytes ≡ Ok (n, rest) → length rest < length bytes
unfolding group_at
group-shorter [] n rest e = absurd cc
group-shorter (b ∷ bytes) n rest e = elim (chosen (ltb b 128) _ _ _ e) [
  | inl p ↦ omega (arith, ap length (rest_is b bytes n rest p.1))
  | inr p ↦ let q = not_refused (eqb b 128) Value (second_octet (b - 128) bytes) (n, rest) p.1 in omega (arith, second-shorter (b - 128) bytes n rest q.1)
]

-- ---- the bound on the number of groups doesn't matter

later-more : (n m : ℕ) (bytes : List ℕ) → length bytes ≤ n → length bytes ≤ m → later_at n bytes ≡ later_at m bytes
unfolding later_at
later-more n m [] p q = refl
later-more zero m (b ∷ bytes) p q = absurd (omega arith)
later-more (suc n) zero (b ∷ bytes) p q = absurd (omega arith)
later-more (suc n) (suc m) (b ∷ bytes) p q =
    two_ways (group_at (b ∷ bytes)) (λ x. one_arc x.0 >>= λ arc. later_at n x.1 >>= λ arcs. Ok (arc ∷ arcs)) (λ x. one_arc x.0 >>= λ arc. later_at m x.1 >>= λ arcs. Ok (arc ∷ arcs))
    (λ x e. let lt = group-shorter (b ∷ bytes) x.0 x.1 e in
    ap (λ (r : Outcome (List ℕ)). one_arc x.0 >>= λ arc. r >>= λ arcs. Ok (arc ∷ arcs)) (later-more n m x.1 (omega arith) (omega arith)))

pub later-step : (b : ℕ) (bytes : List ℕ) → later_arcs (b ∷ bytes) ≡ (group_at (b ∷ bytes) >>= λ x. one_arc x.0 >>= λ arc. later_arcs x.1 >>= λ arcs. Ok (arc ∷ arcs))
unfolding later_arcs later_at
later-step b bytes =
    two_ways (group_at (b ∷ bytes)) (λ x. one_arc x.0 >>= λ arc. later_at (length bytes) x.1 >>= λ arcs. Ok (arc ∷ arcs)) (λ x. one_arc x.0 >>= λ arc. later_at (length x.1) x.1 >>= λ arcs. Ok (arc ∷ arcs))
    (λ x e. let lt = group-shorter (b ∷ bytes) x.0 x.1 e in
    ap (λ (r : Outcome (List ℕ)). one_arc x.0 >>= λ arc. r >>= λ arcs. Ok (arc ∷ arcs)) (later-more (length bytes) (length x.1) x.1 (omega arith) (omega arith)))

-- ---- the loop

pub record LaterOn (old new rest bytes : List ℕ) : Type 0 where
  pub done : List ℕ
  pub text : new ≡ old ++ done
  pub left : (later_arcs rest >>= λ xs. Ok (done ++ xs)) ≡ later_arcs bytes

nothing_first : (r : Outcome (List ℕ)) → (r >>= λ xs. Ok ([] ++ xs)) ≡ r
nothing_first (Ok xs) = refl
nothing_first (Err e) = refl

pub later-begins : (old bytes : List ℕ) → LaterOn old old bytes bytes
later-begins old bytes = record { done = []; text = sym (append-nil old); left = nothing_first (later_arcs bytes) }

one_more : (done : List ℕ) (x : ℕ) (r : Outcome (List ℕ)) → ((r >>= λ xs. Ok (x ∷ xs)) >>= λ xs. Ok (done ++ xs)) ≡ (r >>= λ xs. Ok ((done ++ x ∷ []) ++ xs))
one_more done x (Ok xs) = ap (λ z. Ok z) (sym (append_assoc done (x ∷ []) xs))
one_more done x (Err e) = refl

pub later-one : (old new rest after bytes : List ℕ) (n arc : ℕ) → 0 < length rest → group_at rest ≡ Ok (n, after) → one_arc n ≡ Ok arc → LaterOn old new rest bytes → LaterOn old (new ++ arc ∷ []) after bytes
later-one old new [] after bytes n arc some g a h = absurd (omega arith)
later-one old new (b ∷ more) after bytes n arc some g a h =
    let step : later_arcs (b ∷ more) ≡ (later_arcs after >>= λ arcs. Ok (arc ∷ arcs)) =
    later-step b more ∙ ap (λ (z : Outcome (ℕ × List ℕ)). z >>= λ x. one_arc x.0 >>= λ arc. later_arcs x.1 >>= λ arcs. Ok (arc ∷ arcs)) g ∙ ap (λ (z : Outcome ℕ). z >>= λ arc. later_arcs after >>= λ arcs. Ok (arc ∷ arcs)) a in
    record {
      done = h.done ++ arc ∷ [];
      text = ap (λ (z : List ℕ). z ++ arc ∷ []) h.text ∙ append_assoc old h.done (arc ∷ []);
      left = sym (one_more h.done arc (later_arcs after)) ∙ ap (λ (z : Outcome (List ℕ)). z >>= λ xs. Ok (h.done ++ xs)) (sym step) ∙ h.left;
    }

refused_along : {A B : Type 0} (e : DerError) (r : Outcome A) (f : A → Outcome B) → r ≡ Err e → (r >>= f) ≡ Err e
refused_along e r f h = rw h refl

pub later-refused : (old new rest bytes : List ℕ) (e : DerError) → 0 < length rest → group_at rest ≡ Err e → LaterOn old new rest bytes → later_arcs bytes ≡ Err e
later-refused old new [] bytes e some g h = absurd (omega arith)
later-refused old new (b ∷ more) bytes e some g h =
    sym h.left ∙ refused_along e (later_arcs (b ∷ more)) _ (later-step b more ∙ refused_along e (group_at (b ∷ more)) _ g)

pub arc-refused : (old new rest after bytes : List ℕ) (n : ℕ) (e : DerError) → 0 < length rest → group_at rest ≡ Ok (n, after) → one_arc n ≡ Err e → LaterOn old new rest bytes → later_arcs bytes ≡ Err e
arc-refused old new [] after bytes n e some g a h = absurd (omega arith)
arc-refused old new (b ∷ more) after bytes n e some g a h =
    sym h.left ∙ refused_along e (later_arcs (b ∷ more)) _ (later-step b more ∙ ap (λ (z : Outcome (ℕ × List ℕ)). z >>= λ x. one_arc x.0 >>= λ arc. later_arcs x.1 >>= λ arcs. Ok (arc ∷ arcs)) g ∙ refused_along e (one_arc n) _ a)

pub later-ends : (old new rest bytes : List ℕ) → length rest ≡ 0 → LaterOn old new rest bytes → (more : List ℕ) × (later_arcs bytes ≡ Ok more) × (new ≡ old ++ more)
unfolding later_arcs later_at
later-ends old new [] bytes none h = (h.done, sym h.left ∙ ap (λ (z : List ℕ). Ok z) (append-nil h.done), h.text)
later-ends old new (b ∷ more) bytes none h = absurd (omega arith)
