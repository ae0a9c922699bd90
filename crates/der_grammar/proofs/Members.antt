-- Loops over the members of a set.
use Rattle.std.proofs.Common.{◌≡◌, ℕ, zero, suc, ◌+◌, ◌<◌, ◌≤◌, Bool, true, false, List, [], ◌∷◌, ◌++◌, length, get_or, drop, Ok, Err, refl, sym, ap, subst, ◌∙◌, append_assoc, arith}
use Rattle.std.specs.Prelude.{◌&&◌}
use Rattle.std.specs.List.{IsAllAdjacentAnswer}
use Rattle.std.proofs.lemmas.List.{append-nil, drop_all}
use Rattle.foundation.specs.Steps.{◌>>=◌}
use Rattle.der_grammar.specs.declared.error.DerError.{DerError}
use Rattle.der_grammar.specs.Outcome.{Outcome}
use Rattle.der_grammar.specs.Grammar.{Grammar, write}
use Rattle.der_grammar.specs.Sets.{Keyed, is_before, keyed, rises}
use Rattle.der_grammar.proofs.Loops.{Refuses, refuses_along, refuses_as, left}

-- ---- encodings one after the other

abbrev pub KeyedOn : {A : Type 0} → Grammar A → List (Keyed A) → ℕ → List A → Type 0
KeyedOn g done n members = (keyed g (drop n members) >>= λ ks. Ok (done ++ ks)) ≡ keyed g members

nothing_first : {A : Type 0} (r : Outcome (List (Keyed A))) → (r >>= λ ks. Ok ([] ++ ks)) ≡ r
nothing_first (Ok ks) = refl
nothing_first (Err e) = refl

pub begins_keying : {A : Type 0} (g : Grammar A) (members : List A) → KeyedOn g [] 0 members
begins_keying g members = nothing_first (keyed g members)

one_more : {A : Type 0} (done : List (Keyed A)) (k : Keyed A) (r : Outcome (List (Keyed A))) → ((r >>= λ ks. Ok (k ∷ ks)) >>= λ ks. Ok (done ++ ks)) ≡ (r >>= λ ks. Ok ((done ++ k ∷ []) ++ ks))
one_more done k (Ok ks) = ap (λ z. Ok z) (sym (append_assoc done (k ∷ []) ks))
one_more done k (Err e) = refl

pub keys_one : {A : Type 0} (g : Grammar A) (done : List (Keyed A)) (n : ℕ) (members : List A) (x : A) (key : List ℕ) → n < length members → x ≡ get_or members n x → write g x ≡ Ok key → KeyedOn g done n members → KeyedOn g (done ++ (key, x) ∷ []) (n + 1) members
unfolding keyed
keys_one {A} g done n members x key lt is w h =
    let step : keyed g (drop n members) ≡ (keyed g (drop (n + 1) members) >>= λ ks. Ok ((key, x) ∷ ks)) =
    ap (keyed g) (left members n x lt is) ∙ ap (λ (z : Outcome (List ℕ)). z >>= λ key. keyed g (drop (n + 1) members) >>= λ ks. Ok ((key, x) ∷ ks)) w in
    sym (one_more done (key, x) (keyed g (drop (n + 1) members))) ∙ ap (λ (z : Outcome (List (Keyed A))). z >>= λ ks. Ok (done ++ ks)) (sym step) ∙ h

pub keying_refused : {A : Type 0} (e : DerError) (g : Grammar A) (done : List (Keyed A)) (n : ℕ) (members : List A) (x : A) → n < length members → x ≡ get_or members n x → Refuses e (write g x) → KeyedOn g done n members → Refuses e (keyed g members)
unfolding keyed
keying_refused {A} e g done n members x lt is f h =
    refuses_as e _ _ h (refuses_along e (keyed g (drop n members)) (λ ks. Ok (done ++ ks))
    (refuses_as e _ _ (sym (ap (keyed g) (left members n x lt is))) (refuses_along e (write g x) (λ key. keyed g (drop (n + 1) members) >>= λ ks. Ok ((key, x) ∷ ks)) f)))

pub ends_keying : {A : Type 0} (g : Grammar A) (done : List (Keyed A)) (n : ℕ) (members : List A) → length members ≤ n → KeyedOn g done n members → keyed g members ≡ Ok done
unfolding keyed
ends_keying {A} g done n members le h =
    let nothing : keyed g (drop n members) ≡ Ok [] = rw (drop_all n members le) refl in
    sym h ∙ ap (λ (z : Outcome (List (Keyed A))). z >>= λ ks. Ok (done ++ ks)) nothing ∙ ap (λ (z : List (Keyed A)). Ok z) (append-nil done)

-- ---- each before the next

rises_all : {A : Type 0} (ks : List (Keyed A)) → ((k : ℕ) (d : Keyed A) → suc k < length ks → is_before (get_or ks k d) (get_or ks (suc k) d) ≡ true) → rises ks ≡ true
rises_all [] h = refl
rises_all (x ∷ []) h = refl
rises_all (x ∷ y ∷ ys) h =
    let first : is_before x y ≡ true = h 0 x (omega arith) in
    let others = rises_all (y ∷ ys) (λ k d lt. h (suc k) d (omega arith)) in
    rw (first, others) refl

or_false : (a : Bool) → (a && false) ≡ false
or_false true = refl
or_false false = refl

rises_not : {A : Type 0} (ks : List (Keyed A)) (k : ℕ) (d : Keyed A) → suc k < length ks → is_before (get_or ks k d) (get_or ks (suc k) d) ≡ false → rises ks ≡ false
rises_not [] k d lt e = absurd (omega arith)
rises_not (x ∷ []) k d lt e = absurd (omega arith)
rises_not (x ∷ y ∷ ys) zero d lt e = rw e refl
rises_not (x ∷ y ∷ ys) (suc k) d lt e =
    let others = rises_not (y ∷ ys) k d (omega arith) e in
    rw others (or_false (is_before x y))

next : (k : ℕ) → k + 1 ≡ suc k
next k = omega arith

pub rises_answer : {A : Type 0} (ks : List (Keyed A)) (r : Bool) → IsAllAdjacentAnswer (λ x y b. b ≡ is_before x y) ks r → r ≡ rises ks
rises_answer ks true h = sym (rises_all ks (λ k d lt. subst (λ (m : ℕ). is_before (get_or ks k d) (get_or ks m d) ≡ true) (next k) (sym (h k d (omega arith)))))
rises_answer [] false h = absurd (let lt = h.1 in omega arith)
rises_answer (x ∷ ks) false h = sym (rises_not (x ∷ ks) h.0 x (omega (arith, h.1)) (subst (λ (m : ℕ). is_before (get_or (x ∷ ks) h.0 x) (get_or (x ∷ ks) m x) ≡ false) (next h.0) (sym (h.2 x))))
