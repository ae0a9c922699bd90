-- Arcs that were written are read again.
use Rattle.std.proofs.Common.{◌≡◌, ◌⊎◌, ℕ, zero, suc, ◌+◌, ◌-◌, ◌*◌, ◌/◌, ◌%◌, ◌<◌, ◌≤◌, Bool, true, false, cond, ltb, eqb, List, [], ◌∷◌, ◌++◌, length, get_or, Ok, Err, refl, sym, ap, subst, ◌∙◌, arith, inl, inr}
use Rattle.std.specs.Prelude.{◌&&◌, ◌||◌, is_ok}
use Rattle.std.proofs.lemmas.Bool.{cases_lt, le-ltb, lt-ltb, ltb-true, eqb-true}
use Rattle.std.proofs.lemmas.Bool.Decides.{nat_tests}
use Rattle.foundation.specs.Steps.{◌>>=◌}
use Rattle.der_grammar.specs.declared.error.DerError.TheVariants.{Oid}
use Rattle.der_grammar.specs.Outcome.{Outcome}
use Rattle.der_grammar.specs.TlvLaws.{ok_is, passed}
use Rattle.der_core.proofs.OidReading.{later-step}
use Rattle.der_core.specs.Oid.{fifth_octet, fourth_octet, third_octet, second_octet, group_at, first_arcs, one_arc, later_at, later_arcs, arcs_of, is_oid, group_bytes, groups_bytes, arcs_bytes, are_arcs, oid_of}

-- ---- one group

two : (h l : ℕ) (rest : List ℕ) → 1 ≤ h → l < 128 → group_at ((128 + h) ∷ l ∷ rest) ≡ Ok (128 * h + l, rest)
unfolding group_at second_octet
two h l rest some fits =
    let t0 : ltb (128 + h) 128 ≡ false = le-ltb _ _ (omega arith) in
    let t1 : eqb (128 + h) 128 ≡ false = grind (arith, nat_tests) in
    let t2 : ltb l 128 ≡ true = lt-ltb _ _ fits in
    let m : 128 + h - 128 ≡ h = omega arith in
    rw (t0, t1, t2, m) refl

three : (h a l : ℕ) (rest : List ℕ) → 1 ≤ h → l < 128 → group_at ((128 + h) ∷ (128 + a) ∷ l ∷ rest) ≡ Ok (128 * (128 * h + a) + l, rest)
unfolding group_at second_octet third_octet
three h a l rest some fits =
    let t0 : ltb (128 + h) 128 ≡ false = le-ltb _ _ (omega arith) in
    let t1 : eqb (128 + h) 128 ≡ false = grind (arith, nat_tests) in
    let u0 : ltb (128 + a) 128 ≡ false = le-ltb _ _ (omega arith) in
    let t2 : ltb l 128 ≡ true = lt-ltb _ _ fits in
    let m : 128 + h - 128 ≡ h = omega arith in
    let n : 128 + a - 128 ≡ a = omega arith in
    rw (t0, t1, u0, t2, m, n) refl

four : (h a b l : ℕ) (rest : List ℕ) → 1 ≤ h → l < 128 → group_at ((128 + h) ∷ (128 + a) ∷ (128 + b) ∷ l ∷ rest) ≡ Ok (128 * (128 * (128 * h + a) + b) + l, rest)
unfolding group_at second_octet third_octet fourth_octet
four h a b l rest some fits =
    let t0 : ltb (128 + h) 128 ≡ false = le-ltb _ _ (omega arith) in
    let t1 : eqb (128 + h) 128 ≡ false = grind (arith, nat_tests) in
    let u0 : ltb (128 + a) 128 ≡ false = le-ltb _ _ (omega arith) in
    let u1 : ltb (128 + b) 128 ≡ false = le-ltb _ _ (omega arith) in
    let t2 : ltb l 128 ≡ true = lt-ltb _ _ fits in
    let m : 128 + h - 128 ≡ h = omega arith in
    let n : 128 + a - 128 ≡ a = omega arith in
    let o : 128 + b - 128 ≡ b = omega arith in
    rw (t0, t1, u0, u1, t2, m, n, o) refl

five : (h a b d l : ℕ) (rest : List ℕ) → 1 ≤ h → l < 128 → group_at ((128 + h) ∷ (128 + a) ∷ (128 + b) ∷ (128 + d) ∷ l ∷ rest) ≡ Ok (128 * (128 * (128 * (128 * h + a) + b) + d) + l, rest)
unfolding group_at second_octet third_octet fourth_octet fifth_octet
five h a b d l rest some fits =
    let t0 : ltb (128 + h) 128 ≡ false = le-ltb _ _ (omega arith) in
    let t1 : eqb (128 + h) 128 ≡ false = grind (arith, nat_tests) in
    let u0 : ltb (128 + a) 128 ≡ false = le-ltb _ _ (omega arith) in
    let u1 : ltb (128 + b) 128 ≡ false = le-ltb _ _ (omega arith) in
    let u2 : ltb (128 + d) 128 ≡ false = le-ltb _ _ (omega arith) in
    let t2 : ltb l 128 ≡ true = lt-ltb _ _ fits in
    let m : 128 + h - 128 ≡ h = omega arith in
    let n : 128 + a - 128 ≡ a = omega arith in
    let o : 128 + b - 128 ≡ b = omega arith in
    let q : 128 + d - 128 ≡ d = omega arith in
    rw (t0, t1, u0, u1, u2, t2, m, n, o, q) refl

value_is : (m n : ℕ) (rest : List ℕ) (r : Outcome (ℕ × List ℕ)) → m ≡ n → r ≡ Ok (m, rest) → r ≡ Ok (n, rest)
value_is m n rest r is e = e ∙ ap (λ (z : ℕ). Ok (z, rest)) is

pub group-again : (n : ℕ) (rest : List ℕ) → group_at (group_bytes n ++ rest) ≡ Ok (n, rest)
unfolding group_bytes group_at
group-again n rest = elim (cases_lt n 128) [
  | inl a ↦ let t : ltb n 128 ≡ true = lt-ltb _ _ a in rw t (rw t refl)
  | inr a ↦ let t0 : ltb n 128 ≡ false = le-ltb _ _ a in elim (cases_lt n 16384) [
    | inl b ↦ let t1 : ltb n 16384 ≡ true = lt-ltb _ _ b in
        rw (t0, t1) (value_is _ n rest _ (omega arith) (two (n / 128) (n % 128) rest (omega arith) (omega arith)))
    | inr b ↦ let t1 : ltb n 16384 ≡ false = le-ltb _ _ b in elim (cases_lt n 2097152) [
      | inl d ↦ let t2 : ltb n 2097152 ≡ true = lt-ltb _ _ d in
          rw (t0, t1, t2) (value_is _ n rest _ (omega arith) (three (n / 16384) (n / 128 % 128) (n % 128) rest (omega arith) (omega arith)))
      | inr d ↦ let t2 : ltb n 2097152 ≡ false = le-ltb _ _ d in elim (cases_lt n 268435456) [
        | inl h ↦ let t3 : ltb n 268435456 ≡ true = lt-ltb _ _ h in
            rw (t0, t1, t2, t3) (value_is _ n rest _ (omega arith) (four (n / 2097152) (n / 16384 % 128) (n / 128 % 128) (n % 128) rest (omega arith) (omega arith)))
        | inr h ↦ let t3 : ltb n 268435456 ≡ false = le-ltb _ _ h in
            rw (t0, t1, t2, t3) (value_is _ n rest _ (omega arith) (five (n / 268435456) (n / 2097152 % 128) (n / 16384 % 128) (n / 128 % 128) (n % 128) rest (omega arith) (omega arith)))
      ]
    ]
  ]
]

-- ---- groups

abbrev pub AllBelow : ℕ → List ℕ → Type 0
AllBelow m [] = Unit {0}
AllBelow m (n ∷ ns) = (n < m) × AllBelow m ns

pub below_from_each : (m : ℕ) (ns : List ℕ) → 0 < m → ((i : ℕ) → get_or ns i 0 < m) → AllBelow m ns
below_from_each m [] some h = tt
below_from_each m (n ∷ ns) some h = (h 0, below_from_each m ns some (λ i. h (suc i)))

later-front : (bytes : List ℕ) (n : ℕ) (after : List ℕ) → group_at bytes ≡ Ok (n, after) → later_arcs bytes ≡ (one_arc n >>= λ arc. later_arcs after >>= λ arcs. Ok (arc ∷ arcs))
unfolding group_at
later-front [] n after e = absurd cc
later-front (b ∷ bytes) n after e = later-step b bytes ∙ ap (λ (z : Outcome (ℕ × List ℕ)). z >>= λ x. one_arc x.0 >>= λ arc. later_arcs x.1 >>= λ arcs. Ok (arc ∷ arcs)) e

pub later-again : (xs : List ℕ) → AllBelow 4294967296 xs → later_arcs (groups_bytes xs) ≡ Ok xs
unfolding later_arcs later_at
later-again [] fits = refl
later-again (x ∷ xs) fits =
    let t : ltb x 4294967296 ≡ true = lt-ltb _ _ fits.0 in
    let r = later-again xs fits.1 in
    later-front (group_bytes x ++ groups_bytes xs) x (groups_bytes xs) (group-again x (groups_bytes xs)) ∙ rw t (rw r refl)

-- ---- an identifier

two_tests : (p q : Bool) → (p && q) ≡ true → (p ≡ true) × (q ≡ true)
two_tests true q e = (refl, e)
two_tests false q e = absurd cc

either_test : (p q : Bool) → (p || q) ≡ true → (p ≡ true) ⊎ (q ≡ true)
either_test true q e = inl refl
either_test false q e = inr e

first-again : (a b : ℕ) → a < 3 → (a ≡ 2) ⊎ (b < 40) → b < 4294967296 → first_arcs (40 * a + b) ≡ Ok (a ∷ b ∷ [])
first-again zero b lt (inl e) fits = absurd (omega arith)
first-again zero b lt (inr h) fits = let t : ltb b 40 ≡ true = lt-ltb _ _ h in let z : 40 * 0 + b ≡ b = omega arith in rw z (rw t refl)
first-again (suc zero) b lt (inl e) fits = absurd (omega arith)
first-again (suc zero) b lt (inr h) fits =
    let t0 : ltb (40 * 1 + b) 40 ≡ false = le-ltb _ _ (omega arith) in
    let t1 : ltb (40 * 1 + b) 80 ≡ true = lt-ltb _ _ (omega arith) in
    let v : 40 * 1 + b - 40 ≡ b = omega arith in
    rw (t0, t1, v) refl
first-again (suc (suc a)) b lt h fits =
    let z : suc (suc a) ≡ 2 = omega arith in
    let t0 : ltb (40 * suc (suc a) + b) 40 ≡ false = le-ltb _ _ (omega arith) in
    let t1 : ltb (40 * suc (suc a) + b) 80 ≡ false = le-ltb _ _ (omega arith) in
    let t2 : ltb (40 * suc (suc a) + b) 4294967376 ≡ true = lt-ltb _ _ (omega arith) in
    let v : 40 * suc (suc a) + b - 80 ≡ b = omega arith in
    rw (t0, t1, t2, v) (ap (λ (k : ℕ). Ok (k ∷ b ∷ [])) (sym z))

pub arcs-again : (xs : List ℕ) → are_arcs xs ≡ true → AllBelow 4294967296 xs → arcs_of (arcs_bytes xs) ≡ Ok xs
unfolding arcs_of
arcs-again [] ok fits = absurd cc
arcs-again (a ∷ []) ok fits = absurd cc
arcs-again (a ∷ b ∷ more) ok fits =
    let p = two_tests (ltb a 3) (eqb a 2 || ltb b 40) ok in
    let low : a < 3 = ltb-true _ _ p.0 in
    let second : (a ≡ 2) ⊎ (b < 40) = elim (either_test (eqb a 2) (ltb b 40) p.1) [ inl e ↦ inl (eqb-true a 2 e) | inr e ↦ inr (ltb-true b 40 e) ] in
    let g = group-again (40 * a + b) (groups_bytes more) in
    let f = first-again a b low second fits.1.0 in
    let l = later-again more fits.1.1 in
    rw g (rw f (rw l refl))

-- what stands behind an identifier of arcs
pub oid_means : (xs out : List ℕ) → AllBelow 4294967296 xs → oid_of xs ≡ Ok out → (is_oid out ≡ true) × (arcs_of out ≡ Ok xs)
unfolding oid_of is_oid
oid_means xs out fits e =
    let p = passed (are_arcs xs) Oid (cond (ltb (length (arcs_bytes xs)) 40) (Ok (arcs_bytes xs)) (Err Oid)) out e in
    let q = passed (ltb (length (arcs_bytes xs)) 40) Oid (Ok (arcs_bytes xs)) out p.1 in
    let again = arcs-again xs p.0 fits in
    let short = q.0 in
    subst (λ (z : List ℕ). ((ltb (length z) 40 && is_ok (arcs_of z)) ≡ true) × (arcs_of z ≡ Ok xs)) (ok_is (arcs_bytes xs) out q.1) (rw (short, again) refl, again)
