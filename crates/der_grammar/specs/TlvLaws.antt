-- Proofs: what is read as a tag, a length and a value is encoded so, and what is encoded so is read.
use Rattle.std.proofs.Common.{◌≡◌, ◌⊎◌, ℕ, zero, suc, ◌+◌, ◌-◌, ◌*◌}
use Rattle.std.proofs.Common.{◌/◌, ◌%◌, ◌^◌, ◌<◌, ◌≤◌, Bool, true, false, cond}
use Rattle.std.proofs.Common.{ltb, eqb, List, [], ◌∷◌, ◌++◌, length, get_or, take, drop, Ok, Err, refl, sym, ap, subst}
use Rattle.std.proofs.Common.{◌∙◌, append_assoc, arith, inl, inr}
use Rattle.std.proofs.lemmas.Bool.{cases_lt, ltb-false, ltb-true, le-ltb, lt-ltb, eqb-false}
use Rattle.std.proofs.lemmas.Bool.Decides.{nat_tests}
use Rattle.std.proofs.lemmas.List.{take_at, drop_at, take-append-drop, length-append, length-take}
use Rattle.der_grammar.specs.declared.error.DerError.{DerError}
use Rattle.der_grammar.specs.declared.error.DerError.TheVariants.{Truncated, Length, Tag, TooLong}
use Rattle.der_grammar.specs.Outcome.{Outcome}
use Rattle.foundation.specs.Steps.{◌>>=◌}
use Rattle.der_grammar.specs.Tlv.{IsTag, IsBytes, IsTlv, length_bytes, tlv, at_least, number_of, length_at, value_at, tlv_at}

abbrev done : {A : Type 0} → A → Outcome A
done x = Ok x

pub ok_is : {A : Type 0} (x y : A) → done x ≡ done y → x ≡ y
ok_is x y e = cc

-- the value of a step that did not fail
pub bind_ok : {A B : Type 0} (r : Outcome A) (f : A → Outcome B) (y : B) → (r >>= f) ≡ Ok y → (x : A) × (r ≡ Ok x) × (f x ≡ Ok y)
bind_ok (Ok x) f y e = (x, refl, e)
bind_ok (Err d) f y e = absurd cc

-- a test that passed, and one that did not refuse
pub passed : {A : Type 0} (b : Bool) (d : DerError) (r : Outcome A) (y : A) → cond b r (Err d) ≡ Ok y → (b ≡ true) × (r ≡ Ok y)
passed true d r y e = (refl, e)
passed false d r y e = absurd cc

pub not_refused : {A : Type 0} (b : Bool) (d : DerError) (r : Outcome A) (y : A) → cond b (Err d) r ≡ Ok y → (b ≡ false) × (r ≡ Ok y)
not_refused true d r y e = absurd cc
not_refused false d r y e = (refl, e)

pub chosen : {A : Type 0} (b : Bool) (x y z : A) → cond b x y ≡ z → ((b ≡ true) × (x ≡ z)) ⊎ ((b ≡ false) × (y ≡ z))
chosen true x y z e = inl (refl, e)
chosen false x y z e = inr (refl, e)

-- ---- lists of bytes

pub IsBytes-drop : (n : ℕ) (bytes : List ℕ) → IsBytes bytes → IsBytes (drop n bytes)
IsBytes-drop zero bytes h = h
IsBytes-drop (suc n) [] h = tt
IsBytes-drop (suc n) (b ∷ bytes) h = IsBytes-drop n bytes h.1

pub IsBytes-take : (n : ℕ) (bytes : List ℕ) → IsBytes bytes → IsBytes (take n bytes)
IsBytes-take zero bytes h = tt
IsBytes-take (suc n) [] h = tt
IsBytes-take (suc n) (b ∷ bytes) h = (h.0, IsBytes-take n bytes h.1)

pub IsBytes-from_each : (bytes : List ℕ) → ((i : ℕ) → get_or bytes i 0 < 256) → IsBytes bytes
IsBytes-from_each [] h = tt
IsBytes-from_each (b ∷ bytes) h = (h 0, IsBytes-from_each bytes (λ i. h (suc i)))

-- ---- lengths

number_takes : (digits : List ℕ) (n : ℕ) → IsBytes digits → number_of digits ≡ Ok n
    → (length_bytes n ≡ (128 + length digits) ∷ digits) × (n < 2 ^ 32)
unfolding number_of length_bytes
number_takes [] n fits e = absurd cc
number_takes (a ∷ []) n fits e =
    let g = not_refused (ltb a 128) Length (Ok a) n e in
    let is : a ≡ n = ok_is a n g.1 in
    let t0 : ltb a 256 ≡ true = lt-ltb _ _ fits.0 in
    subst (λ (m : ℕ). (length_bytes m ≡ 129 ∷ a ∷ []) × (m < 2 ^ 32)) is (rw (g.0, t0) refl, omega (arith, fits.0))
number_takes (a ∷ b ∷ []) n fits e =
    let m : ℕ = 256 * a + b in
    let g = not_refused (ltb (256 * a + b) 256) Length (Ok (256 * a + b)) n e in
    let is : 256 * a + b ≡ n = ok_is (256 * a + b) n g.1 in
    let low : 256 ≤ 256 * a + b = ltb-false _ _ g.0 in
    let a-fits : a < 256 = fits.0 in
    let b-fits : b < 256 = fits.1.0 in
    let t0 : ltb (256 * a + b) 128 ≡ false = le-ltb _ _ (omega arith) in
    let t2 : ltb (256 * a + b) 65536 ≡ true = lt-ltb _ _ (omega arith) in
    let d0 : (256 * a + b) / 256 ≡ a = omega arith in
    let d1 : (256 * a + b) % 256 ≡ b = omega arith in
    subst (λ (m : ℕ). (length_bytes m ≡ 130 ∷ a ∷ b ∷ []) × (m < 2 ^ 32)) is (rw (t0, g.0, t2, d0, d1) refl, omega arith)
number_takes (a ∷ b ∷ c ∷ []) n fits e =
    let g = not_refused (ltb (256 * (256 * a + b) + c) 65536) Length (Ok (256 * (256 * a + b) + c)) n e in
    let is : 256 * (256 * a + b) + c ≡ n = ok_is (256 * (256 * a + b) + c) n g.1 in
    let low : 65536 ≤ 256 * (256 * a + b) + c = ltb-false _ _ g.0 in
    let a-fits : a < 256 = fits.0 in
    let b-fits : b < 256 = fits.1.0 in
    let c-fits : c < 256 = fits.1.1.0 in
    let t0 : ltb (256 * (256 * a + b) + c) 128 ≡ false = le-ltb _ _ (omega arith) in
    let t1 : ltb (256 * (256 * a + b) + c) 256 ≡ false = le-ltb _ _ (omega arith) in
    let t3 : ltb (256 * (256 * a + b) + c) 16777216 ≡ true = lt-ltb _ _ (omega arith) in
    let d0 : (256 * (256 * a + b) + c) / 65536 ≡ a = omega arith in
    let d1 : (256 * (256 * a + b) + c) / 256 % 256 ≡ b = omega arith in
    let d2 : (256 * (256 * a + b) + c) % 256 ≡ c = omega arith in
    subst (λ (m : ℕ). (length_bytes m ≡ 131 ∷ a ∷ b ∷ c ∷ []) × (m < 2 ^ 32)) is (rw (t0, t1, g.0, t3, d0, d1, d2) refl, omega arith)
number_takes (a ∷ b ∷ c ∷ d ∷ []) n fits e =
    let g = not_refused (ltb (256 * (256 * (256 * a + b) + c) + d) 16777216) Length (Ok (256 * (256 * (256 * a + b) + c) + d)) n e in
    let is : 256 * (256 * (256 * a + b) + c) + d ≡ n = ok_is (256 * (256 * (256 * a + b) + c) + d) n g.1 in
    let low : 16777216 ≤ 256 * (256 * (256 * a + b) + c) + d = ltb-false _ _ g.0 in
    let a-fits : a < 256 = fits.0 in
    let b-fits : b < 256 = fits.1.0 in
    let c-fits : c < 256 = fits.1.1.0 in
    let d-fits : d < 256 = fits.1.1.1.0 in
    let t0 : ltb (256 * (256 * (256 * a + b) + c) + d) 128 ≡ false = le-ltb _ _ (omega arith) in
    let t1 : ltb (256 * (256 * (256 * a + b) + c) + d) 256 ≡ false = le-ltb _ _ (omega arith) in
    let t2 : ltb (256 * (256 * (256 * a + b) + c) + d) 65536 ≡ false = le-ltb _ _ (omega arith) in
    let d0 : (256 * (256 * (256 * a + b) + c) + d) / 16777216 ≡ a = omega arith in
    let d1 : (256 * (256 * (256 * a + b) + c) + d) / 65536 % 256 ≡ b = omega arith in
    let d2 : (256 * (256 * (256 * a + b) + c) + d) / 256 % 256 ≡ c = omega arith in
    let d3 : (256 * (256 * (256 * a + b) + c) + d) % 256 ≡ d = omega arith in
    subst (λ (m : ℕ). (length_bytes m ≡ 132 ∷ a ∷ b ∷ c ∷ d ∷ []) × (m < 2 ^ 32)) is
    (rw (t0, t1, t2, g.0, d0, d1, d2, d3) refl, omega arith)
number_takes (a ∷ b ∷ c ∷ d ∷ x ∷ more) n fits e = absurd cc

-- what a reader took from the front
pub record Takes (bytes text rest : List ℕ) : Type 0 where
  pub parts : bytes ≡ text ++ rest
  pub rest_fits : IsBytes rest

pub length_takes : (bytes : List ℕ) (n : ℕ) (rest : List ℕ) → IsBytes bytes → length_at bytes ≡ Ok (n, rest)
    → Takes bytes (length_bytes n) rest
unfolding length_at length_bytes
length_takes [] n rest fits e = absurd cc
length_takes (b ∷ bytes) n rest fits e =
    elim (chosen (ltb b 128) _ _ _ e) [
      | inl p ↦
          let is : (b, bytes) ≡ (n, rest) = ok_is (b, bytes) (n, rest) p.1 in
          subst (λ (x : ℕ × List ℕ). Takes (b ∷ bytes) (length_bytes x.0) x.1) is (record { parts = rw p.0 refl; rest_fits = fits.1 })
      | inr p ↦
          let g =
          not_refused (ltb (length bytes) (b - 128)) Truncated
          (number_of (take (b - 128) bytes) >>= λ n. Ok (n, drop (b - 128) bytes)) (n, rest) p.1 in
          let m = bind_ok (number_of (take (b - 128) bytes)) (λ n. Ok (n, drop (b - 128) bytes)) (n, rest) g.1 in
          let t = number_takes (take (b - 128) bytes) m.0 (IsBytes-take (b - 128) bytes fits.1) m.1 in
          let high : 128 ≤ b = ltb-false _ _ p.0 in
          let long : b - 128 ≤ length bytes = ltb-false _ _ g.0 in
          let count : 128 + length (take (b - 128) bytes) ≡ b = omega (arith, length-take (b - 128) bytes) in
          let text : length_bytes m.0 ≡ b ∷ take (b - 128) bytes = t.0 ∙ ap (λ (k : ℕ). k ∷ take (b - 128) bytes) count in
          subst (λ (x : ℕ × List ℕ). Takes (b ∷ bytes) (length_bytes x.0) x.1) (ok_is (m.0, drop (b - 128) bytes) (n, rest) m.2)
          (record {
            parts = rw text (ap (λ (x : List ℕ). b ∷ x) (sym (take-append-drop (b - 128) bytes)));
            rest_fits = IsBytes-drop (b - 128) bytes fits.1;
          })
    ]

at_least_ok : (least n : ℕ) → least ≤ n → at_least least n ≡ Ok n
at_least_ok least n le = rw (le-ltb n least le) refl

at_least_is : (least m n : ℕ) → m ≡ n → least ≤ n → at_least least m ≡ Ok n
at_least_is least m n e le = subst (λ (k : ℕ). at_least least k ≡ Ok n) (sym e) (at_least_ok least n le)

long_again : (b : ℕ) (digits rest : List ℕ) (n : ℕ) → b ≡ 128 + length digits → number_of digits ≡ Ok n
    → length_at (b ∷ (digits ++ rest)) ≡ Ok (n, rest)
unfolding length_at
long_again b digits rest n count e =
    let t0 : ltb b 128 ≡ false = le-ltb _ _ (omega arith) in
    let k : length digits ≡ b - 128 = omega arith in
    let t1 : ltb (length (digits ++ rest)) (b - 128) ≡ false = le-ltb _ _ (omega (arith, length-append digits rest)) in
    rw (t0, t1, take_at digits rest (b - 128) k, drop_at digits rest (b - 128) k, e) refl

pub length_again : (n : ℕ) (rest : List ℕ) → n < 2 ^ 28 → length_at (length_bytes n ++ rest) ≡ Ok (n, rest)
unfolding length_at length_bytes number_of
length_again n rest lt =
    elim (cases_lt n 128) [
      | inl a ↦ let t : ltb n 128 ≡ true = lt-ltb _ _ a in rw t (rw t refl)
      | inr a ↦ let t0 : ltb n 128 ≡ false = le-ltb _ _ a in
          elim (cases_lt n 256) [
            | inl b ↦ let t1 : ltb n 256 ≡ true = lt-ltb _ _ b in rw (t0, t1) (long_again 129 (n ∷ []) rest n refl (at_least_ok 128 n a))
            | inr b ↦ let t1 : ltb n 256 ≡ false = le-ltb _ _ b in
                elim (cases_lt n 65536) [
                  | inl d ↦ let t2 : ltb n 65536 ≡ true = lt-ltb _ _ d in
                      rw (t0, t1, t2) (long_again 130 (n / 256 ∷ n % 256 ∷ []) rest n refl (at_least_is 256 _ n (omega arith) b))
                  | inr d ↦ let t2 : ltb n 65536 ≡ false = le-ltb _ _ d in
                      elim (cases_lt n 16777216) [
                        | inl h ↦ let t3 : ltb n 16777216 ≡ true = lt-ltb _ _ h in
                            rw (t0, t1, t2, t3) (long_again 131 (n / 65536 ∷ n / 256 % 256 ∷ n % 256 ∷ []) rest n refl
                            (at_least_is 65536 _ n (omega arith) d))
                        | inr h ↦ let t3 : ltb n 16777216 ≡ false = le-ltb _ _ h in
                            rw (t0, t1, t2, t3) (long_again 132
                            (n / 16777216 ∷ n / 65536 % 256 ∷ n / 256 % 256 ∷ n % 256 ∷ []) rest n refl
                            (at_least_is 16777216 _ n (omega arith) h))
                      ]
                ]
          ]
    ]

pub tlv_takes : (bytes : List ℕ) (tag : ℕ) (value rest : List ℕ) → IsBytes bytes → tlv_at bytes ≡ Ok (tag, value, rest)
    → IsTlv bytes tag value rest
unfolding tlv_at value_at tlv
tlv_takes [] tag value rest fits e = absurd cc
tlv_takes (t ∷ bytes) tag value rest fits e =
    let g = not_refused (eqb (t % 32) 31) Tag (length_at bytes >>= value_at t) (tag, value, rest) e in
    let m = bind_ok (length_at bytes) (value_at t) (tag, value, rest) g.1 in
    let n = m.0 in
    let l = length_takes bytes n.0 n.1 fits.1 m.1 in
    let p =
    passed (ltb n.0 268435456) TooLong
    (cond (ltb (length n.1) n.0) (Err Truncated) (Ok (t, take n.0 n.1, drop n.0 n.1))) (tag, value, rest) m.2 in
    let q = not_refused (ltb (length n.1) n.0) Truncated (Ok (t, take n.0 n.1, drop n.0 n.1)) (tag, value, rest) p.1 in
    let long : n.0 ≤ length n.1 = ltb-false _ _ q.0 in
    let len : length (take n.0 n.1) ≡ n.0 = omega (arith, length-take n.0 n.1) in
    let parts : t ∷ bytes ≡ tlv t (take n.0 n.1) ++ drop n.0 n.1 =
    ap (λ (x : List ℕ). t ∷ x) (l.parts ∙ ap (λ (x : List ℕ). length_bytes n.0 ++ x) (sym (take-append-drop n.0 n.1))
    ∙ sym (append_assoc (length_bytes n.0) (take n.0 n.1) (drop n.0 n.1))
    ∙ ap (λ (k : ℕ). (length_bytes k ++ take n.0 n.1) ++ drop n.0 n.1) (sym len)) in
    subst (λ (x : ℕ × List ℕ × List ℕ). IsTlv (t ∷ bytes) x.0 x.1 x.2) (ok_is (t, take n.0 n.1, drop n.0 n.1) (tag, value, rest) q.1)
    (record {
      whole = parts;
      tagged = (fits.0, eqb-false _ _ g.0);
      fits = omega (arith, len, ltb-true _ _ p.0);
      value_bytes = IsBytes-take n.0 n.1 l.rest_fits;
      rest_bytes = IsBytes-drop n.0 n.1 l.rest_fits;
    })

pub tlv_again : (tag : ℕ) (value rest : List ℕ) → IsTag tag → length value < 268435456
    → tlv_at (tlv tag value ++ rest) ≡ Ok (tag, value, rest)
unfolding tlv_at value_at tlv
tlv_again tag value rest tagged fits =
    let t0 : eqb (tag % 32) 31 ≡ false = grind (arith, nat_tests) in
    let t1 : ltb (length value) 268435456 ≡ true = lt-ltb _ _ fits in
    let t2 : ltb (length (value ++ rest)) (length value) ≡ false = le-ltb _ _ (omega (arith, length-append value rest)) in
    rw (
      append_assoc (length_bytes (length value)) value rest,
      t0,
      length_again (length value) (value ++ rest) fits,
      t1,
      t2,
      take_at value rest (length value) refl,
      drop_at value rest (length value) refl,
    ) refl

-- a part that is as long as all but the rest is all but the rest
pub front_is : (bytes front back text rest : List ℕ) → bytes ≡ text ++ rest → front ≡ take (length bytes - length rest) bytes → front ≡ text
front_is bytes front back text rest e f =
    let k : length text ≡ length bytes - length rest = omega (arith, ap length e, length-append text rest) in
    f ∙ ap (take (length bytes - length rest)) e ∙ take_at text rest (length bytes - length rest) k
