-- Proofs: the laws of values one after the other.
use Rattle.std.proofs.Common.{◌≡◌, ◌⊎◌, ℕ, zero, suc, ◌-◌, ◌%◌, ◌<◌, ◌≤◌, true, false, cond, ltb, eqb, List, [], ◌∷◌}
use Rattle.std.proofs.Common.{◌++◌, length, take, drop, Ok, Err, refl, sym, ap, subst, ◌∙◌, arith, inl, inr}
use Rattle.std.proofs.lemmas.List.{length-append, append-nil, length-drop}
use Rattle.der_grammar.specs.declared.error.DerError.TheVariants.{Truncated, Tag, TooLong}
use Rattle.der_grammar.specs.Outcome.{Outcome}
use Rattle.foundation.specs.Steps.{◌>>=◌}
use Rattle.der_grammar.specs.Tlv.{IsBytes, tlv_at, length_at, value_at, number_of}
use Rattle.der_grammar.specs.Grammar.{Grammar, read, read_body, write, Encodes, begins}
use Rattle.der_grammar.specs.Law.{WritesAs, IsLawful, IsTaken, AreLawful}
use Rattle.der_grammar.specs.TlvLaws.{ok_is, bind_ok, passed, not_refused, chosen}
use Rattle.der_grammar.specs.Laws.{one-found, one-only, one-written, one-writes, one-front, one-same, begins-append, sequence-lawful}
use Rattle.der_grammar.specs.Many.{EachEncoded, many_at, many_of, write_each, many, sequence_of}

-- ---- reading takes at least a byte

length-shrinks : (bytes : List ℕ) (n : ℕ) (rest : List ℕ) → length_at bytes ≡ Ok (n, rest) → length rest ≤ length bytes
unfolding length_at
length-shrinks [] n rest e = absurd cc
length-shrinks (b ∷ bytes) n rest e =
    elim (chosen (ltb b 128) _ _ _ e) [
      | inl p ↦ let is : bytes ≡ rest = ap (λ (x : ℕ × List ℕ). x.1) (ok_is (b, bytes) (n, rest) p.1) in omega (arith, ap length is)
      | inr p ↦
          let g =
          not_refused (ltb (length bytes) (b - 128)) Truncated
          (number_of (take (b - 128) bytes) >>= λ n. Ok (n, drop (b - 128) bytes)) (n, rest) p.1 in
          let m = bind_ok (number_of (take (b - 128) bytes)) (λ n. Ok (n, drop (b - 128) bytes)) (n, rest) g.1 in
          let is : drop (b - 128) bytes ≡ rest = ap (λ (x : ℕ × List ℕ). x.1) (ok_is (m.0, drop (b - 128) bytes) (n, rest) m.2) in
          omega (arith, ap length is, length-drop (b - 128) bytes)
    ]

tlv-shrinks : (bytes : List ℕ) (t : ℕ) (v rest : List ℕ) → tlv_at bytes ≡ Ok (t, v, rest) → length rest < length bytes
unfolding tlv_at value_at
tlv-shrinks [] t v rest e = absurd cc
tlv-shrinks (b ∷ bytes) t v rest e =
    let g = not_refused (eqb (b % 32) 31) Tag (length_at bytes >>= value_at b) (t, v, rest) e in
    let m = bind_ok (length_at bytes) (value_at b) (t, v, rest) g.1 in
    let n = m.0 in
    let p =
    passed (ltb n.0 268435456) TooLong
    (cond (ltb (length n.1) n.0) (Err Truncated) (Ok (b, take n.0 n.1, drop n.0 n.1))) (t, v, rest) m.2 in
    let q = not_refused (ltb (length n.1) n.0) Truncated (Ok (b, take n.0 n.1, drop n.0 n.1)) (t, v, rest) p.1 in
    let is : drop n.0 n.1 ≡ rest = ap (λ (x : ℕ × List ℕ × List ℕ). x.2) (ok_is (b, take n.0 n.1, drop n.0 n.1) (t, v, rest) q.1) in
    omega (arith, ap length is, length-drop n.0 n.1, length-shrinks bytes n.0 n.1 m.1)

pub read-shrinks : {A : Type 0} (g : Grammar A) (bytes : List ℕ) (a : A) (rest : List ℕ) → read g bytes ≡ Ok (a, rest)
    → length rest < length bytes
unfolding read
read-shrinks {A} g bytes a rest e =
    let m = bind_ok (tlv_at bytes) (read_body g) (a, rest) e in
    let t = m.0 in
    let p = passed (g.accepts t.0) Tag (g.value t.0 t.1 >>= λ a. Ok (a, t.2)) (a, rest) m.2 in
    let v = bind_ok (g.value t.0 t.1) (λ a. Ok (a, t.2)) (a, rest) p.1 in
    let is : t.2 ≡ rest = ap (λ (x : A × List ℕ). x.1) (ok_is (v.0, t.2) (a, rest) v.2) in
    omega (arith, ap length is, tlv-shrinks bytes t.0 t.1 t.2 m.1)

-- ---- the bound on the number of members doesn't matter

pub two_ways : {A B : Type 0} (r : Outcome A) (f h : A → Outcome B) → ((x : A) → r ≡ Ok x → f x ≡ h x) → (r >>= f) ≡ (r >>= h)
two_ways (Ok x) f h same = same x refl
two_ways (Err e) f h same = refl

many-more : {A : Type 0} (g : Grammar A) (n m : ℕ) (bytes : List ℕ) → length bytes ≤ n → length bytes ≤ m
    → many_at n g bytes ≡ many_at m g bytes
unfolding many_at
many-more g n m [] p q = refl
many-more g zero m (b ∷ bytes) p q = absurd (omega arith)
many-more g (suc n) zero (b ∷ bytes) p q = absurd (omega arith)
many-more {A} g (suc n) (suc m) (b ∷ bytes) p q =
    two_ways (read g (b ∷ bytes)) (λ x. many_at n g x.1 >>= λ xs. Ok (x.0 ∷ xs)) (λ x. many_at m g x.1 >>= λ xs. Ok (x.0 ∷ xs))
    (λ x e. let lt = read-shrinks g (b ∷ bytes) x.0 x.1 e in
    ap (λ (r : Outcome (List A)). r >>= λ xs. Ok (x.0 ∷ xs)) (many-more g n m x.1 (omega arith) (omega arith)))

-- one member, and the others
pub many-step : {A : Type 0} (g : Grammar A) (b : ℕ) (bytes : List ℕ)
    → many_of g (b ∷ bytes) ≡ (read g (b ∷ bytes) >>= λ x. many_of g x.1 >>= λ xs. Ok (x.0 ∷ xs))
unfolding many_of many_at
many-step {A} g b bytes =
    two_ways (read g (b ∷ bytes)) (λ x. many_at (length bytes) g x.1 >>= λ xs. Ok (x.0 ∷ xs))
    (λ x. many_at (length x.1) g x.1 >>= λ xs. Ok (x.0 ∷ xs))
    (λ x e. let lt = read-shrinks g (b ∷ bytes) x.0 x.1 e in
    ap (λ (r : Outcome (List A)). r >>= λ xs. Ok (x.0 ∷ xs)) (many-more g (length bytes) (length x.1) x.1 (omega arith) (omega arith)))

-- ---- the laws

many_at-found : {A : Type 0} (g : Grammar A) (lawful : IsLawful g) (n : ℕ) (bytes : List ℕ) (xs : List A)
    → IsBytes bytes → many_at n g bytes ≡ Ok xs → EachEncoded g xs bytes
unfolding many_at
many_at-found g lawful n [] xs fits e = subst (λ z. EachEncoded g z []) (ok_is [] xs e) refl
many_at-found g lawful zero (b ∷ bytes) xs fits e = absurd cc
many_at-found g lawful (suc n) (b ∷ bytes) xs fits e =
    let m = bind_ok (read g (b ∷ bytes)) (λ x. many_at n g x.1 >>= λ xs. Ok (x.0 ∷ xs)) xs e in
    let k = bind_ok (many_at n g m.0.1) (λ xs. Ok (m.0.0 ∷ xs)) xs m.2 in
    let t = one-found g lawful (b ∷ bytes) m.0.0 m.0.1 fits m.1 in
    let others = many_at-found g lawful n m.0.1 k.0 t.rest_bytes k.1 in
    subst (λ z. EachEncoded g z (b ∷ bytes)) (ok_is (m.0.0 ∷ k.0) xs k.2)
    (record { front = t.text; back = m.0.1; whole = t.whole; first = t.encoded; others = others })

pub many-found : {A : Type 0} (g : Grammar A) (lawful : IsLawful g) (bytes : List ℕ) (xs : List A) → IsBytes bytes
    → many_of g bytes ≡ Ok xs → EachEncoded g xs bytes
unfolding many_of
many-found g lawful bytes xs fits e = many_at-found g lawful (length bytes) bytes xs fits e

from_front : {A : Type 0} (g : Grammar A) (lawful : IsLawful g) (x : A) (xs : List A) (front back text : List ℕ)
    → text ≡ front ++ back → Encodes g x front → many_of g back ≡ Ok xs → many_of g text ≡ Ok (x ∷ xs)
from_front g lawful x xs [] back text e p o = absurd (let h = one-front g lawful x [] p in cc)
from_front {A} g lawful x xs (b ∷ front) back text e p o =
    let r = one-only g lawful x (b ∷ front) back p in
    ap (many_of g) e ∙ many-step g b (front ++ back)
    ∙ ap (λ (z : Outcome (A × List ℕ)). z >>= λ x. many_of g x.1 >>= λ xs. Ok (x.0 ∷ xs)) r
    ∙ ap (λ (z : Outcome (List A)). z >>= λ xs. Ok (x ∷ xs)) o

pub many-only : {A : Type 0} (g : Grammar A) (lawful : IsLawful g) (xs : List A) (text : List ℕ) → EachEncoded g xs text
    → many_of g text ≡ Ok xs
unfolding many_of many_at
many-only g lawful [] text s = rw s refl
many-only g lawful (x ∷ xs) text s = from_front g lawful x xs s.front s.back text s.whole s.first (many-only g lawful xs s.back s.others)

pub each-written : {A : Type 0} (g : Grammar A) (lawful : IsLawful g) (xs : List A) (text : List ℕ)
    → write_each g xs ≡ Ok text → EachEncoded g xs text
unfolding write_each
each-written g lawful [] text e = sym (ok_is [] text e)
each-written g lawful (x ∷ xs) text e =
    let m = bind_ok (write g x) (λ a. write_each g xs >>= λ b. Ok (a ++ b)) text e in
    let n = bind_ok (write_each g xs) (λ b. Ok (m.0 ++ b)) text m.2 in
    record {
      front = m.0;
      back = n.0;
      whole = sym (ok_is (m.0 ++ n.0) text n.2);
      first = one-written g lawful x m.0 m.1;
      others = each-written g lawful xs n.0 n.1;
    }

pub each-writes : {A : Type 0} (g : Grammar A) (lawful : IsLawful g) (xs : List A) (text : List ℕ)
    → EachEncoded g xs text → WritesAs (write_each g xs) text
unfolding write_each
each-writes g lawful [] text s = ([], refl, ap length (sym s))
each-writes g lawful (x ∷ xs) text s =
    let a = one-writes g lawful x s.front s.first in
    let b = each-writes g lawful xs s.back s.others in
    let ea = a.1 in
    let eb = b.1 in
    (a.0 ++ b.0, rw (ea, eb) refl, omega (arith, length-append a.0 b.0, length-append s.front s.back, ap length s.whole, a.2, b.2))

each-same : {A : Type 0} (g : Grammar A) (lawful : IsLawful g) (xs : List A) (text : List ℕ) → g.plain ≡ true
    → EachEncoded g xs text → write_each g xs ≡ Ok text
unfolding write_each
each-same g lawful [] text p s = ap (λ (z : List ℕ). Ok z) (sym s)
each-same g lawful (x ∷ xs) text p s =
    let ea = one-same g lawful x s.front p s.first in
    let eb = each-same g lawful xs s.back p s.others in
    rw (ea, eb, s.whole) refl

each-front : {A : Type 0} (g : Grammar A) (lawful : IsLawful g) (xs : List A) (text : List ℕ) → EachEncoded g xs text
    → ((text ≡ []) × (true ≡ true)) ⊎ (begins g.accepts text ≡ true)
each-front g lawful [] text s = inl (s, refl)
each-front g lawful (x ∷ xs) text s = inr (rw s.whole (begins-append g.accepts s.front s.back (one-front g lawful x s.front s.first)))

nothing_follows : (rest : List ℕ) → begins (λ t. true) rest ≡ false → rest ≡ []
nothing_follows [] h = refl
nothing_follows (t ∷ rest) h = absurd cc

pub many-lawful : {A : Type 0} (g : Grammar A) → IsLawful g → AreLawful (many g)
many-lawful {A} g lawful = record {
  found = λ bytes xs rest fits e.
      let m = bind_ok (many_of g bytes) (λ xs. Ok (xs, [])) (xs, rest) e in
      subst (λ (z : List A × List ℕ). IsTaken (many g) bytes z.0 z.1) (ok_is (m.0, []) (xs, rest) m.2)
      (record { text = bytes; whole = sym (append-nil bytes); encoded = many-found g lawful bytes m.0 fits m.1; rest_bytes = tt });
  only = λ xs text rest s h.
      let e : rest ≡ [] = nothing_follows rest h in
      let o = many-only g lawful xs text s in
      rw (e, append-nil text, o) refl;
  written = each-written g lawful;
  writes = each-writes g lawful;
  same = each-same g lawful;
  front = each-front g lawful;
}

pub sequence_of-lawful : {A : Type 0} (g : Grammar A) → IsLawful g → IsLawful (sequence_of g)
sequence_of-lawful g lawful = sequence-lawful 48 (many g) (omega arith, omega arith) (many-lawful g lawful)
