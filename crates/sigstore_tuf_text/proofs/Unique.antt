-- The canonical text tells a value from every other.
use Rattle.std.proofs.Common.{◌≡◌, ℕ, suc, ◌<◌, ◌≤◌, ◌^◌, ◌==◌, ◌||◌, ◌⊎◌, inl, inr, pos, negsuc, Bool, true, false, cond, List, [], ◌∷◌, ◌++◌, nat_lt, length, refl, sym, ap, ◌∙◌, arith, append_assoc, decimal, true≢false, eq-eqb, ap₂}
use Rattle.std.specs.Prelude.{⊤}
use Rattle.std.specs.List.{flat_map}
use Rattle.std.proofs.lemmas.Fmt.{decimal_by_steps, decimal_injective, decimal_nonempty}
use Rattle.std.proofs.lemmas.Bool.Decides.{nat_tests}
use Rattle.serde_json.specs.Data.{unsigned, negative, float, Data, null, boolean, number, string, array, object, Items, no_items, item, Members, no_members, member}
use Rattle.sigstore_tuf_text.specs.Canon.{escaped_byte, quoted, canon, canon_items, canon_members}
use Rattle.sigstore_tuf_text.specs.Exact.{IsExact, AreExact, HasExact}

-- ---- lists by their first element

heads : {x y : ℕ} {xs ys : List ℕ} → x ∷ xs ≡ y ∷ ys → x ≡ y
heads e = cc

tails : {x y : ℕ} {xs ys : List ℕ} → x ∷ xs ≡ y ∷ ys → xs ≡ ys
tails e = cc

-- ---- digits

abbrev IsDigit : ℕ → Type 0
IsDigit x = (48 ≤ x) × (x ≤ 57)

abbrev AllDigits : List ℕ → Type 0
AllDigits [] = ⊤
AllDigits (x ∷ xs) = IsDigit x × AllDigits xs

-- no digit comes next
abbrev Ends : List ℕ → Type 0
Ends [] = ⊤
Ends (x ∷ xs) = (x ≡ 44) ⊎ (57 < x)

AllDigits-append : (xs ys : List ℕ) → AllDigits xs → AllDigits ys → AllDigits (xs ++ ys)
AllDigits-append [] ys p q = q
AllDigits-append (x ∷ xs) ys p q = (p.0, AllDigits-append xs ys p.1 q)

digits_of_decimal : (n : ℕ) → n < 2 ^ 64 → AllDigits (decimal n)
digits_of_decimal =
    decimal_by_steps (λ _ ds. AllDigits ds) (λ n h. ((omega arith, omega arith), tt))
    (λ n ds h p. AllDigits-append ds _ p ((omega arith, omega arith), tt))

not_digit : (x y : ℕ) → IsDigit x → (y ≡ 44) ⊎ (57 < y) → x ≡ y → ⊥
not_digit x y d (inl e) s = absurd (omega arith)
not_digit x y d (inr e) s = absurd (omega arith)

digits_end : (xs ys r s : List ℕ) → AllDigits xs → AllDigits ys → Ends r → Ends s → xs ++ r ≡ ys ++ s → (xs ≡ ys) × (r ≡ s)
digits_end [] [] r s p q er es e = (refl, e)
digits_end [] (y ∷ ys) [] s p q er es e = cc
digits_end [] (y ∷ ys) (x ∷ r) s p q er es e = absurd (not_digit y x q.0 er (sym (heads e)))
digits_end (x ∷ xs) [] r [] p q er es e = cc
digits_end (x ∷ xs) [] r (y ∷ s) p q er es e = absurd (not_digit x y p.0 es (heads e))
digits_end (x ∷ xs) (y ∷ ys) r s p q er es e =
    let later = digits_end xs ys r s p.1 q.1 er es (tails e) in
    let h : x ≡ y = heads e in
    (rw (h, later.0), later.1)

-- ---- texts

abbrev special : ℕ → Bool
special x = (x == 34) || (x == 92)

abbrev shown : Bool → ℕ → List ℕ
shown b x = cond b (92 ∷ x ∷ []) (x ∷ [])

not_special : (x y : ℕ) → special x ≡ true → x ≡ y → special y ≡ false → ⊥
not_special x y p e q = true≢false (sym p ∙ ap special e ∙ q)

one_step : (b c : Bool) (x y : ℕ) (k l : List ℕ) → special x ≡ b → special y ≡ c → shown b x ++ k ≡ shown c y ++ l → (x ≡ y) × (k ≡ l)
one_step true true x y k l p q e = (heads (tails e), tails (tails e))
one_step false false x y k l p q e = (heads e, tails e)
one_step true false x y k l p q e = absurd (not_special 92 y refl (heads e) q)
one_step false true x y k l p q e = absurd (not_special 92 x refl (sym (heads e)) p)

not_same : (x y : ℕ) → (x == y) ≡ false → x ≡ y → ⊥
not_same x y p e = true≢false (sym (eq-eqb x y e) ∙ p)

no_step : (b : Bool) (y : ℕ) (r l : List ℕ) → special y ≡ b → 34 ∷ r ≡ shown b y ++ l → ⊥
no_step true y r l q e = not_same 34 92 refl (heads e)
no_step false y r l q e = not_special 34 y refl (heads e) q

texts_end : (k l r s : List ℕ) → flat_map escaped_byte k ++ 34 ∷ r ≡ flat_map escaped_byte l ++ 34 ∷ s → (k ≡ l) × (r ≡ s)
texts_end [] [] r s e = (refl, tails e)
texts_end [] (y ∷ l) r s e = absurd (no_step (special y) y r _ refl (e ∙ append_assoc (escaped_byte y) (flat_map escaped_byte l) (34 ∷ s)))
texts_end (x ∷ k) [] r s e = absurd (no_step (special x) x s _ refl (sym e ∙ append_assoc (escaped_byte x) (flat_map escaped_byte k) (34 ∷ r)))
texts_end (x ∷ k) (y ∷ l) r s e =
    let now = one_step (special x) (special y) x y _ _ refl refl
    (sym (append_assoc (escaped_byte x) (flat_map escaped_byte k) (34 ∷ r)) ∙ e ∙ append_assoc (escaped_byte y) (flat_map escaped_byte l) (34 ∷ s)) in
    let later = texts_end k l r s now.1 in
    (rw (now.0, later.0), later.1)

quoted_end : (k l r s : List ℕ) → quoted k ++ r ≡ quoted l ++ s → (k ≡ l) × (r ≡ s)
quoted_end k l r s e =
    texts_end k l r s (sym (append_assoc (flat_map escaped_byte k) (34 ∷ []) r) ∙ tails e ∙ append_assoc (flat_map escaped_byte l) (34 ∷ []) s)

-- ---- values, by their first byte

abbrev shape_of_byte : ℕ → ℕ
shape_of_byte x =
    cond (x == 110) 0 (cond (x == 116) 1 (cond (x == 102) 1 (cond (x == 34) 3 (cond (x == 91) 4 (cond (x == 123) 5 (cond (x == 45) 6 (cond (nat_lt x 48) 8 (cond (nat_lt 57 x) 8 7))))))))

abbrev shape : Data → ℕ
shape null = 0
shape (boolean b) = 1
shape (string s) = 3
shape (array ds) = 4
shape (object ms) = 5
shape (number (unsigned n)) = 7
shape (number (negative z)) = 6
shape (number (float x)) = 9

abbrev first : List ℕ → ℕ
first [] = 0
first (x ∷ xs) = x

shape_of_digit : (x : ℕ) → IsDigit x → shape_of_byte x ≡ 7
shape_of_digit x d = grind (arith, nat_tests)

digit_first : (xs r : List ℕ) → AllDigits xs → 0 < length xs → shape_of_byte (first (xs ++ r)) ≡ 7
digit_first [] r p h = absurd (omega arith)
digit_first (x ∷ xs) r p h = shape_of_digit x p.0

first_shape : (d : Data) (r : List ℕ) → IsExact d → shape_of_byte (first (canon d ++ r)) ≡ shape d
first_shape null r p = refl
first_shape (boolean true) r p = refl
first_shape (boolean false) r p = refl
first_shape (string s) r p = refl
first_shape (array ds) r p = refl
first_shape (object ms) r p = refl
first_shape (number (unsigned n)) r p = digit_first (decimal n) r (digits_of_decimal n p) (decimal_nonempty n p)
first_shape (number (negative (pos n))) r p = absurd p
first_shape (number (negative (negsuc n))) r p = refl
first_shape (number (float x)) r p = absurd p

same_shape : (d e : Data) (r s : List ℕ) → IsExact d → IsExact e → canon d ++ r ≡ canon e ++ s → shape d ≡ shape e
same_shape d e r s p q h = sym (first_shape d r p) ∙ ap (λ l. shape_of_byte (first l)) h ∙ first_shape e s q

other_shape : (d : Data) → IsExact d → shape d ≡ 8 → ⊥
other_shape null p e = omega arith
other_shape (boolean b) p e = omega arith
other_shape (string s) p e = omega arith
other_shape (array ds) p e = omega arith
other_shape (object ms) p e = omega arith
other_shape (number (unsigned n)) p e = omega arith
other_shape (number (negative z)) p e = omega arith
other_shape (number (float x)) p e = omega arith

no_bracket : (d : Data) (r s : List ℕ) (x : ℕ) → IsExact d → shape_of_byte x ≡ 8 → x ∷ s ≡ canon d ++ r → ⊥
no_bracket d r s x p b h = other_shape d p (sym (first_shape d r p) ∙ sym (ap (λ l. shape_of_byte (first l)) h) ∙ b)

-- what follows in a list, or closes it, is no digit
items_go_on : (ds : Items) (r : List ℕ) → Ends (canon_items true ds ++ r)
items_go_on no_items r = inr (omega arith)
items_go_on (item d ds) r = inl refl

members_go_on : (ms : Members) (r : List ℕ) → Ends (canon_members true ms ++ r)
members_go_on no_members r = inr (omega arith)
members_go_on (member k d ms) r = inl refl

one_less : (m n : ℕ) → suc m ≡ suc n → m ≡ n
one_less m n e = omega arith

mutual
  same_value : (d e : Data) (r s : List ℕ) → IsExact d → IsExact e → Ends r → Ends s → canon d ++ r ≡ canon e ++ s → (d ≡ e) × (r ≡ s)
  same_value null null r s p q er es h = (refl, tails (tails (tails (tails h))))
  same_value (boolean true) (boolean true) r s p q er es h = (refl, tails (tails (tails (tails h))))
  same_value (boolean false) (boolean false) r s p q er es h = (refl, tails (tails (tails (tails (tails h)))))
  same_value (boolean true) (boolean false) r s p q er es h = absurd (not_same 116 102 refl (heads h))
  same_value (boolean false) (boolean true) r s p q er es h = absurd (not_same 102 116 refl (heads h))
  same_value (string k) (string l) r s p q er es h = let t = quoted_end k l r s h in (ap string t.0, t.1)
  same_value (number (unsigned m)) (number (unsigned n)) r s p q er es h =
      let t = digits_end (decimal m) (decimal n) r s (digits_of_decimal m p) (digits_of_decimal n q) er es h in
      (ap (λ k. number (unsigned k)) (decimal_injective m n p q t.0), t.1)
  same_value (number (negative (negsuc m))) (number (negative (negsuc n))) r s p q er es h =
      let pm : suc m < 2 ^ 64 = omega arith in
      let qn : suc n < 2 ^ 64 = omega arith in
      let t = digits_end (decimal (suc m)) (decimal (suc n)) r s (digits_of_decimal (suc m) pm) (digits_of_decimal (suc n) qn) er es (tails h) in
      (ap (λ k. number (negative (negsuc k))) (one_less m n (decimal_injective (suc m) (suc n) pm qn t.0)), t.1)
  same_value (array ds) (array ts) r s p q er es h = let t = same_items false ds ts r s p q (tails h) in (ap array t.0, t.1)
  same_value (object ms) (object ns) r s p q er es h = let t = same_members false ms ns r s p q (tails h) in (ap object t.0, t.1)
  same_value (number (float x)) e r s p q er es h = absurd p
  same_value (number (negative (pos m))) e r s p q er es h = absurd p
  same_value d (number (float x)) r s p q er es h = absurd q
  same_value d (number (negative (pos m))) r s p q er es h = absurd q
  same_value d e r s p q er es h = absurd (not_same (shape d) (shape e) refl (same_shape d e r s p q h))

  same_items : (later : Bool) (ds ts : Items) (r s : List ℕ) → AreExact ds → AreExact ts → canon_items later ds ++ r ≡ canon_items later ts ++ s → (ds ≡ ts) × (r ≡ s)
  same_items later no_items no_items r s p q h = (refl, tails h)
  same_items true no_items (item e ts) r s p q h = absurd (not_same 93 44 refl (heads h))
  same_items true (item d ds) no_items r s p q h = absurd (not_same 44 93 refl (heads h))
  same_items false no_items (item e ts) r s p q h = absurd (no_bracket e (canon_items true ts ++ s) r 93 q.0 refl (h ∙ append_assoc (canon e) (canon_items true ts) s))
  same_items false (item d ds) no_items r s p q h = absurd (no_bracket d (canon_items true ds ++ r) s 93 p.0 refl (sym h ∙ append_assoc (canon d) (canon_items true ds) r))
  same_items true (item d ds) (item e ts) r s p q h =
      let t = same_value d e (canon_items true ds ++ r) (canon_items true ts ++ s) p.0 q.0 (items_go_on ds r) (items_go_on ts s)
      (sym (append_assoc (canon d) (canon_items true ds) r) ∙ tails h ∙ append_assoc (canon e) (canon_items true ts) s) in
      let u = same_items true ds ts r s p.1 q.1 t.1 in
      (ap₂ item t.0 u.0, u.1)
  same_items false (item d ds) (item e ts) r s p q h =
      let t = same_value d e (canon_items true ds ++ r) (canon_items true ts ++ s) p.0 q.0 (items_go_on ds r) (items_go_on ts s)
      (sym (append_assoc (canon d) (canon_items true ds) r) ∙ h ∙ append_assoc (canon e) (canon_items true ts) s) in
      let u = same_items true ds ts r s p.1 q.1 t.1 in
      (ap₂ item t.0 u.0, u.1)

  same_members : (later : Bool) (ms ns : Members) (r s : List ℕ) → HasExact ms → HasExact ns → canon_members later ms ++ r ≡ canon_members later ns ++ s → (ms ≡ ns) × (r ≡ s)
  same_members later no_members no_members r s p q h = (refl, tails h)
  same_members true no_members (member l e ns) r s p q h = absurd (not_same 125 44 refl (heads h))
  same_members true (member k d ms) no_members r s p q h = absurd (not_same 44 125 refl (heads h))
  same_members false no_members (member l e ns) r s p q h = absurd (not_same 125 34 refl (heads h))
  same_members false (member k d ms) no_members r s p q h = absurd (not_same 34 125 refl (heads h))
  same_members true (member k d ms) (member l e ns) r s p q h =
      let n = quoted_end k l ((58 ∷ (canon d ++ canon_members true ms)) ++ r) ((58 ∷ (canon e ++ canon_members true ns)) ++ s)
      (sym (append_assoc (quoted k) (58 ∷ (canon d ++ canon_members true ms)) r) ∙ tails h ∙ append_assoc (quoted l) (58 ∷ (canon e ++ canon_members true ns)) s) in
      let t = same_value d e (canon_members true ms ++ r) (canon_members true ns ++ s) p.0 q.0 (members_go_on ms r) (members_go_on ns s)
      (sym (append_assoc (canon d) (canon_members true ms) r) ∙ tails n.1 ∙ append_assoc (canon e) (canon_members true ns) s) in
      let u = same_members true ms ns r s p.1 q.1 t.1 in
      (rw (n.0, t.0, u.0), u.1)
  same_members false (member k d ms) (member l e ns) r s p q h =
      let n = quoted_end k l ((58 ∷ (canon d ++ canon_members true ms)) ++ r) ((58 ∷ (canon e ++ canon_members true ns)) ++ s)
      (sym (append_assoc (quoted k) (58 ∷ (canon d ++ canon_members true ms)) r) ∙ h ∙ append_assoc (quoted l) (58 ∷ (canon e ++ canon_members true ns)) s) in
      let t = same_value d e (canon_members true ms ++ r) (canon_members true ns ++ s) p.0 q.0 (members_go_on ms r) (members_go_on ns s)
      (sym (append_assoc (canon d) (canon_members true ms) r) ∙ tails n.1 ∙ append_assoc (canon e) (canon_members true ns) s) in
      let u = same_members true ms ns r s p.1 q.1 t.1 in
      (rw (n.0, t.0, u.0), u.1)

-- equal canonical texts are of equal values
pub canon_injective : (d e : Data) → IsExact d → IsExact e → canon d ≡ canon e → d ≡ e
canon_injective d e p q h = (same_value d e [] [] p q tt tt (ap (λ l. l ++ []) h)).0
