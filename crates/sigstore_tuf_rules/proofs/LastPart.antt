-- Where a text is split at its last character of one kind.
use Rattle.std.proofs.Common.{◌≡◌, ◌⊎◌, inl, inr, ℕ, zero, suc, ◌+◌, ◌-◌, ◌<◌, ◌≤◌, ◌==◌, if◌then◌else◌, Bool, true, false, List, length, get_or, take, drop, Option, Some, None, MatchOption, Bor, refl, sym, ap, ◌∙◌, arith, length-drop, get_or-drop}
use Rattle.std.specs.Prelude.{option_map}
use Rattle.std.specs.Path.{rfind_below, rsplit_once}
use Rattle.std.specs.Str.Pattern.{RFindsChar}
use Rattle.std.proofs.lemmas.Bool.Decides.{nat_tests}
use Rattle.std.proofs.lemmas.Str.Pattern.{NoCharPasses-char}
use Rattle.std.proofs.lemmas.Str.{len_utf8_ascii}

same : (m n : ℕ) → (m == n) ≡ true → m ≡ n
same m n h = grind (arith, nat_tests)

below_or_last : (k n : ℕ) → k < suc n → (k < n) ⊎ (k ≡ n)
below_or_last k n h = by_test (k == n) refl
  where
    other : (k n : ℕ) → (k == n) ≡ false → k < suc n → k < n
    other k n e h = grind (arith, nat_tests)

    by_test : (b : Bool) → (k == n) ≡ b → (k < n) ⊎ (k ≡ n)
    by_test true e = inr (same k n e)
    by_test false e = inl (other k n e h)

module _ (c : ℕ) (text : List ℕ) where
  abbrev step : ℕ → Bool → Option ℕ
  step n b = if b then Some n else rfind_below c text n

  -- none of the first n is one
  none_below : (n : ℕ) → ((i : ℕ) → i < n → get_or text i 0 ≡ c → ⊥) → rfind_below c text n ≡ None
  none_below zero h = refl
  none_below (suc n) h = by_test (get_or text n 0 == c) refl (none_below n (λ i l. h i (omega arith)))
    where
      by_test : (b : Bool) → (get_or text n 0 == c) ≡ b → rfind_below c text n ≡ None → rfind_below c text (suc n) ≡ None
      by_test true e rest = absurd (h n (omega arith) (same (get_or text n 0) c e))
      by_test false e rest = ap (step n) e ∙ rest

  -- the one at k is the last of them
  last_below : (k n : ℕ) → k < n → get_or text k 0 ≡ c → ((i : ℕ) → k < i → i < n → get_or text i 0 ≡ c → ⊥) → rfind_below c text n ≡ Some k
  last_below k zero l at h = absurd (omega arith)
  last_below k (suc n) l at h = by_place (below_or_last k n l) (λ less. last_below k n less at (λ i a b. h i a (omega arith)))
    where
      there : (b : Bool) → (get_or text n 0 == c) ≡ b → get_or text n 0 ≡ c → rfind_below c text (suc n) ≡ Some n
      there true e is = ap (step n) e
      there false e is = let no : (get_or text n 0 == c) ≡ true = grind (arith, nat_tests) in let never : false ≡ true = sym e ∙ no in cc

      by_test : (b : Bool) → (get_or text n 0 == c) ≡ b → k < n → rfind_below c text n ≡ Some k → rfind_below c text (suc n) ≡ Some k
      by_test true e less rest = absurd (h n less (omega arith) (same (get_or text n 0) c e))
      by_test false e less rest = ap (step n) e ∙ rest

      by_place : (k < n) ⊎ (k ≡ n) → (k < n → rfind_below c text n ≡ Some k) → rfind_below c text (suc n) ≡ Some k
      by_place (inl less) rest = by_test (get_or text n 0 == c) refl less (rest less)
      by_place (inr is) rest = there (get_or text n 0 == c) refl (ap (λ j. get_or text j 0) (sym is) ∙ at) ∙ ap Some (sym is)

  abbrev split_at : ℕ → List ℕ × List ℕ
  split_at i = (take i text, drop (i + 1) text)

  -- what the call at an ASCII character gives
  pub last_part_is : (r : Option (Bor (List ℕ) × Bor (List ℕ)))
      → MatchOption r (RFindsChar c text None) (λ x. (i : ℕ) × (j : ℕ) × RFindsChar c text (Some (i, j)) × (x.0.now ≡ take i text) × (x.1.now ≡ drop j text) × (i ≤ j) × (length x.0.now ≡ i) × (length x.1.now + j ≡ length text))
      → c < 128 → option_map (λ x. (x.0.now, x.1.now)) r ≡ rsplit_once c text
  unfolding rsplit_once
  last_part_is None h low = sym (ap (option_map split_at) (none_below (length text) (λ i. NoCharPasses-char c text i h low)))
  last_part_is (Some x) h low =
      let i = h.0 in
      let j = h.1 in
      let found = h.2.1 in
      let next : j ≡ i + 1 = omega (arith, found.ends, len_utf8_ascii c low) in
      let fits : i < length text = omega (arith, h.7, next) in
      let last = last_below i (length text) fits (found.byte low) (λ k a l e.
      let back : j + (k - j) ≡ k = omega (arith, next, a) in
      NoCharPasses-char c (drop j text) (k - j) h.2.0 low (omega (arith, length-drop j text, l, next, a)) (get_or-drop j text (k - j) 0 ∙ ap (λ n. get_or text n 0) back ∙ e)) in
      (λ t. Some (h.3 t, (h.4 ∙ ap (λ n. drop n text) next) t)) ∙ sym (ap (option_map split_at) last)
