-- The first component of a name, and those behind it.
use Rattle.std.proofs.Common.{◌≡◌, ℕ, suc, ◌+◌, ◌<◌, List, [], ◌∷◌, Bool, true, false, ◌||◌, length, take, drop, refl, sym, ap, ◌∙◌, arith, drop-cons, add-one}
use Rattle.std.proofs.lemmas.List.{drop_all}
use Rattle.std.specs.List.{position_or_len, list_any}
use Rattle.sigstore_tuf_outside.specs.Store.{is_slash, components, on_first, is_parent}

abbrev pub first_len : List ℕ → ℕ
first_len xs = position_or_len is_slash xs

-- the components behind the first, from the slash on
abbrev pub later : List ℕ → List (List ℕ)
later [] = []
later (x ∷ xs) = components xs

by_slash : (x : ℕ) (xs : List ℕ) (b : Bool) → is_slash x ≡ b → components xs ≡ take (first_len xs) xs ∷ later (drop (first_len xs) xs)
    → components (x ∷ xs) ≡ take (first_len (x ∷ xs)) (x ∷ xs) ∷ later (drop (first_len (x ∷ xs)) (x ∷ xs))
by_slash x xs true e more = rw e refl
by_slash x xs false e more = let one : 1 + first_len xs ≡ suc (first_len xs) = omega arith in rw e (rw one (ap (on_first x) more))

pub cut_first : (xs : List ℕ) → components xs ≡ take (first_len xs) xs ∷ later (drop (first_len xs) xs)
cut_first [] = refl
cut_first (x ∷ xs) = by_slash x xs (is_slash x) refl (cut_first xs)

any_first : (xs : List ℕ) (n : ℕ) (b : Bool) → n ≡ first_len xs → is_parent (take n xs) ≡ b → list_any is_parent (components xs) ≡ (b || list_any is_parent (later (drop n xs)))
any_first xs n b is e =
    ap (list_any is_parent) (cut_first xs) ∙ ap (λ m. list_any is_parent (take m xs ∷ later (drop m xs))) (sym is) ∙ ap (λ c. c || list_any is_parent (later (drop n xs))) e

pub first_is : (xs : List ℕ) (n : ℕ) → n ≡ first_len xs → is_parent (take n xs) ≡ true → list_any is_parent (components xs) ≡ true
first_is xs n is e = any_first xs n true is e

pub none_is : (xs : List ℕ) (n : ℕ) → n ≡ first_len xs → n ≡ length xs → is_parent (take n xs) ≡ false → list_any is_parent (components xs) ≡ false
none_is xs n is all e = any_first xs n false is e ∙ ap (λ rest. list_any is_parent (later rest)) (drop_all n xs (omega (arith, all)))

pub later_is : (xs : List ℕ) (n : ℕ) → n ≡ first_len xs → n < length xs → is_parent (take n xs) ≡ false → list_any is_parent (components xs) ≡ list_any is_parent (components (drop (n + 1) xs))
later_is xs n is more e = any_first xs n false is e ∙ ap (λ rest. list_any is_parent (later rest)) (drop-cons xs n 0 more) ∙ ap (λ m. list_any is_parent (components (drop m xs))) (sym (add-one n))
