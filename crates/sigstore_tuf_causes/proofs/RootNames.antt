-- The names that have a number: each is another one, and a store takes it.
use Rattle.std.proofs.Common.{◌≡◌, ℕ, zero, suc, ◌+◌, ◌^◌, ◌/◌, ◌%◌, ◌<◌, ◌≤◌, ◌==◌, nat_lt, List, [], ◌∷◌, ◌++◌, get_or, take, if◌then◌else◌, Bool, true, false, bytes_eq, decimal, codes, append_assoc, refl, sym, subst, ap, ◌∙◌, arith}
use Rattle.std.specs.Prelude.{⊤}
use Rattle.std.specs.List.{list_any}
use Rattle.std.proofs.lemmas.Bool.Decides.{nat_tests}
use Rattle.std.specs.Fmt.{digit_glyph, digits_onto, digits}
use Rattle.std.proofs.lemmas.Fmt.{decimal_injective}
use Rattle.std.proofs.lemmas.List.{append_cancel_left, append_cancel_right}
use Rattle.std.proofs.lemmas.Slice.Eq.{bytes_eq-Decides}
use Rattle.sigstore_tuf_text.specs.Names.{root_name, snapshot_name, versioned_name}
use Rattle.sigstore_tuf_rules.specs.Names.{history_name}
use Rattle.sigstore_tuf_outside.specs.Store.{is_slash, components, on_first, is_parent, is_bad_name}

-- ---- roots of two numbers have two names

pub same_number : (m n : ℕ) → m < 2 ^ 64 → n < 2 ^ 64 → history_name m ≡ history_name n → m ≡ n
same_number m n p q h =
    let name : root_name m ≡ root_name n = append_cancel_left (codes "root_history/") (root_name m) (root_name n) h in
    decimal_injective m n p q (append_cancel_right (decimal m) (decimal n) (codes ".root.json") name)

-- ---- a number begins with digits

abbrev AllDigits : List ℕ → Type 0
AllDigits [] = ⊤
AllDigits (x ∷ xs) = (48 ≤ x) × (x ≤ 57) × AllDigits xs

glyph : (d : ℕ) → d < 10 → digit_glyph false d ≡ 48 + d
glyph d h = let low : nat_lt d 10 ≡ true = grind (arith, nat_tests) in ap (λ b. if b then 48 + d else 87 + d) low

one_more : (n : ℕ) (acc : List ℕ) → AllDigits acc → AllDigits (digit_glyph false (n % 10) ∷ acc)
one_more n acc p =
    let low : n % 10 < 10 = omega arith in
    let g = glyph (n % 10) low in
    (omega (arith, g), omega (arith, g, low), p)

onto : (k n : ℕ) (acc : List ℕ) → AllDigits acc → AllDigits (digits_onto k 10 false n acc)
onto zero n acc p = p
onto (suc k) n acc p = by_test (n / 10 == 0) (one_more n acc p) (onto k (n / 10) (digit_glyph false (n % 10) ∷ acc) (one_more n acc p))
  where
    by_test : (b : Bool) → AllDigits (digit_glyph false (n % 10) ∷ acc) → AllDigits (digits_onto k 10 false (n / 10) (digit_glyph false (n % 10) ∷ acc))
        → AllDigits (if b then digit_glyph false (n % 10) ∷ acc else digits_onto k 10 false (n / 10) (digit_glyph false (n % 10) ∷ acc))
    by_test true last more = last
    by_test false last more = more

digits_of_decimal : (n : ℕ) → AllDigits (decimal n)
unfolding digits
digits_of_decimal n = onto 64 n [] tt

first_same : (x y : ℕ) (xs ys : List ℕ) → x ∷ xs ≡ y ∷ ys → x ≡ y
first_same x y xs ys h = cc

low_first : {C : Type 0} (ds name : List ℕ) (x : ℕ) (xs : List ℕ) → AllDigits ds → 57 < x → x ∷ xs ≡ ds ++ codes "." ++ name → C
low_first [] name x xs d h e = let same : x ≡ 46 = first_same x 46 xs name e in absurd (omega (arith, same, h))
low_first (y ∷ ds) name x xs d h e = let same : x ≡ y = first_same x y xs (ds ++ codes "." ++ name) e in absurd (omega (arith, same, h, d.1))

-- a name that begins with a letter is none of those with a version
pub never_versioned : {C : Type 0} (version : ℕ) (name : List ℕ) (x : ℕ) (xs : List ℕ) → 57 < x → x ∷ xs ≡ versioned_name version name → C
never_versioned version name x xs h e = low_first (decimal version) name x xs (digits_of_decimal version) h e

first_letter : {C : Type 0} (version : ℕ) (name xs : List ℕ) (x : ℕ) → get_or xs 0 0 ≡ x → 57 < x → xs ≡ versioned_name version name → C
first_letter version name [] x is h e = let zero : 0 ≡ x = is in absurd (omega (arith, zero, h))
first_letter version name (y ∷ ys) x is h e = let same : y ≡ x = is in never_versioned version name y ys (omega (arith, same, h)) e

pub versioned_apart : (version : ℕ) (name xs : List ℕ) (x : ℕ) → get_or xs 0 0 ≡ x → 57 < x → bytes_eq xs (versioned_name version name) ≡ false
versioned_apart version name xs x is h = by_test (bytes_eq xs (versioned_name version name)) refl
  where
    by_test : (b : Bool) → bytes_eq xs (versioned_name version name) ≡ b → bytes_eq xs (versioned_name version name) ≡ false
    by_test true e = first_letter version name xs x is h ((bytes_eq-Decides xs (versioned_name version name)).0 e)
    by_test false e = e

-- ---- a store takes them

no_slash : (x : ℕ) → 48 ≤ x → is_slash x ≡ false
no_slash x h = by_test (is_slash x) refl
  where
    by_test : (b : Bool) → is_slash x ≡ b → is_slash x ≡ false
    by_test true e = let slash : x ≡ 47 = grind (arith, nat_tests) in absurd (omega arith)
    by_test false e = e

-- digits before an ending that is one component, no parent's and no absolute name
module _ (ending : List ℕ) (one : components ending ≡ ending ∷ []) (other : is_parent ending ≡ false) (relative : bytes_eq (take 1 ending) (codes "/") ≡ false) where
  abbrev whole : List ℕ → List ℕ
  whole ds = ds ++ ending

  -- such a name is one component
  one_component : (ds : List ℕ) → AllDigits ds → components (whole ds) ≡ whole ds ∷ []
  one_component [] h = one
  one_component (x ∷ xs) h = ap (λ b. if b then [] ∷ components (whole xs) else on_first x (components (whole xs))) (no_slash x h.0) ∙ ap (on_first x) (one_component xs h.2)

  no_parent : (ds : List ℕ) → AllDigits ds → is_parent (whole ds) ≡ false
  no_parent [] h = other
  no_parent (x ∷ xs) h = by_test (bytes_eq (whole (x ∷ xs)) (codes "..")) refl
    where
      by_test : (b : Bool) → bytes_eq (whole (x ∷ xs)) (codes "..") ≡ b → is_parent (whole (x ∷ xs)) ≡ false
      by_test true e =
          let same : whole (x ∷ xs) ≡ codes ".." = (bytes_eq-Decides (whole (x ∷ xs)) (codes "..")).0 e in
          let dot : x ≡ 46 = first_same x 46 (whole xs) (codes ".") same in
          absurd (omega (arith, dot, h.0))
      by_test false e = e

  parts_good : (ds : List ℕ) → AllDigits ds → list_any is_parent (components (whole ds)) ≡ false
  parts_good ds h = rw (one_component ds h, no_parent ds h) refl

  not_absolute : (ds : List ℕ) → AllDigits ds → bytes_eq (take 1 (whole ds)) (codes "/") ≡ false
  not_absolute [] h = relative
  not_absolute (x ∷ xs) h = by_test (bytes_eq (x ∷ []) (codes "/")) refl
    where
      by_test : (b : Bool) → bytes_eq (x ∷ []) (codes "/") ≡ b → bytes_eq (x ∷ []) (codes "/") ≡ false
      by_test true e =
          let same : x ∷ [] ≡ codes "/" = (bytes_eq-Decides (x ∷ []) (codes "/")).0 e in
          let slash : x ≡ 47 = first_same x 47 [] [] same in
          absurd (omega (arith, slash, h.0))
      by_test false e = e

  whole_good : (ds : List ℕ) → AllDigits ds → is_bad_name (whole ds) ≡ false
  whole_good ds h = rw (not_absolute ds h, parts_good ds h) refl

pub history_good : (n : ℕ) → is_bad_name (history_name n) ≡ false
history_good n = parts_good (codes ".root.json") refl refl refl (decimal n) (digits_of_decimal n)

pub versioned_good : (version : ℕ) → is_bad_name (versioned_name version snapshot_name) ≡ false
versioned_good version =
    subst (λ n. is_bad_name n ≡ false) (sym (append_assoc (decimal version) (codes ".") snapshot_name)) (whole_good (codes "." ++ snapshot_name) refl refl refl (decimal version) (digits_of_decimal version))
