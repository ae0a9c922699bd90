-- Paths of tiles tell their index and their width.
use Rattle.std.proofs.Common.{◌≡◌, ℕ, zero, suc, ◌+◌, ◌-◌, ◌*◌, ◌/◌, ◌%◌, ◌^◌, ◌<◌, ◌==◌, nat_eq, nat_le, nat_lt, false, ◌&&◌, List, [], ◌∷◌, ◌++◌, drop, Option, Some, None, refl, sym, ap, ◌∙◌, append_assoc, arith}
use Rattle.std.specs.Prelude.{codes, decimal, if◌then◌else◌}
use Rattle.std.proofs.lemmas.Bool.{eqb-true, false_from_ne_true}
use Rattle.std.proofs.lemmas.Fmt.{decimal_digit, decimal_injective}
use Rattle.sigstore_rekor.specs.TilePath.{three_digits, marked, width_path, tile_path_of, IsWidth, PathsAreDistinct}

-- ---- one step of the groups

not_zero : (n : ℕ) → (suc n == 0) ≡ false
not_zero n = false_from_ne_true _ (λ t. let e : suc n ≡ 0 = eqb-true (suc n) 0 t in omega arith)

marked_is : (g n : ℕ) → marked (suc g) (suc n) ≡ marked g (suc n / 1000) ++ (codes "x" ++ (three_digits (suc n % 1000) ++ codes "/"))
marked_is g n = rw (not_zero n) refl

-- ---- the number of the digits up to the first dot

abbrev digit_added : ℕ → ℕ → ℕ
digit_added n c = if nat_le 48 c && nat_lt c 58 then n * 10 + (c - 48) else n

value_in : ℕ → List ℕ → ℕ
value_in n [] = n
value_in n (c ∷ cs) = if nat_eq c 46 then n else value_in (digit_added n c) cs

-- what stands from the first dot on
tail_in : List ℕ → List ℕ
tail_in [] = []
tail_in (c ∷ cs) = if nat_eq c 46 then c ∷ cs else tail_in cs

digit_read : (d : ℕ) → d < 10 → (n : ℕ) (rest : List ℕ) → value_in n ((48 + d) ∷ rest) ≡ value_in (n * 10 + d) rest
unfolding value_in
digit_read zero h n rest = refl
digit_read (suc zero) h n rest = refl
digit_read (suc (suc zero)) h n rest = refl
digit_read (suc (suc (suc zero))) h n rest = refl
digit_read (suc (suc (suc (suc zero)))) h n rest = refl
digit_read (suc (suc (suc (suc (suc zero))))) h n rest = refl
digit_read (suc (suc (suc (suc (suc (suc zero)))))) h n rest = refl
digit_read (suc (suc (suc (suc (suc (suc (suc zero))))))) h n rest = refl
digit_read (suc (suc (suc (suc (suc (suc (suc (suc zero)))))))) h n rest = refl
digit_read (suc (suc (suc (suc (suc (suc (suc (suc (suc zero))))))))) h n rest = refl
digit_read (suc (suc (suc (suc (suc (suc (suc (suc (suc (suc d)))))))))) h n rest = absurd (omega arith)

digit_passed : (d : ℕ) → d < 10 → (rest : List ℕ) → tail_in ((48 + d) ∷ rest) ≡ tail_in rest
unfolding tail_in
digit_passed zero h rest = refl
digit_passed (suc zero) h rest = refl
digit_passed (suc (suc zero)) h rest = refl
digit_passed (suc (suc (suc zero))) h rest = refl
digit_passed (suc (suc (suc (suc zero)))) h rest = refl
digit_passed (suc (suc (suc (suc (suc zero))))) h rest = refl
digit_passed (suc (suc (suc (suc (suc (suc zero)))))) h rest = refl
digit_passed (suc (suc (suc (suc (suc (suc (suc zero))))))) h rest = refl
digit_passed (suc (suc (suc (suc (suc (suc (suc (suc zero)))))))) h rest = refl
digit_passed (suc (suc (suc (suc (suc (suc (suc (suc (suc zero))))))))) h rest = refl
digit_passed (suc (suc (suc (suc (suc (suc (suc (suc (suc (suc d)))))))))) h rest = absurd (omega arith)

digit_value : (d : ℕ) → d < 10 → (n : ℕ) (rest : List ℕ) → value_in n (decimal d ++ rest) ≡ value_in (n * 10 + d) rest
digit_value d h n rest = ap (λ ds. value_in n (ds ++ rest)) (decimal_digit d h) ∙ digit_read d h n rest

digit_tail : (d : ℕ) → d < 10 → (rest : List ℕ) → tail_in (decimal d ++ rest) ≡ tail_in rest
digit_tail d h rest = ap (λ ds. tail_in (ds ++ rest)) (decimal_digit d h) ∙ digit_passed d h rest

-- three digits, part by part
parted : (k : ℕ) (rest : List ℕ) → three_digits k ++ rest ≡ decimal (k / 100) ++ (decimal (k / 10 % 10) ++ (decimal (k % 10) ++ rest))
parted k rest = simp append_assoc

three_value : (k : ℕ) → k < 1000 → (n : ℕ) (rest : List ℕ) → value_in n (three_digits k ++ rest) ≡ value_in (n * 1000 + k) rest
three_value k h n rest =
    let sum : ((n * 10 + k / 100) * 10 + k / 10 % 10) * 10 + k % 10 ≡ n * 1000 + k = omega arith in
    ap (value_in n) (parted k rest)
    ∙ digit_value (k / 100) (omega arith) n _
    ∙ digit_value (k / 10 % 10) (omega arith) (n * 10 + k / 100) _
    ∙ digit_value (k % 10) (omega arith) ((n * 10 + k / 100) * 10 + k / 10 % 10) rest
    ∙ ap (λ v. value_in v rest) sum

three_tail : (k : ℕ) → k < 1000 → (rest : List ℕ) → tail_in (three_digits k ++ rest) ≡ tail_in rest
three_tail k h rest =
    ap tail_in (parted k rest)
    ∙ digit_tail (k / 100) (omega arith) _
    ∙ digit_tail (k / 10 % 10) (omega arith) _
    ∙ digit_tail (k % 10) (omega arith) rest

-- a group and what stands behind it
grouped : (xs : List ℕ) (k : ℕ) (rest : List ℕ)
    → (xs ++ (codes "x" ++ (three_digits k ++ codes "/"))) ++ rest ≡ xs ++ (120 ∷ (three_digits k ++ (47 ∷ rest)))
grouped xs k rest = append_assoc xs _ rest ∙ ap (λ ys. xs ++ (120 ∷ ys)) (append_assoc (three_digits k) (codes "/") rest)

group_value : (n k : ℕ) → k < 1000 → (rest : List ℕ) → value_in n (120 ∷ (three_digits k ++ (47 ∷ rest))) ≡ value_in (n * 1000 + k) rest
unfolding value_in
group_value n k h rest = three_value k h n (47 ∷ rest)

group_tail : (k : ℕ) → k < 1000 → (rest : List ℕ) → tail_in (120 ∷ (three_digits k ++ (47 ∷ rest))) ≡ tail_in rest
unfolding tail_in
group_tail k h rest = three_tail k h (47 ∷ rest)

-- as many numbers as groups write
limit : ℕ → ℕ
limit zero = 1
limit (suc g) = 1000 * limit g

marked_value : (g n : ℕ) → n < limit g → (rest : List ℕ) → value_in 0 (marked g n ++ rest) ≡ value_in n rest
unfolding limit
marked_value zero n h rest = let e : n ≡ 0 = omega arith in rw e refl
marked_value (suc g) zero h rest = refl
marked_value (suc g) (suc n) h rest =
    let whole : suc n / 1000 * 1000 + suc n % 1000 ≡ suc n = omega arith in
    ap (λ ds. value_in 0 (ds ++ rest)) (marked_is g n)
    ∙ ap (value_in 0) (grouped (marked g (suc n / 1000)) (suc n % 1000) rest)
    ∙ marked_value g (suc n / 1000) (omega arith) _
    ∙ group_value (suc n / 1000) (suc n % 1000) (omega arith) rest
    ∙ ap (λ v. value_in v rest) whole

marked_tail : (g n : ℕ) (rest : List ℕ) → tail_in (marked g n ++ rest) ≡ tail_in rest
marked_tail zero n rest = refl
marked_tail (suc g) zero rest = refl
marked_tail (suc g) (suc n) rest =
    ap (λ ds. tail_in (ds ++ rest)) (marked_is g n)
    ∙ ap tail_in (grouped (marked g (suc n / 1000)) (suc n % 1000) rest)
    ∙ marked_tail g (suc n / 1000) _
    ∙ group_tail (suc n % 1000) (omega arith) rest

-- ---- the whole path

width_value : (n : ℕ) (w : Option ℕ) → value_in n (width_path w) ≡ n
unfolding value_in
width_value n None = refl
width_value n (Some w) = refl

width_tail : (w : Option ℕ) → tail_in (width_path w) ≡ width_path w
unfolding tail_in
width_tail None = refl
width_tail (Some w) = refl

small : (i : ℕ) → i < 2 ^ 64 → i / 1000 < limit 7
unfolding limit
small i h = omega arith

path_value : (i : ℕ) (w : Option ℕ) → i < 2 ^ 64 → value_in 0 (tile_path_of i w) ≡ i
path_value i w h =
    let whole : i / 1000 * 1000 + i % 1000 ≡ i = omega arith in
    ap (value_in 0) (append_assoc (marked 7 (i / 1000)) (three_digits (i % 1000)) (width_path w))
    ∙ marked_value 7 (i / 1000) (small i h) _
    ∙ three_value (i % 1000) (omega arith) (i / 1000) (width_path w)
    ∙ width_value (i / 1000 * 1000 + i % 1000) w
    ∙ whole

path_tail : (i : ℕ) (w : Option ℕ) → tail_in (tile_path_of i w) ≡ width_path w
path_tail i w =
    ap tail_in (append_assoc (marked 7 (i / 1000)) (three_digits (i % 1000)) (width_path w))
    ∙ marked_tail 7 (i / 1000) _
    ∙ three_tail (i % 1000) (omega arith) (width_path w)
    ∙ width_tail w

same_width : (v w : Option ℕ) → IsWidth v → IsWidth w → width_path v ≡ width_path w → v ≡ w
same_width None None p q h = refl
same_width None (Some w) p q h = cc
same_width (Some v) None p q h = cc
same_width (Some v) (Some w) p q h = ap Some (decimal_injective v w (omega arith) (omega arith) (ap (drop 3) h))

pub distinct : PathsAreDistinct
distinct i j v w p q r s h = (
  sym (path_value i v p) ∙ ap (value_in 0) h ∙ path_value j w q,
  same_width v w r s (sym (path_tail i v) ∙ ap tail_in h ∙ path_tail j w),
)
