-- The split of a tree is the largest power of two below its size.
use Rattle.std.proofs.Common.{◌≡◌, ℕ, zero, suc, ◌*◌, ◌^◌, ◌<◌, ◌≤◌, true, refl, sym, ◌∙◌, ap, arith, ⊎_elim}
use Rattle.std.specs.Prelude.{nat_lt}
use Rattle.std.proofs.Math.Nat.{pow-suc}
use Rattle.std.proofs.Math.Pow.{pow_mono}
use Rattle.std.proofs.lemmas.Nat.{pow_pos}
use Rattle.std.proofs.lemmas.Bool.{cases_Bool, cases_lt, ltb-true, ltb-false, cond-true, cond-false}
use Rattle.sigstore_merkle.specs.Tree.{split}

-- a power of two that is below a number, and whose double isn't
pub record IsLargest (n k : ℕ) : Type 0 where
  pub height : ℕ
  pub power : k ≡ 2 ^ height
  pub below : k < n
  pub largest : n ≤ 2 * k

pub double : (g : ℕ) → 2 ^ suc g ≡ 2 * 2 ^ g
double g = omega (arith, pow-suc 2 g)

split_from : (last : ℕ) → IsLargest (suc (suc last)) (split (suc (suc last)))
unfolding split
split_from zero = record { height = 0; power = refl; below = omega arith; largest = omega arith }
split_from (suc last) =
    let before = split_from last in
    ⊎_elim
    (λ (e : nat_lt (2 * split (suc (suc last))) (suc (suc (suc last))) ≡ true).
    let same : split (suc (suc (suc last))) ≡ 2 * split (suc (suc last)) = cond-true _ _ _ e in
    let fits = ltb-true _ _ e in
    record {
      height = suc before.height;
      power = same ∙ (ap (λ (x : ℕ). 2 * x) before.power ∙ sym (double before.height));
      below = omega arith;
      largest = omega (arith, before.below, before.largest);
    })
    (λ e.
    let same : split (suc (suc (suc last))) ≡ split (suc (suc last)) = cond-false _ _ _ e in
    let over = ltb-false _ _ e in
    record { height = before.height; power = same ∙ before.power; below = omega (arith, before.below); largest = omega (arith, before.below) })
    (cases_Bool (nat_lt (2 * split (suc (suc last))) (suc (suc (suc last)))))

pub split_is : (n : ℕ) → 1 < n → IsLargest n (split n)
split_is zero h = absurd (omega arith)
split_is (suc zero) h = absurd (omega arith)
split_is (suc (suc last)) h = split_from last

-- there is one such power
not_lower : (n k l : ℕ) (a : IsLargest n k) (b : IsLargest n l) → a.height < b.height → ⊥
not_lower n k l a b h =
    let low : 2 ^ suc a.height ≤ 2 ^ b.height = pow_mono (omega (arith, h)) in
    omega (arith, low, double a.height, a.power, b.power, a.largest, b.below)

pub one_largest : (n k l : ℕ) → IsLargest n k → IsLargest n l → k ≡ l
one_largest n k l a b =
    ⊎_elim
    (λ (h : a.height < b.height). absurd (not_lower n k l a b h))
    (λ (h : b.height ≤ a.height).
    ⊎_elim
    (λ (m : b.height < a.height). absurd (not_lower n l k b a m))
    (λ (m : a.height ≤ b.height).
    let same : a.height ≡ b.height = omega arith in
    a.power ∙ (ap (λ (g : ℕ). 2 ^ g) same ∙ sym b.power))
    (cases_lt b.height a.height))
    (cases_lt a.height b.height)

-- a smaller tree that is larger than the left part is split there too
pub same_split : (first second part : ℕ) → part ≡ split second → 1 < second → first ≤ second → part < first → part ≡ split first
same_split first second part p h k l =
    let s = split_is second h in
    let below : 0 < part = omega (arith, p, s.power, pow_pos s.height) in
    let some : 1 < first = omega arith in
    one_largest first part (split first) (record { height = s.height; power = p ∙ s.power; below = l; largest = omega (arith, p, s.largest) }) (split_is first some)
