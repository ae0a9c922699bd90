-- The hash of a tree over runs of leaves is that of the tree over the runs' hashes.
use Rattle.std.proofs.Common.{◌≡◌, ℕ, zero, suc, ◌+◌, ◌-◌, ◌*◌, ◌^◌, ◌<◌, ◌≤◌, List, [], ◌∷◌, length, take, drop, refl, sym}
use Rattle.std.proofs.Common.{◌∙◌, ap, arith, ⊎_elim}
use Rattle.std.proofs.Math.Nat.{pow-suc, mul-lt-mul_of_pos_right, add-mul, suc-mul, one-mul, mul_assoc}
use Rattle.std.proofs.Math.Seq.{take-take}
use Rattle.std.proofs.lemmas.Nat.{pow_pos, pow-add, mul-le}
use Rattle.std.proofs.lemmas.Bool.{cases_lt}
use Rattle.std.proofs.lemmas.List.{drop-take, drop-drop}
use Rattle.sigstore_merkle.specs.Tree.{split, node_hash}
use Rattle.log_tiles.specs.Whole.{tree_hash}
use Rattle.log_tiles.specs.Tiles.{run_of, run_hashes}
use Rattle.log_tiles.proofs.Splits.{split_is, one_largest}
use Rattle.log_tiles.proofs.TreeHashes.{tree_of_parts, tree_of_one, front_length, back_length, split_some}

pub run_power : (level : ℕ) → (height : ℕ) × (run_of level ≡ 2 ^ height)
run_power zero = (0, refl)
run_power (suc level) =
    let below = run_power level in
    let more : 256 * 2 ^ below.0 ≡ 2 ^ (8 + below.0) = sym (pow-add 2 8 below.0) in
    (8 + below.0, pow-suc 256 level ∙ (ap (λ (x : ℕ). x * 256) below.1 ∙ omega (arith, more)))

pub runs_length : (count run : ℕ) (leaves : List (List ℕ)) → length (run_hashes count run leaves) ≡ count
unfolding run_hashes
runs_length zero run leaves = refl
runs_length (suc count) run leaves = ap suc (runs_length count run (drop run leaves))

pub runs_take : (k n run : ℕ) (leaves : List (List ℕ)) → k ≤ n → take k (run_hashes n run leaves) ≡ run_hashes k run leaves
unfolding run_hashes
runs_take zero zero run leaves h = refl
runs_take zero (suc n) run leaves h = refl
runs_take (suc k) zero run leaves h = absurd (omega arith)
runs_take (suc k) (suc n) run leaves h =
    ap (λ (hashes : List (List ℕ)). tree_hash (take run leaves) ∷ hashes) (runs_take k n run (drop run leaves) (omega arith))

pub runs_drop : (k j n run : ℕ) (leaves : List (List ℕ)) → n ≡ k + j
    → drop k (run_hashes n run leaves) ≡ run_hashes j run (drop (k * run) leaves)
unfolding run_hashes
runs_drop zero j n run leaves e =
    let same : n ≡ j = omega arith in
    let none : zero * run ≡ zero = omega arith in
    rw (same, none)
runs_drop (suc k) j zero run leaves e = absurd (omega arith)
runs_drop (suc k) j (suc n) run leaves e =
    let step : run + k * run ≡ suc k * run = omega (arith, suc-mul k run) in
    runs_drop k j n run (drop run leaves) (omega arith)
    ∙ ap (λ (rest : List (List ℕ)). run_hashes j run rest) (drop-drop (k * run) run leaves ∙ ap (λ (i : ℕ). drop i leaves) step)

pub split_runs : (m run height : ℕ) → run ≡ 2 ^ height → 1 < m → split m * run ≡ split (m * run)
split_runs m run height e h =
    let s = split_is m h in
    let some : 0 < run = omega (arith, e, pow_pos height) in
    let many : 2 * 1 ≤ m * run = mul-le 2 1 m run (omega arith) (omega arith) in
    let wide : m * run ≤ 2 * split m * run = mul-le m run (2 * split m) run s.largest (omega arith) in
    let turned : 2 * split m * run ≡ 2 * (split m * run) = mul_assoc 2 (split m) run in
    one_largest (m * run) (split m * run) (split (m * run))
    (record {
      height = s.height + height;
      power = ap (λ (x : ℕ). x * run) s.power ∙ (ap (λ (x : ℕ). 2 ^ s.height * x) e ∙ sym (pow-add 2 s.height height));
      below = mul-lt-mul_of_pos_right s.below some;
      largest = omega (arith, wide, turned);
    })
    (split_is (m * run) (omega (arith, many)))

pub runs_hash : (fuel m run height : ℕ) (leaves : List (List ℕ)) → run ≡ 2 ^ height → m ≤ fuel → 0 < m → m * run ≤ length leaves
    → tree_hash (run_hashes m run leaves) ≡ tree_hash (take (m * run) leaves)
unfolding run_hashes
runs_hash zero m run height leaves e f h l = absurd (omega arith)
runs_hash (suc fuel) m run height leaves e f h l =
    ⊎_elim
    (λ (many : 1 < m).
    let s = split_is m many in
    let some = split_some m many in
    let below = s.below in
    let whole : m ≡ split m + (m - split m) = omega arith in
    let products : m * run ≡ split m * run + (m - split m) * run = ap (λ (x : ℕ). x * run) whole ∙ add-mul (split m) (m - split m) run in
    let fits : split m * run ≤ length leaves = omega arith in
    let back = back_length (split m * run) leaves fits in
    let front = front_length (m * run) leaves l in
    let left = runs_hash fuel (split m) run height leaves e (omega arith) some fits in
    let right = runs_hash fuel (m - split m) run height (drop (split m * run) leaves) e (omega arith) (omega arith) (omega arith) in
    let lengths = runs_length m run leaves in
    let wide : 2 * 1 ≤ m * run = mul-le 2 1 m run (omega arith) (omega (arith, e, pow_pos height)) in
    sym (tree_of_parts (run_hashes m run leaves) (run_hashes (split m) run leaves)
    (run_hashes (m - split m) run (drop (split m * run) leaves)) (split m)
    (ap split (sym lengths)) (omega arith) (sym (runs_take (split m) m run leaves (omega arith)))
    (sym (runs_drop (split m) (m - split m) m run leaves whole)))
    ∙ (ap (λ (x : List ℕ). node_hash x (tree_hash (run_hashes (m - split m) run (drop (split m * run) leaves)))) left
    ∙ (ap (node_hash (tree_hash (take (split m * run) leaves))) right
    ∙ tree_of_parts (take (m * run) leaves) (take (split m * run) leaves) (take ((m - split m) * run) (drop (split m * run) leaves))
    (split m * run)
    (split_runs m run height e many ∙ ap split (sym front)) (omega arith)
    (sym (take-take (split m * run) (m * run) leaves (omega arith)))
    (sym (ap (λ (n : ℕ). drop (split m * run) (take n leaves)) products ∙ drop-take (split m * run) ((m - split m) * run) leaves)))))
    (λ (few : m ≤ 1).
    let one : m ≡ 1 = omega arith in
    rw (one, one-mul run) (sym (tree_of_one (tree_hash (take run leaves) ∷ []) [] refl)))
    (cases_lt 1 m)
