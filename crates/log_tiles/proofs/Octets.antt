-- The octets of a tile, hash by hash.
use Rattle.std.proofs.Common.{◌≡◌, ℕ, zero, suc, ◌+◌, ◌*◌, ◌^◌, ◌<◌, ◌≤◌, List, [], ◌∷◌, ◌++◌, length, take, drop, refl, sym, ◌∙◌, ap}
use Rattle.std.proofs.Common.{arith, add-one, length-append, length-drop}
use Rattle.std.proofs.Math.Nat.{suc-mul, add-mul}
use Rattle.std.proofs.lemmas.Nat.{pow_pos, mul-le}
use Rattle.std.proofs.lemmas.List.{take_all, take-append-le, drop-append-le, drop-drop}
use Rattle.log_tiles.specs.Whole.{tree_hash}
use Rattle.log_tiles.specs.Tiles.{run_of, run_hashes, hashes_in}
use Rattle.log_tiles.specs.Source.{Leaves}
use Rattle.log_tiles.proofs.Runs.{run_power}

pub run_some : (level : ℕ) → 0 < run_of level
run_some level = let power = run_power level in omega (arith, power.1, pow_pos power.0)

-- so many hashes are over more leaves than a list holds
pub beyond : (held n level : ℕ) → held < 2 ^ 64 → (n < 2 ^ 64 → ⊥) → held < n * run_of level
beyond held n level h k = omega (arith, mul-le n 1 n (run_of level) (omega arith) (run_some level), h, k)

no_octet : (octets : List ℕ) → length octets ≡ 0 → octets ≡ []
no_octet [] h = refl
no_octet (octet ∷ others) h = absurd (omega arith)

hash_more : (count : ℕ) (octets hash : List ℕ) → length octets ≡ 32 * count → length hash ≡ 32
    → hashes_in (suc count) (octets ++ hash) ≡ hashes_in count octets ++ hash ∷ []
unfolding hashes_in
hash_more zero octets hash e l =
    let none = no_octet octets (omega arith) in
    rw none (ap (λ (x : List ℕ). x ∷ []) (take_all 32 hash (omega arith)))
hash_more (suc count) octets hash e l =
    let many : 32 ≤ length octets = omega arith in
    let rest : length (drop 32 octets) ≡ 32 * count = omega (arith, length-drop 32 octets) in
    rw (take-append-le, drop-append-le)
    (ap (λ (xs : Leaves). take 32 octets ∷ xs) (hash_more count (drop 32 octets) hash rest l))

run_more : (count run : ℕ) (leaves : Leaves)
    → run_hashes (suc count) run leaves ≡ run_hashes count run leaves ++ tree_hash (take run (drop (count * run) leaves)) ∷ []
unfolding run_hashes
run_more zero run leaves =
    let none : 0 ≡ 0 * run = omega arith in
    ap (λ (n : ℕ). tree_hash (take run (drop n leaves)) ∷ []) none
run_more (suc count) run leaves =
    let step : run + count * run ≡ suc count * run = omega (arith, suc-mul count run) in
    let there = drop-drop (count * run) run leaves ∙ ap (λ (n : ℕ). drop n leaves) step in
    ap (λ (xs : Leaves). tree_hash (take run leaves) ∷ xs)
    (run_more count run (drop run leaves)
    ∙ ap (λ (xs : Leaves). run_hashes count run (drop run leaves) ++ tree_hash (take run xs) ∷ []) there)

-- so many runs are written
pub record Written (count run : ℕ) (leaves rest : Leaves) (octets : List ℕ) : Type 0 where
  pub behind : rest ≡ drop (count * run) leaves
  pub whole : length octets ≡ 32 * count
  pub hashes : hashes_in count octets ≡ run_hashes count run leaves

pub written_none : (run : ℕ) (leaves : Leaves) (octets : List ℕ) → octets ≡ [] → Written 0 run leaves leaves octets
unfolding hashes_in run_hashes
written_none run leaves octets e =
    let none : 0 ≡ 0 * run = omega arith in
    record { behind = ap (λ (n : ℕ). drop n leaves) none; whole = ap length e; hashes = refl }

pub written_more : (count run : ℕ) (leaves rest others first : Leaves) (octets longer hash : List ℕ) → Written count run leaves rest octets
    → first ≡ take run rest → others ≡ drop run rest → hash ≡ tree_hash first → longer ≡ octets ++ hash
    → length longer ≡ length octets + 32 → Written (count + 1) run leaves others longer
written_more count run leaves rest others first octets longer hash w f b h e l =
    let size : length hash ≡ 32 = omega (arith, ap length e, length-append octets hash, l) in
    let next : count * run + run ≡ (count + 1) * run = omega (arith, add-mul count 1 run) in
    let last : hash ≡ tree_hash (take run (drop (count * run) leaves)) =
    h ∙ ap tree_hash (f ∙ ap (λ (xs : Leaves). take run xs) w.behind) in
    record {
      behind =
          b ∙ (ap (λ (xs : Leaves). drop run xs) w.behind
          ∙ (drop-drop run (count * run) leaves ∙ ap (λ (n : ℕ). drop n leaves) next));
      whole = omega (arith, l, w.whole);
      hashes =
          rw (add-one, e)
          (hash_more count octets hash w.whole size
          ∙ (ap (λ (xs : Leaves). xs ++ hash ∷ []) w.hashes
          ∙ (ap (λ (x : List ℕ). run_hashes count run leaves ++ x ∷ []) last ∙ sym (run_more count run leaves))));
    }
