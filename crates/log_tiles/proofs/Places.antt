-- Where the hash of a part of a tree stands in tiles.
use Rattle.std.proofs.Common.{◌≡◌, ℕ, suc, ◌+◌, ◌*◌, ◌/◌, ◌%◌, ◌^◌, ◌<◌, ◌≤◌, refl, sym, ◌∙◌, ap, arith, ⊎_elim}
use Rattle.std.proofs.Math.Nat.{pow-suc, mod-eq_of_lt}
use Rattle.std.proofs.lemmas.Bool.{cases_lt}
use Rattle.std.proofs.lemmas.Nat.{div-add-mod'}
use Rattle.log_tiles.specs.Tiles.{run_of}
use Rattle.log_tiles.specs.Asked.{IsPlaceOf}
use Rattle.log_tiles.specs.Reading.{StandsHigher}

pub record Climbed (start count level run : ℕ) : Type 0 where
  pub run_is : run ≡ run_of level
  pub some : 0 < run
  pub fits : run ≤ count
  pub starts : start % run ≡ 0
  pub counts : count % run ≡ 0
  pub low : level ≤ 7

pub climbed_start : (start count : ℕ) → 0 < count → Climbed start count 0 1
climbed_start start count h = record { run_is = refl; some = omega arith; fits = omega arith; starts = omega arith; counts = omega arith; low = omega arith }

pub climbed_more : (start count level run : ℕ) → Climbed start count level run → StandsHigher start count level run
    → Climbed start count (level + 1) (run * 256)
climbed_more start count level run c h =
    let next : level + 1 ≡ suc level = omega arith in
    record {
      run_is = ap (λ (x : ℕ). x * 256) c.run_is ∙ (sym (pow-suc 256 level) ∙ ap (λ (x : ℕ). 256 ^ x) (sym next));
      some = omega (arith, c.some);
      fits = omega (arith, h.fits);
      starts = h.starts;
      counts = h.counts;
      low = omega (arith, h.low);
    }

-- nothing smaller is in whole runs
few_runs : (n run : ℕ) → 0 < n → n < run → n % run ≡ 0 → ⊥
few_runs n run some few none =
    let same : n % run ≡ n = mod-eq_of_lt few in
    omega (arith, same, none, some)

-- where no hashes of the next level stand over these leaves, the level is the highest
highest : (start count level run : ℕ) → Climbed start count level run → 0 < count → count < 2 ^ 64
    → (StandsHigher start count level run → ⊥) → start % run_of (suc level) ≡ 0 → count % run_of (suc level) ≡ 0 → ⊥
highest start count level run c some below stops a b =
    let next : run_of (suc level) ≡ run * 256 = pow-suc 256 level ∙ ap (λ (x : ℕ). x * 256) (sym c.run_is) in
    let starts : start % (run * 256) ≡ 0 = ap (λ (x : ℕ). start % x) (sym next) ∙ a in
    let counts : count % (run * 256) ≡ 0 = ap (λ (x : ℕ). count % x) (sym next) ∙ b in
    ⊎_elim
    (λ (low : level < 7).
    ⊎_elim
    (λ (few : count / 256 < run). few_runs count (run * 256) some (omega (arith, few)) counts)
    (λ (fits : run ≤ count / 256). stops (record { low = low; fits = fits; starts = starts; counts = counts }))
    (cases_lt (count / 256) run))
    (λ (high : 7 ≤ level).
    let top : level ≡ 7 = omega (arith, high, c.low) in
    let wide : run ≡ 256 ^ 7 = c.run_is ∙ ap (λ (x : ℕ). 256 ^ x) top in
    few_runs count (run * 256) some (omega (arith, wide, below)) counts)
    (cases_lt level 7)

whole : (n run : ℕ) → n % run ≡ 0 → n ≡ n / run * run
whole n run e = omega (arith, div-add-mod' n run, e)

pub place_is : (start count level run : ℕ) → Climbed start count level run → 0 < count → count < 2 ^ 64
    → (StandsHigher start count level run → ⊥)
    → IsPlaceOf start count (record { level = level; run = run; index = start / run / 256; at = start / run % 256; count = count / run })
place_is start count level run c some below stops =
    let first : start / run ≡ start / run / 256 * 256 + start / run % 256 = omega arith in
    record {
      run = c.run_is;
      some = c.some;
      starts = whole start run c.starts ∙ ap (λ (x : ℕ). x * run) first;
      counts = whole count run c.counts;
      at = omega arith;
      highest = highest start count level run c some below stops;
    }
