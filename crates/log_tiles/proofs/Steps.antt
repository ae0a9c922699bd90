-- What the hashes of a proof give at a step down the trees.
use Rattle.std.proofs.Common.{◌≡◌, ℕ, ◌+◌, ◌-◌, ◌<◌, ◌≤◌, Bool, true, false, List, [], ◌∷◌, ◌++◌, length, Option, Some, None, refl, sym, ◌∙◌, ap, arith}
use Rattle.std.proofs.lemmas.Option.{some_pair_parts, none-some}
use Rattle.sigstore_merkle.specs.Tree.{split, node_hash}
use Rattle.log_tiles.specs.Consistency.{Roots, with_left, with_right, roots_alike, roots_from}
use Rattle.log_tiles.proofs.Given.{given_same, given_left, given_right, given_none}

alike : (whole : Bool) (hashes : List (List ℕ)) (root a b : List ℕ) → roots_alike whole hashes root ≡ Some (a, b) → a ≡ b
alike true [] root a b e = let parts = some_pair_parts root a root b e in sym parts.0 ∙ parts.1
alike false [] root a b e = absurd (none-some _ e)
alike true (hash ∷ []) root a b e = absurd (none-some _ e)
alike false (hash ∷ []) root a b e = let parts = some_pair_parts hash a hash b e in sym parts.0 ∙ parts.1
alike whole (hash ∷ other ∷ others) root a b e = absurd (none-some _ e)

-- two trees of one size have one hash
pub same_step : (first second : ℕ) (whole : Bool) (hashes : List (List ℕ)) (root a b : List ℕ) → first ≡ second
    → roots_from first second whole hashes root ≡ Some (a, b) → a ≡ b
same_step first second whole hashes root a b e given = alike whole hashes root a b (sym (given_same first second whole hashes root e) ∙ given)

-- there is a hash to step by
pub step_some : {C : Type 0} (first second : ℕ) (whole : Bool) (hashes : List (List ℕ)) (root a b : List ℕ) → first < second → length hashes ≡ 0
    → roots_from first second whole hashes root ≡ Some (a, b) → C
step_some first second whole hashes root a b h e given = absurd (none-some _ (sym (given_none first second whole hashes root h e) ∙ given))

record InLeft (hash : List ℕ) (below : Option Roots) (a b : List ℕ) : Type 0 where
  pub newer : List ℕ
  pub given : below ≡ Some (a, newer)
  pub above : node_hash newer hash ≡ b

right_parts : (hash : List ℕ) (below : Option Roots) (a b : List ℕ) → with_right hash below ≡ Some (a, b) → InLeft hash below a b
right_parts hash None a b e = absurd (none-some _ e)
right_parts hash (Some roots) a b e =
    let parts = some_pair_parts roots.0 a (node_hash roots.1 hash) b e in
    record { newer = roots.1; given = ap (λ (x : List ℕ). Some (x, roots.1)) parts.0; above = parts.1 }

record InRight (hash : List ℕ) (below : Option Roots) (a b : List ℕ) : Type 0 where
  pub older : List ℕ
  pub newer : List ℕ
  pub given : below ≡ Some (older, newer)
  pub above_older : node_hash hash older ≡ a
  pub above_newer : node_hash hash newer ≡ b

left_parts : (hash : List ℕ) (below : Option Roots) (a b : List ℕ) → with_left hash below ≡ Some (a, b) → InRight hash below a b
left_parts hash None a b e = absurd (none-some _ e)
left_parts hash (Some roots) a b e =
    let parts = some_pair_parts (node_hash hash roots.0) a (node_hash hash roots.1) b e in
    record { older = roots.0; newer = roots.1; given = refl; above_older = parts.0; above_newer = parts.1 }

-- ---- the older tree stands in the left part

left_step : (first second part : ℕ) (whole : Bool) (hashes others : List (List ℕ)) (hash root a b : List ℕ) → part ≡ split second
    → first < second → first ≤ part → hashes ≡ others ++ hash ∷ [] → roots_from first second whole hashes root ≡ Some (a, b)
    → InLeft hash (roots_from first part whole others root) a b
left_step first second part whole hashes others hash root a b p h k e given =
    right_parts hash _ a b (given_right first second part whole hashes others hash root p h k e ∙ given)

pub left_some : {C : Type 0} (first second part : ℕ) (whole : Bool) (hashes others : List (List ℕ)) (hash root a b : List ℕ) → part ≡ split second
    → first < second → first ≤ part → hashes ≡ others ++ hash ∷ [] → roots_from first second whole hashes root ≡ Some (a, b)
    → None ≡ roots_from first part whole others root → C
left_some first second part whole hashes others hash root a b p h k e given none =
    absurd (none-some _ (none ∙ (left_step first second part whole hashes others hash root a b p h k e given).given))

pub left_above : (first second part : ℕ) (whole : Bool) (hashes others : List (List ℕ)) (hash root a b older newer : List ℕ) → part ≡ split second
    → first < second → first ≤ part → hashes ≡ others ++ hash ∷ [] → roots_from first second whole hashes root ≡ Some (a, b)
    → Some (older, newer) ≡ roots_from first part whole others root → (older ≡ a) × (node_hash newer hash ≡ b)
left_above first second part whole hashes others hash root a b older newer p h k e given below =
    let step = left_step first second part whole hashes others hash root a b p h k e given in
    let parts = some_pair_parts older a newer step.newer (below ∙ step.given) in
    (parts.0, ap (λ (x : List ℕ). node_hash x hash) parts.1 ∙ step.above)

-- what is below, where its roots are those of the trees below
pub gives_left : (first part n : ℕ) (whole : Bool) (others : List (List ℕ)) (root older newer a w : List ℕ)
    → Some (older, newer) ≡ roots_from first part whole others root → older ≡ a → newer ≡ w → n ≡ part → roots_from first n whole others root ≡ Some (a, w)
gives_left first part n whole others root older newer a w given x y e = rw (e, ← given, x, y)

-- ---- both trees have one left part

right_step : (first second part m n : ℕ) (whole : Bool) (hashes others : List (List ℕ)) (hash root a b : List ℕ) → part ≡ split second
    → first < second → part < first → m + part ≡ first → n + part ≡ second → hashes ≡ others ++ hash ∷ []
    → roots_from first second whole hashes root ≡ Some (a, b) → InRight hash (roots_from m n false others root) a b
right_step first second part m n whole hashes others hash root a b p h k i j e given =
    let x : m ≡ first - part = omega arith in
    let y : n ≡ second - part = omega arith in
    rw (x, y) (left_parts hash _ a b (given_left first second part whole hashes others hash root p h k e ∙ given))

pub right_some : {C : Type 0} (first second part m n : ℕ) (whole : Bool) (hashes others : List (List ℕ)) (hash root a b : List ℕ) → part ≡ split second
    → first < second → part < first → m + part ≡ first → n + part ≡ second → hashes ≡ others ++ hash ∷ []
    → roots_from first second whole hashes root ≡ Some (a, b) → None ≡ roots_from m n false others root → C
right_some first second part m n whole hashes others hash root a b p h k i j e given none =
    absurd (none-some _ (none ∙ (right_step first second part m n whole hashes others hash root a b p h k i j e given).given))

pub right_above : (first second part m n : ℕ) (whole : Bool) (hashes others : List (List ℕ)) (hash root a b older newer : List ℕ) → part ≡ split second
    → first < second → part < first → m + part ≡ first → n + part ≡ second → hashes ≡ others ++ hash ∷ []
    → roots_from first second whole hashes root ≡ Some (a, b) → Some (older, newer) ≡ roots_from m n false others root
    → (node_hash hash older ≡ a) × (node_hash hash newer ≡ b)
right_above first second part m n whole hashes others hash root a b older newer p h k i j e given below =
    let step = right_step first second part m n whole hashes others hash root a b p h k i j e given in
    let parts = some_pair_parts older step.older newer step.newer (below ∙ step.given) in
    (ap (node_hash hash) parts.0 ∙ step.above_older, ap (node_hash hash) parts.1 ∙ step.above_newer)
