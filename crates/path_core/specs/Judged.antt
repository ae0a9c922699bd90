-- What is kept of the judgements that were made.
use Rattle.std.specs.Prelude.{◌≡◌, ℕ, ◌+◌, ◌-◌, ◌*◌, ◌^◌, ◌<◌, ◌≤◌, min, All, IfSome, length}
use Rattle.std.specs.Ordering.{nat_cmp}
use Rattle.std.specs.BTreeMap.{get, keys, btree_map_len, ContainsKey, IsOrdered}
use Rattle.sigstore_keys.specs.Good.{Judge}
use Rattle.path_core.specs.declared.judgements.Judgements.{Judgements}
use Rattle.path_core.specs.Counts.{width_of, place_of, under}
use Rattle.path_core.specs.Paths.{Setting}
use Rattle.path_core.specs.Search.{judgement}

-- each judgement that is kept is right and stands at the place of its pair
pub record AreRight (w : Setting) (j : Judgements) : Type 0 where
  pub right : (s t : ℕ) → s ≤ length w.intermediates → t < width_of w
      → IfSome (get nat_cmp j.judged (place_of w s t)) (λ good. good ≡ judgement w s t)
  pub within : All (λ k. k < (length w.intermediates + 1) * width_of w) (keys j.judged)
  pub ordered : IsOrdered nat_cmp j.judged
  pub fits : j.steps ≤ 2 ^ 128 - 1

-- what is kept stays, and stays right; the count rises by one for each pair that is kept in addition
pub record Keeps (w : Setting) (old new : Judgements) : Type 0 where
  pub right : AreRight w new
  pub holds : (k : ℕ) → ContainsKey nat_cmp old.judged k → ContainsKey nat_cmp new.judged k
  pub more : btree_map_len old.judged ≤ btree_map_len new.judged
  pub counted : new.steps ≡ min (old.steps + (btree_map_len new.judged - btree_map_len old.judged)) (2 ^ 128 - 1)

-- another judge of signatures says the same of each pair that is kept
pub record Agrees (w : Setting) (j : Judgements) (judge : Judge) : Type 0 where
  pub same : (s t : ℕ) → s ≤ length w.intermediates → t < width_of w → ContainsKey nat_cmp j.judged (place_of w s t)
      → judgement (under w judge) s t ≡ judgement w s t

-- what is judged of the pairs that are kept decides it: it holds under each judge of signatures who says the same of them
abbrev pub Decides : Setting → Judgements → (Setting → Type 0) → Type 0
Decides w j Holds = (judge : Judge) → Agrees w j judge → Holds (under w judge)
