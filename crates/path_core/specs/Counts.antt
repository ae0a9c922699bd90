-- What the count of judgements counts.
use Rattle.std.specs.Prelude.{◌≡◌, ◌≢◌, ℕ, ◌+◌, ◌-◌, ◌*◌, ◌^◌, ◌<◌, ◌≤◌, min, List, All, length, Result, Ok, Err}
use Rattle.std.specs.List.{Contains}
use Rattle.std.specs.List.Sorted.{IsStrictlyIncreasing}
use Rattle.sigstore_keys.specs.Good.{Judge}
use Rattle.path_core.specs.declared.error.PathError.{PathError}
use Rattle.path_core.specs.declared.error.PathError.TheVariants.{NoMemory}
use Rattle.path_core.specs.declared.route.FoundPath.{FoundPath}
use Rattle.path_core.specs.Path.{path_of}
use Rattle.path_core.specs.Paths.{Setting}
use Rattle.path_core.specs.Search.{judgement}

-- how many targets there are: intermediates and anchors
abbrev pub width_of : Setting → ℕ
width_of w = length w.intermediates + length w.anchors

-- the place of a pair, which no other pair has: a source is an intermediate or the leaf
abbrev pub place_of : Setting → ℕ → ℕ → ℕ
place_of w source target = source * width_of w + target

-- the same certificates under another judge of signatures
abbrev pub under : Setting → Judge → Setting
under w judge = record {
  accepts = judge;
  purpose = w.purpose;
  at = w.at;
  leaf = w.leaf;
  intermediates = w.intermediates;
  anchors = w.anchors;
}

-- the other judge says the same of each pair at these places
abbrev pub AgreesAt : Setting → Judge → List ℕ → Type 0
AgreesAt w judge places =
    (source target : ℕ) → source ≤ length w.intermediates → target < width_of w → Contains places (place_of w source target)
    → judgement (under w judge) source target ≡ judgement w source target

-- the answer is the definition's, want of memory aside
abbrev pub IsAnswer : Result FoundPath PathError → Setting → Type 0
IsAnswer (Ok p) w = path_of w ≡ Ok p
IsAnswer (Err e) w = e ≢ NoMemory → path_of w ≡ Err e

-- the count rose by one for each of these pairs, none of which comes twice, and nothing but what is judged of them decides the
-- answer: it is the same under every judge of signatures who says the same of them
pub record Counts (w : Setting) (old new : ℕ) (answer : Result FoundPath PathError) : Type 0 where
  pub places : List ℕ
  pub within : All (λ place. place < (length w.intermediates + 1) * width_of w) places
  pub once : IsStrictlyIncreasing places
  pub risen : new ≡ min (old + length places) (2 ^ 128 - 1)
  pub decide : (judge : Judge) → AgreesAt w judge places → IsAnswer answer (under w judge)
