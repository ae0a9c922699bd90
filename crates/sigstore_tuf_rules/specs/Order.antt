-- The search for a target: which roles are visited, in which order (TUF specification, section 5.6: pre-order, depth first).
use Rattle.std.specs.Prelude.{ℕ, zero, suc, ◌-◌, List, [], ◌∷◌, ◌++◌, Bool, true, false, ◌||◌, ◌==◌, if◌then◌else◌, map}
use Rattle.std.specs.Prelude.{Option, Some, None, is_some, ok_or, Result, Ok, Err, codes}
use Rattle.std.specs.Result.{result_ok}
use Rattle.sigstore_types_parts.specs.Entries.{at_name}
use Rattle.sigstore_tuf_parts.specs.declared.snapshot.Snapshot.{Snapshot}
use Rattle.sigstore_tuf_parts.specs.declared.targets.DelegatedRole.{DelegatedRole}
use Rattle.sigstore_tuf_parts.specs.declared.targets.Delegations.{Delegations}
use Rattle.sigstore_tuf_parts.specs.declared.targets.Targets.{Targets}
use Rattle.sigstore_tuf_parts.specs.Threshold.{is_among}
use Rattle.foundation.specs.Steps.{◌>>=◌}
pub use Rattle.sigstore_tuf_rules.specs.declared.visit.Visit.{Visit}
pub use Rattle.sigstore_tuf_rules.specs.declared.visit.Walk.{Walk}
pub use Rattle.sigstore_tuf_rules.specs.declared.visit.Next.{Next}
use Rattle.sigstore_tuf_text.specs.Names.{pin_name}
use Rattle.sigstore_tuf_parts.specs.Delegation.{matches_path_of}

-- what the search goes over: the document of each name, the pins, and the path that is sought
pub record Tree : Type 0 where
  pub documents : List ℕ → Option Targets
  pub snapshot : Snapshot
  pub path : List ℕ

-- why there is no order: a pattern that was read is malformed, or a pinned name has no document
pub data Gap : Type 0 where
  pattern : Gap
  missing : List ℕ → Gap

-- the whole search ends
abbrev pub ended : Walk → Walk
ended w = record w { left = 0 }

-- with one more visit
abbrev pub visited : Visit → Walk → Walk
visited v w = record w { visits = w.visits ++ v ∷ []; left = w.left - 1 }

-- with one more name read
abbrev pub having_read : List ℕ → Walk → Walk
having_read name w = record w { read = w.read ++ name ∷ [] }

abbrev pub is_top_level : List ℕ → Bool
is_top_level name = is_among (codes "root" ∷ codes "timestamp" ∷ codes "snapshot" ∷ codes "targets" ∷ []) name

abbrev pub is_pinned : Snapshot → List ℕ → Bool
is_pinned snapshot name = is_some (at_name (pin_name name) snapshot.meta)

-- the document lists the path
abbrev pub lists : Targets → List ℕ → Bool
lists doc path = is_some (at_name path doc.targets)

-- ---- what follows a document

abbrev pub nothing_next : Next
nothing_next = record { names = []; ends = false }

abbrev pub with_name : List ℕ → Next → Next
with_name name next = record next { names = name ∷ next.names }

abbrev pub pattern_or : {T E : Type 0} → Result T E → Result T Gap
pattern_or (Ok x) = Ok x
pattern_or (Err e) = Err pattern

-- The delegations that match the path, in order, up to the first terminating one. Those of a top-level name are left out.
abbrev pub matching : List ℕ → List DelegatedRole → Result Next Gap
matching path [] = Ok nothing_next
matching path (d ∷ later) =
    if is_top_level d.name then matching path later
    else pattern_or (matches_path_of d path) >>= λ found.
    (if found then (if d.terminating then Ok (record { names = d.name ∷ []; ends = true })
    else (matching path later >>= λ next. Ok (with_name d.name next)))
    else matching path later)

abbrev pub delegated_in : Option Delegations → List DelegatedRole
delegated_in None = []
delegated_in (Some d) = d.roles

-- ---- one visit

-- the search after a visit, and what is walked next
pub record Step : Type 0 where
  pub walk : Walk
  pub next : Next

abbrev pub still : Walk → Step
still w = record { walk = w; next = nothing_next }

-- a document that lists the path ends the search; another is followed by its matching delegations
abbrev pub read_of : Tree → Targets → Walk → Result Step Gap
read_of tree doc w =
    if lists doc tree.path then Ok (still (ended w))
    else matching tree.path (delegated_in doc.delegations) >>= λ next. Ok (record { walk = w; next = next })

-- the document of a name, which is then read
abbrev pub read_named : Tree → List ℕ → Walk → Result Step Gap
read_named tree name w = ok_or (tree.documents name) (missing name) >>= λ doc. read_of tree doc (having_read name w)

-- Nothing is visited after the end, nor a name that was read. A name that isn't pinned is visited and not read.
-- A pinned one is visited and its document read.
abbrev pub visit_of : Tree → Visit → Walk → Result Step Gap
visit_of tree v w =
    if (w.left == 0) || is_among w.read v.name then Ok (still w)
    else if is_pinned tree.snapshot v.name
    then read_named tree v.name (visited v w)
    else Ok (still (visited v w))

-- ---- what is pending

-- a visit of that name
abbrev pub by : List ℕ → List ℕ → Visit
by delegator name = record { name = name; delegator = delegator }

-- what follows a document, before the others, which a terminating match drops
abbrev pub put_before : List ℕ → Next → List Visit → List Visit
put_before delegator next vs = map (by delegator) next.names ++ (if next.ends then [] else vs)

-- what is pending after a visit
abbrev pub pending_after : Visit → Step → List Visit → List Visit
pending_after v step vs = put_before v.name step.next vs

-- the first that is pending and wasn't read, with those behind it
abbrev pub unread_of : List (List ℕ) → List Visit → Option (Visit × List Visit)
unread_of read [] = None
unread_of read (v ∷ vs) = if is_among read v.name then unread_of read vs else Some (v, vs)

-- ---- the whole search

-- each of these names in order, delegated by one role
abbrev pub walk_each : (Visit → Walk → Result Walk Gap) → List ℕ → List (List ℕ) → Walk → Result Walk Gap
walk_each walk delegator [] w = Ok w
walk_each walk delegator (name ∷ names) w =
    walk (record { name = name; delegator = delegator }) w >>= λ w'. walk_each walk delegator names w'

abbrev pub ended_if : Bool → Walk → Walk
ended_if true w = ended w
ended_if false w = w

-- A role and all below it, so many deep: each level makes a visit, so that as deep as visits are left is deep enough.
unfoldable pub walk_of : ℕ → Tree → Visit → Walk → Result Walk Gap
walk_of zero tree v w = Ok w
walk_of (suc depth) tree v w = do
  step ← visit_of tree v w
  w' ← walk_each (walk_of depth tree) v.name step.next.names step.walk
  Ok (ended_if step.next.ends w')

-- from `targets`, which the root delegates
abbrev pub first_visit : Visit
first_visit = record { name = codes "targets"; delegator = codes "root" }

abbrev pub first_walk : ℕ → Walk
first_walk max = record { visits = []; read = []; left = max }

unfoldable pub search_of : Tree → ℕ → Result (List Visit) Gap
search_of tree max = walk_of max tree first_visit (first_walk max) >>= λ w. Ok w.visits

-- the visits, or none
abbrev pub order : (List ℕ → Option Targets) → Snapshot → List ℕ → ℕ → Option (List Visit)
order documents snapshot path max = result_ok (search_of (record { documents = documents; snapshot = snapshot; path = path }) max)
