-- Laws of the search (TUF specification, section 5.6.7): it goes by one list of what is pending, it makes at most as many visits as are
-- allowed, and it depends on the documents that it reads alone.
use Rattle.std.specs.Prelude.{◌≡◌, ℕ, ◌+◌, ◌≤◌, List, [], ◌∷◌, length, Option, Some, Result, Ok, Err, ⊤}
use Rattle.foundation.specs.Steps.{◌>>=◌}
use Rattle.sigstore_tuf_parts.specs.declared.snapshot.Snapshot.{Snapshot}
use Rattle.sigstore_tuf_parts.specs.declared.targets.Targets.{Targets}
use Rattle.sigstore_tuf_rules.specs.Order.{Visit, Tree, Gap, Walk, visit_of, pending_after, walk_of, search_of}

-- each visit and all below it, in order
abbrev pub walk_all : ℕ → Tree → List Visit → Walk → Result Walk Gap
walk_all depth tree [] w = Ok w
walk_all depth tree (v ∷ vs) w = walk_of depth tree v w >>= λ u. walk_all depth tree vs u

abbrev pub visits_of : Result Walk Gap → Result (List Visit) Gap
visits_of r = r >>= λ w. Ok w.visits

-- as deep as visits are left, the first that is pending may be visited and what follows it put before the others
abbrev pub SearchesByList : Type 0
SearchesByList = (depth : ℕ) (tree : Tree) (v : Visit) (vs : List Visit) (w : Walk) → w.left ≤ depth
    → visits_of (walk_all depth tree (v ∷ vs) w)
    ≡ visits_of (visit_of tree v w >>= λ step. walk_all depth tree (pending_after v step vs) step.walk)

-- as deep as visits are left is deep enough
abbrev pub SearchesDeepEnough : Type 0
SearchesDeepEnough = (more max : ℕ) (tree : Tree) (v : Visit) (w : Walk) → w.left ≤ max
    → walk_of max tree v w ≡ walk_of (max + more) tree v w

-- at most so many visits
abbrev pub MakesAtMost : ℕ → Result (List Visit) Gap → Type 0
MakesAtMost max (Ok visits) = length visits ≤ max
MakesAtMost max (Err e) = ⊤

abbrev pub SearchesBounded : Type 0
SearchesBounded = (tree : Tree) (max : ℕ) → MakesAtMost max (search_of tree max)

-- where both have a document of a name, it is one
abbrev pub Agree : (List ℕ → Option Targets) → (List ℕ → Option Targets) → Type 0
Agree a b = (name : List ℕ) (x y : Targets) → a name ≡ Some x → b name ≡ Some y → x ≡ y

abbrev pub tree_of : (List ℕ → Option Targets) → Snapshot → List ℕ → Tree
tree_of documents snapshot path = record { documents = documents; snapshot = snapshot; path = path }

-- documents that agree give one order
abbrev pub OneOrder : Type 0
OneOrder = (a b : List ℕ → Option Targets) (snapshot : Snapshot) (path : List ℕ) (max : ℕ) (xs ys : List Visit) → Agree a b
    → search_of (tree_of a snapshot path) max ≡ Ok xs → search_of (tree_of b snapshot path) max ≡ Ok ys → xs ≡ ys
