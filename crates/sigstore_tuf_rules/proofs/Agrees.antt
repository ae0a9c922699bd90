-- Documents that agree, where both are there, give one order.
use Rattle.std.proofs.Common.{◌≡◌, ℕ, zero, suc, List, [], ◌∷◌, Bool, true, false, ◌||◌, ◌==◌, if◌then◌else◌, Option, Some, None, ok_or, Result, Ok, Err, refl, ap, ◌∙◌, subst}
use Rattle.sigstore_tuf_parts.specs.declared.snapshot.Snapshot.{Snapshot}
use Rattle.sigstore_tuf_parts.specs.declared.targets.Targets.{Targets}
use Rattle.sigstore_tuf_parts.specs.Threshold.{is_among}
use Rattle.foundation.specs.Steps.{◌>>=◌}
use Rattle.sigstore_tuf_rules.specs.Order.{Visit, Gap, missing, Walk, visited, having_read, is_pinned, Step, still, read_of, visit_of, walk_each, ended_if, walk_of, search_of, first_visit, first_walk}
use Rattle.sigstore_tuf_rules.specs.SearchLaws.{Agree, tree_of}

step : {A B : Type 0} (r : Result A Gap) (f : A → Result B Gap) (y : B) → (r >>= f) ≡ Ok y → (x : A) × (r ≡ Ok x) × (f x ≡ Ok y)
step (Ok x) f y h = (x, refl, h)
step (Err e) f y h = cc

one_answer : {A : Type 0} (r : Result A Gap) (x y : A) → r ≡ Ok x → r ≡ Ok y → x ≡ y
one_answer r x y p q = cc

-- the same of two walks
abbrev Alike : (Visit → Walk → Result Walk Gap) → (Visit → Walk → Result Walk Gap) → Type 0
Alike walk walk' = (v : Visit) (w x y : Walk) → walk v w ≡ Ok x → walk' v w ≡ Ok y → x ≡ y

module _ (a b : List ℕ → Option Targets) (snapshot : Snapshot) (path : List ℕ) (agree : Agree a b) where
  document_alike : (v : Visit) (w : Walk) (o p : Option Targets) → a v.name ≡ o → b v.name ≡ p → (s t : Step) → (ok_or o (missing v.name) >>= λ doc. read_of (tree_of a snapshot path) doc (having_read v.name (visited v w))) ≡ Ok s
      → (ok_or p (missing v.name) >>= λ doc. read_of (tree_of b snapshot path) doc (having_read v.name (visited v w))) ≡ Ok t → s ≡ t
  document_alike v w None p i j s t h k = cc
  document_alike v w (Some x) None i j s t h k = cc
  document_alike v w (Some x) (Some y) i j s t h k =
      one_answer (read_of (tree_of a snapshot path) x (having_read v.name (visited v w))) s t h (ap (λ d. read_of (tree_of a snapshot path) d (having_read v.name (visited v w))) (agree v.name x y i j) ∙ k)

  pinned_alike : (v : Visit) (w : Walk) (c : Bool) (s t : Step)
      → (if c then (ok_or (a v.name) (missing v.name) >>= λ doc. read_of (tree_of a snapshot path) doc (having_read v.name (visited v w))) else Ok (still (visited v w))) ≡ Ok s
      → (if c then (ok_or (b v.name) (missing v.name) >>= λ doc. read_of (tree_of b snapshot path) doc (having_read v.name (visited v w))) else Ok (still (visited v w))) ≡ Ok t → s ≡ t
  pinned_alike v w true s t h k = document_alike v w (a v.name) (b v.name) refl refl s t h k
  pinned_alike v w false s t h k = cc

  done_alike : (v : Visit) (w : Walk) (c : Bool) (s t : Step)
      → (if c then Ok (still w) else (if is_pinned snapshot v.name then (ok_or (a v.name) (missing v.name) >>= λ doc. read_of (tree_of a snapshot path) doc (having_read v.name (visited v w))) else Ok (still (visited v w)))) ≡ Ok s
      → (if c then Ok (still w) else (if is_pinned snapshot v.name then (ok_or (b v.name) (missing v.name) >>= λ doc. read_of (tree_of b snapshot path) doc (having_read v.name (visited v w))) else Ok (still (visited v w)))) ≡ Ok t → s ≡ t
  done_alike v w true s t h k = cc
  done_alike v w false s t h k = pinned_alike v w (is_pinned snapshot v.name) s t h k

  visit_alike : (v : Visit) (w : Walk) (s t : Step) → visit_of (tree_of a snapshot path) v w ≡ Ok s → visit_of (tree_of b snapshot path) v w ≡ Ok t → s ≡ t
  visit_alike v w s t h k = done_alike v w ((w.left == 0) || is_among w.read v.name) s t h k

each_alike : (walk walk' : Visit → Walk → Result Walk Gap) → Alike walk walk' → (delegator : List ℕ) (names : List (List ℕ)) (w x y : Walk) → walk_each walk delegator names w ≡ Ok x → walk_each walk' delegator names w ≡ Ok y → x ≡ y
each_alike walk walk' alike delegator [] w x y h k = cc
each_alike walk walk' alike delegator (name ∷ names) w x y h k =
    let v : Visit = record { name = name; delegator = delegator } in
    let one = step (walk v w) (λ u. walk_each walk delegator names u) x h in
    let two = step (walk' v w) (λ u. walk_each walk' delegator names u) y k in
    let same = alike v w one.0 two.0 one.1 two.1 in
    each_alike walk walk' alike delegator names two.0 x y (subst (λ u. walk_each walk delegator names u ≡ Ok x) same one.2) two.2

-- what follows a step
after : (Visit → Walk → Result Walk Gap) → Visit → Step → Result Walk Gap
after walk v s = walk_each walk v.name s.next.names s.walk >>= λ u. Ok (ended_if s.next.ends u)

after_alike : (walk walk' : Visit → Walk → Result Walk Gap) → Alike walk walk' → (v : Visit) (s : Step) (x y : Walk) → after walk v s ≡ Ok x → after walk' v s ≡ Ok y → x ≡ y
unfolding after
after_alike walk walk' alike v s x y h k =
    let one = step (walk_each walk v.name s.next.names s.walk) (λ u. Ok (ended_if s.next.ends u)) x h in
    let two = step (walk_each walk' v.name s.next.names s.walk) (λ u. Ok (ended_if s.next.ends u)) y k in
    let same = each_alike walk walk' alike v.name s.next.names s.walk one.0 two.0 one.1 two.1 in
    one_answer (Ok (ended_if s.next.ends two.0)) x y (subst (λ u. ◌≡◌ {A = Result Walk Gap} (Ok (ended_if s.next.ends u)) (Ok x)) same one.2) two.2

walk_alike : (a b : List ℕ → Option Targets) (snapshot : Snapshot) (path : List ℕ) → Agree a b → (depth : ℕ) → Alike (walk_of depth (tree_of a snapshot path)) (walk_of depth (tree_of b snapshot path))
unfolding walk_of after
walk_alike a b snapshot path agree zero v w x y h k = cc
walk_alike a b snapshot path agree (suc depth) v w x y h k =
    let one = step (visit_of (tree_of a snapshot path) v w) (after (walk_of depth (tree_of a snapshot path)) v) x h in
    let two = step (visit_of (tree_of b snapshot path) v w) (after (walk_of depth (tree_of b snapshot path)) v) y k in
    let same = visit_alike a b snapshot path agree v w one.0 two.0 one.1 two.1 in
    after_alike (walk_of depth (tree_of a snapshot path)) (walk_of depth (tree_of b snapshot path)) (walk_alike a b snapshot path agree depth) v two.0 x y
    (subst (λ s. after (walk_of depth (tree_of a snapshot path)) v s ≡ Ok x) same one.2) two.2

pub one_order : (a b : List ℕ → Option Targets) (snapshot : Snapshot) (path : List ℕ) (max : ℕ) (xs ys : List Visit) → Agree a b → search_of (tree_of a snapshot path) max ≡ Ok xs → search_of (tree_of b snapshot path) max ≡ Ok ys → xs ≡ ys
unfolding search_of
one_order a b snapshot path max xs ys agree h k =
    let one = step (walk_of max (tree_of a snapshot path) first_visit (first_walk max)) (λ w. Ok w.visits) xs h in
    let two = step (walk_of max (tree_of b snapshot path) first_visit (first_walk max)) (λ w. Ok w.visits) ys k in
    let same = walk_alike a b snapshot path agree max first_visit (first_walk max) one.0 two.0 one.1 two.1 in
    one_answer (Ok (two.0).visits) xs ys (subst (λ (w : Walk). ◌≡◌ {A = Result (List Visit) Gap} (Ok w.visits) (Ok xs)) same one.2) two.2
