-- A search is as deep as it has visits left: what is deeper changes nothing, and it makes no more visits than it has left.
use Rattle.std.proofs.Common.{◌≡◌, ℕ, zero, suc, ◌+◌, ◌<◌, ◌≤◌, List, [], ◌∷◌, ◌++◌, map, length, length-append, Bool, true, false, ◌||◌, ◌==◌, if◌then◌else◌, Option, Some, None, ok_or, Result, Ok, Err, ◌⊎◌, inl, inr, refl, sym, ap, ◌∙◌, subst, arith, le_refl, le_trans}
use Rattle.std.proofs.lemmas.Bool.Decides.{nat_tests}
use Rattle.sigstore_tuf_parts.specs.declared.targets.Targets.{Targets}
use Rattle.sigstore_tuf_parts.specs.Threshold.{is_among}
use Rattle.foundation.specs.Steps.{◌>>=◌}
use Rattle.sigstore_tuf_rules.specs.Order.{Visit, Tree, Gap, missing, Walk, by, pending_after, ended, visited, having_read, is_pinned, lists, Next, matching, delegated_in, Step, still, read_of, visit_of, walk_each, ended_if, walk_of, search_of, first_visit, first_walk}
use Rattle.sigstore_tuf_rules.specs.SearchLaws.{walk_all, visits_of, MakesAtMost}

-- the visits made and those left are no more than before
abbrev pub Total : Walk → ℕ
Total w = length w.visits + w.left

-- no more is left than before, nor in all
pub record Falls (old new : Walk) : Type 0 where
  pub left : new.left ≤ old.left
  pub total : Total new ≤ Total old

stays : (w : Walk) → Falls w w
stays w = record { left = le_refl w.left; total = le_refl (Total w) }

goes_on : {a b c : Walk} → Falls a b → Falls b c → Falls a c
goes_on p q = record { left = le_trans q.left p.left; total = le_trans q.total p.total }

ends : (w : Walk) → Falls w (ended w)
ends w = record { left = omega arith; total = omega arith }

-- ---- one visit

-- nothing is next, or a visit was made
pub record Steps (w : Walk) (s : Step) : Type 0 where
  pub falls : Falls w s.walk
  pub spent : (s.next.names ≡ []) ⊎ (s.walk.left < w.left)

abbrev pub IfStep : Walk → Result Step Gap → Type 0
IfStep w (Ok s) = Steps w s
IfStep w (Err e) = Unit {0}

still_steps : (w : Walk) → Steps w (still w)
still_steps w = record { falls = stays w; spent = inl refl }

visited_falls : (v : Visit) (w : Walk) → 0 < w.left → Falls w (visited v w)
visited_falls v w h =
    let more = length-append w.visits (v ∷ []) in
    record { left = omega arith; total = omega arith }

next_steps : (w : Walk) (u : Walk) (r : Result Next Gap) → Falls w u → u.left < w.left → IfStep w (r >>= λ next. Ok (record { walk = u; next = next }))
next_steps w u (Ok next) f h = record { falls = f; spent = inr h }
next_steps w u (Err e) f h = tt

read_steps : (tree : Tree) (doc : Targets) (w u : Walk) (b : Bool) → Falls w u → u.left < w.left
    → IfStep w (if b then Ok (still (ended u)) else matching tree.path (delegated_in doc.delegations) >>= λ next. Ok (record { walk = u; next = next }))
read_steps tree doc w u true f h = record { falls = goes_on f (ends u); spent = inl refl }
read_steps tree doc w u false f h = next_steps w u (matching tree.path (delegated_in doc.delegations)) f h

document_steps : (tree : Tree) (v : Visit) (w : Walk) (o : Option Targets) → 0 < w.left → IfStep w (ok_or o (missing v.name) >>= λ doc. read_of tree doc (having_read v.name (visited v w)))
document_steps tree v w None h = tt
document_steps tree v w (Some doc) h =
    let f = visited_falls v w h in
    read_steps tree doc w (having_read v.name (visited v w)) (lists doc tree.path) (record { left = f.left; total = f.total }) (omega arith)

pinned_steps : (tree : Tree) (v : Visit) (w : Walk) (b : Bool) → 0 < w.left
    → IfStep w (if b then (ok_or (tree.documents v.name) (missing v.name) >>= λ doc. read_of tree doc (having_read v.name (visited v w))) else Ok (still (visited v w)))
pinned_steps tree v w true h = document_steps tree v w (tree.documents v.name) h
pinned_steps tree v w false h = record { falls = visited_falls v w h; spent = inl refl }

or_false : (a b : Bool) → (a || b) ≡ false → a ≡ false
or_false false b h = refl
or_false true b h = cc

left_over : (n : ℕ) → (n == 0) ≡ false → 0 < n
left_over n h = grind (arith, nat_tests)

done_steps : (tree : Tree) (v : Visit) (w : Walk) (b : Bool) → ((w.left == 0) || is_among w.read v.name) ≡ b
    → IfStep w (if b then Ok (still w) else (if is_pinned tree.snapshot v.name then (ok_or (tree.documents v.name) (missing v.name) >>= λ doc. read_of tree doc (having_read v.name (visited v w))) else Ok (still (visited v w))))
done_steps tree v w true e = still_steps w
done_steps tree v w false e = pinned_steps tree v w (is_pinned tree.snapshot v.name) (left_over w.left (or_false (w.left == 0) (is_among w.read v.name) e))

pub visit_steps : (tree : Tree) (v : Visit) (w : Walk) → IfStep w (visit_of tree v w)
visit_steps tree v w = done_steps tree v w ((w.left == 0) || is_among w.read v.name) refl

-- ---- the whole search

abbrev IfFalls : Walk → Result Walk Gap → Type 0
IfFalls w (Ok u) = Falls w u
IfFalls w (Err e) = Unit {0}

falls_further : (w u : Walk) (r : Result Walk Gap) → Falls w u → IfFalls u r → IfFalls w r
falls_further w u (Ok x) f g = goes_on f g
falls_further w u (Err e) f g = tt

then_falls : (w : Walk) (r : Result Walk Gap) (next : Walk → Result Walk Gap) → IfFalls w r → ((u : Walk) → IfFalls u (next u)) → IfFalls w (r >>= next)
then_falls w (Ok u) next f g = falls_further w u (next u) f (g u)
then_falls w (Err e) next f g = tt

each_falls : (walk : Visit → Walk → Result Walk Gap) → ((v : Visit) (w : Walk) → IfFalls w (walk v w)) → (delegator : List ℕ) (names : List (List ℕ)) (w : Walk) → IfFalls w (walk_each walk delegator names w)
each_falls walk f delegator [] w = stays w
each_falls walk f delegator (name ∷ names) w =
    then_falls w (walk (record { name = name; delegator = delegator }) w) (λ u. walk_each walk delegator names u) (f (record { name = name; delegator = delegator }) w) (λ u. each_falls walk f delegator names u)

ended_if_falls : (b : Bool) (w : Walk) → Falls w (ended_if b w)
ended_if_falls true w = ends w
ended_if_falls false w = stays w

step_falls : (walk : Visit → Walk → Result Walk Gap) → ((v : Visit) (w : Walk) → IfFalls w (walk v w)) → (v : Visit) (w : Walk) (r : Result Step Gap) → IfStep w r
    → IfFalls w (r >>= λ step. (walk_each walk v.name step.next.names step.walk >>= λ u. Ok (ended_if step.next.ends u)))
step_falls walk f v w (Err e) s = tt
step_falls walk f v w (Ok step) s =
    falls_further w step.walk (walk_each walk v.name step.next.names step.walk >>= λ u. Ok (ended_if step.next.ends u)) s.falls
    (then_falls step.walk (walk_each walk v.name step.next.names step.walk) (λ u. Ok (ended_if step.next.ends u)) (each_falls walk f v.name step.next.names step.walk) (λ u. ended_if_falls step.next.ends u))

walk_falls : (depth : ℕ) (tree : Tree) (v : Visit) (w : Walk) → IfFalls w (walk_of depth tree v w)
unfolding walk_of
walk_falls zero tree v w = stays w
walk_falls (suc depth) tree v w = step_falls (walk_of depth tree) (walk_falls depth tree) v w (visit_of tree v w) (visit_steps tree v w)

-- ---- deep enough

-- as deep as visits are left, and one deeper, is the same
abbrev Same : (Visit → Walk → Result Walk Gap) → (Visit → Walk → Result Walk Gap) → ℕ → Type 0
Same walk walk' n = (v : Visit) (w : Walk) → w.left ≤ n → walk v w ≡ walk' v w

then_same : (n : ℕ) (w : Walk) (r : Result Walk Gap) (next next' : Walk → Result Walk Gap) → IfFalls w r → w.left ≤ n → ((u : Walk) → u.left ≤ n → next u ≡ next' u) → (r >>= next) ≡ (r >>= next')
then_same n w (Ok u) next next' f h s = s u (le_trans f.left h)
then_same n w (Err e) next next' f h s = refl

each_same : (walk walk' : Visit → Walk → Result Walk Gap) (n : ℕ) → ((v : Visit) (w : Walk) → IfFalls w (walk v w)) → Same walk walk' n
    → (delegator : List ℕ) (names : List (List ℕ)) (w : Walk) → w.left ≤ n → walk_each walk delegator names w ≡ walk_each walk' delegator names w
each_same walk walk' n f s delegator [] w h = refl
each_same walk walk' n f s delegator (name ∷ names) w h =
    let v : Visit = record { name = name; delegator = delegator } in
    then_same n w (walk v w) (λ u. walk_each walk delegator names u) (λ u. walk_each walk' delegator names u) (f v w) h (λ u k. each_same walk walk' n f s delegator names u k)
    ∙ ap (λ r. r >>= λ u. walk_each walk' delegator names u) (s v w h)

spent_same : (walk walk' : Visit → Walk → Result Walk Gap) (n : ℕ) → ((v : Visit) (w : Walk) → IfFalls w (walk v w)) → Same walk walk' n → (delegator : List ℕ) (names : List (List ℕ)) (w u : Walk)
    → (names ≡ []) ⊎ (u.left < w.left) → w.left ≤ n + 1 → walk_each walk delegator names u ≡ walk_each walk' delegator names u
spent_same walk walk' n f s delegator names w u (inl e) h = subst (λ ns. walk_each walk delegator ns u ≡ walk_each walk' delegator ns u) (sym e) refl
spent_same walk walk' n f s delegator names w u (inr k) h = each_same walk walk' n f s delegator names u (omega arith)

step_same : (walk walk' : Visit → Walk → Result Walk Gap) (n : ℕ) → ((v : Visit) (w : Walk) → IfFalls w (walk v w)) → Same walk walk' n → (v : Visit) (w : Walk) → w.left ≤ n + 1 → (r : Result Step Gap) → IfStep w r
    → (r >>= λ step. (walk_each walk v.name step.next.names step.walk >>= λ u. Ok (ended_if step.next.ends u))) ≡ (r >>= λ step. (walk_each walk' v.name step.next.names step.walk >>= λ u. Ok (ended_if step.next.ends u)))
step_same walk walk' n f s v w h (Err e) k = refl
step_same walk walk' n f s v w h (Ok step) k = ap (λ r. r >>= λ u. Ok (ended_if step.next.ends u)) (spent_same walk walk' n f s v.name step.next.names w step.walk k.spent h)

none_left : (tree : Tree) (v : Visit) (w : Walk) → w.left ≤ 0 → visit_of tree v w ≡ Ok (still w)
none_left tree v w h =
    let is : (w.left == 0) ≡ true = grind (arith, nat_tests) in
    rw is

deep_enough : (depth : ℕ) (tree : Tree) → Same (walk_of depth tree) (walk_of (suc depth) tree) depth
unfolding walk_of
deep_enough zero tree v w h = rw (none_left tree v w h)
deep_enough (suc depth) tree v w h = step_same (walk_of depth tree) (walk_of (suc depth) tree) depth (walk_falls depth tree) (deep_enough depth tree) v w (omega arith) (visit_of tree v w) (visit_steps tree v w)

-- a search of so many visits may go deeper by any number
pub deeper : (more max : ℕ) (tree : Tree) (v : Visit) (w : Walk) → w.left ≤ max → walk_of max tree v w ≡ walk_of (max + more) tree v w
deeper zero max tree v w h = ap (λ d. walk_of d tree v w) (omega arith)
deeper (suc more) max tree v w h =
    deeper more max tree v w h ∙ deep_enough (max + more) tree v w (omega arith) ∙ ap (λ d. walk_of d tree v w) (omega arith)

within : (max : ℕ) (r : Result Walk Gap) → IfFalls (first_walk max) r → MakesAtMost max (r >>= λ w. Ok w.visits)
within max (Ok w) f = let total = f.total in omega arith
within max (Err e) f = tt

pub at_most_max : (tree : Tree) (max : ℕ) → MakesAtMost max (search_of tree max)
unfolding search_of
at_most_max tree max = within max (walk_of max tree first_visit (first_walk max)) (walk_falls max tree first_visit (first_walk max))

-- ---- by one list of what is pending

nothing_walked : (depth : ℕ) (tree : Tree) (v : Visit) (w : Walk) → w.left ≤ 0 → walk_of depth tree v w ≡ Ok w
unfolding walk_of
nothing_walked zero tree v w h = refl
nothing_walked (suc depth) tree v w h = rw (none_left tree v w h)

nothing_left : (depth : ℕ) (tree : Tree) (vs : List Visit) (w : Walk) → w.left ≤ 0 → walk_all depth tree vs w ≡ Ok w
nothing_left depth tree [] w h = refl
nothing_left depth tree (v ∷ vs) w h = ap (λ r. r >>= λ u. walk_all depth tree vs u) (nothing_walked depth tree v w h) ∙ nothing_left depth tree vs w h

bind_assoc : {A B C : Type 0} (r : Result A Gap) (f : A → Result B Gap) (g : B → Result C Gap) → ((r >>= f) >>= g) ≡ (r >>= λ x. (f x >>= g))
bind_assoc (Ok x) f g = refl
bind_assoc (Err e) f g = refl

bind_same : {A B : Type 0} (r : Result A Gap) (f g : A → Result B Gap) → ((x : A) → f x ≡ g x) → (r >>= f) ≡ (r >>= g)
bind_same (Ok x) f g h = h x
bind_same (Err e) f g h = refl

all_of_each : (depth : ℕ) (tree : Tree) (delegator : List ℕ) (names : List (List ℕ)) (rest : List Visit) (w : Walk)
    → walk_all depth tree (map (by delegator) names ++ rest) w ≡ (walk_each (walk_of depth tree) delegator names w >>= λ u. walk_all depth tree rest u)
all_of_each depth tree delegator [] rest w = refl
all_of_each depth tree delegator (name ∷ names) rest w =
    bind_same (walk_of depth tree (by delegator name) w) (λ u. walk_all depth tree (map (by delegator) names ++ rest) u) (λ u. (walk_each (walk_of depth tree) delegator names u >>= λ x. walk_all depth tree rest x))
    (λ u. all_of_each depth tree delegator names rest u)
    ∙ sym (bind_assoc (walk_of depth tree (by delegator name) w) (λ u. walk_each (walk_of depth tree) delegator names u) (λ x. walk_all depth tree rest x))

-- what follows a visit, where the names below it were walked
after_each : (depth : ℕ) (tree : Tree) (delegator : List ℕ) (names : List (List ℕ)) (vs : List Visit) (u : Walk) (b : Bool) (r : Result Walk Gap) → walk_each (walk_of depth tree) delegator names u ≡ r
    → visits_of ((r >>= λ x. Ok (ended_if b x)) >>= λ x. walk_all depth tree vs x) ≡ visits_of (walk_all depth tree (map (by delegator) names ++ (if b then [] else vs)) u)
after_each depth tree delegator names vs u true (Ok x) e =
    ap visits_of (nothing_left depth tree vs (ended x) (le_refl 0)) ∙ sym (ap visits_of (all_of_each depth tree delegator names [] u ∙ ap (λ r. r >>= λ y. walk_all depth tree [] y) e))
after_each depth tree delegator names vs u false (Ok x) e = sym (ap visits_of (all_of_each depth tree delegator names vs u ∙ ap (λ r. r >>= λ y. walk_all depth tree vs y) e))
after_each depth tree delegator names vs u true (Err x) e = sym (ap visits_of (all_of_each depth tree delegator names [] u ∙ ap (λ r. r >>= λ y. walk_all depth tree [] y) e))
after_each depth tree delegator names vs u false (Err x) e = sym (ap visits_of (all_of_each depth tree delegator names vs u ∙ ap (λ r. r >>= λ y. walk_all depth tree vs y) e))

one_step : (depth : ℕ) (tree : Tree) (v : Visit) (vs : List Visit) (w : Walk) → w.left ≤ suc depth → (r : Result Step Gap) → IfStep w r
    → visits_of ((r >>= λ step. (walk_each (walk_of depth tree) v.name step.next.names step.walk >>= λ u. Ok (ended_if step.next.ends u))) >>= λ u. walk_all (suc depth) tree vs u)
    ≡ visits_of (r >>= λ step. walk_all (suc depth) tree (pending_after v step vs) step.walk)
one_step depth tree v vs w h (Err e) s = refl
one_step depth tree v vs w h (Ok step) s =
    ap (λ r. visits_of ((r >>= λ u. Ok (ended_if step.next.ends u)) >>= λ u. walk_all (suc depth) tree vs u))
    (spent_same (walk_of depth tree) (walk_of (suc depth) tree) depth (walk_falls depth tree) (deep_enough depth tree) v.name step.next.names w step.walk s.spent (omega arith))
    ∙ after_each (suc depth) tree v.name step.next.names vs step.walk step.next.ends (walk_each (walk_of (suc depth) tree) v.name step.next.names step.walk) refl

pub by_list : (depth : ℕ) (tree : Tree) (v : Visit) (vs : List Visit) (w : Walk) → w.left ≤ depth
    → visits_of (walk_all depth tree (v ∷ vs) w) ≡ visits_of (visit_of tree v w >>= λ step. walk_all depth tree (pending_after v step vs) step.walk)
unfolding walk_of
by_list zero tree v vs w h = sym (ap (λ r. visits_of (r >>= λ step. walk_all zero tree (pending_after v step vs) step.walk)) (none_left tree v w h))
by_list (suc depth) tree v vs w h = one_step depth tree v vs w h (visit_of tree v w) (visit_steps tree v w)
