-- The best path of each length is the least of that length, and the first best one is the first path.
use Rattle.std.proofs.Common.{◌≡◌, inl, inr, ⊎_elim, ℕ, zero, suc, ◌+◌, ◌<◌, ◌≤◌, Bool, true, false, cond, List, [], ◌∷◌, length, Option, Some, None, Ok, refl, sym, ◌∙◌, ap, subst, arith, le_refl}
use Rattle.std.specs.Option.{option_map}
use Rattle.std.proofs.lemmas.Bool.{cases_order, cases_lt}
use Rattle.std.proofs.lemmas.Option.{cond_some, none-some, same_Some}
use Rattle.std.proofs.lemmas.List.{get_or_past}
use Rattle.path_core.specs.declared.route.Route.{Route}
use Rattle.path_core.specs.declared.route.FoundPath.{FoundPath}
use Rattle.path_core.proofs.Onward.{Ends, Leads}
use Rattle.path_core.specs.Anchors.{TrustAnchor}
use Rattle.path_core.specs.Traits.{leaf_of}
use Rattle.path_core.specs.Paths.{Setting, IsPath, InOrder, First, IsFound, route_of, follows_leaf, spki_at}
use Rattle.path_core.proofs.Onward.{onward_from, path_from}
use Rattle.path_core.specs.Search.{source_at, goes, ends, through, at_anchor, best}
use Rattle.path_core.proofs.Firsts.{Meets, first_meets}
use Rattle.path_core.proofs.Links.{goes_from, goes_follows, ends_from, ends_ends}

-- a path of r intermediates from a source on, at most as late as each other
pub record IsLeast (w : Setting) (r below s : ℕ) (p : Route) : Type 0 where
  pub long : length p.positions ≡ r
  pub leads : Leads w (source_at w s) below p.positions p.anchor
  pub least : (q : List ℕ) (b : ℕ) → length q ≡ r → Leads w (source_at w s) below q b → InOrder p.positions p.anchor q b

abbrev pub LeastOrNone : Setting → ℕ → ℕ → ℕ → Option Route → Type 0
LeastOrNone w r below s None = (q : List ℕ) (b : ℕ) → length q ≡ r → Leads w (source_at w s) below q b → ⊥
LeastOrNone w r below s (Some p) = IsLeast w r below s p

-- ---- to an anchor

abbrev bare : ℕ → Route
bare a = record { positions = []; anchor = a }

ends_no : (w : Setting) (s a : ℕ) (anchor : TrustAnchor) → Ends w (source_at w s) a anchor → at_anchor w s a ≡ None → ⊥
ends_no w s a anchor e none =
    let yes : ends w s a ≡ true = (ends_from w s a anchor e).1 in
    none-some (bare a) (sym (subst (λ b. cond b (Some (bare a)) None ≡ None) yes none))

none_ends : (w : Setting) (below s : ℕ) → ((h : ℕ) → 0 ≤ h → h < 0 + length w.anchors → at_anchor w s h ≡ None) → (q : List ℕ) (b : ℕ) → length q ≡ 0 → Leads w (source_at w s) below q b → ⊥
none_ends w below s m [] b e leads =
    let within : b < length w.anchors = (ends_from w s b leads.0 leads.1).0 in
    ends_no w s b leads.0 leads.1 (m b (omega arith) (omega arith))
none_ends w below s m (x ∷ q) b e leads = cc

least_end : (w : Setting) (below s a : ℕ) → ((h : ℕ) → 0 ≤ h → h < a → at_anchor w s h ≡ None) → (q : List ℕ) (b : ℕ) → length q ≡ 0 → Leads w (source_at w s) below q b → InOrder [] a q b
least_end w below s a before [] b e leads = ⊎_elim (λ less. absurd (ends_no w s b leads.0 leads.1 (before b (omega arith) less))) (λ more. more) (cases_lt b a)
least_end w below s a before (x ∷ q) b e leads = cc

anchors_meet : (w : Setting) (below s : ℕ) (o : Option Route) → Meets (at_anchor w s) 0 (length w.anchors) o → LeastOrNone w 0 below s o
anchors_meet w below s None m = none_ends w below s m
anchors_meet w below s (Some p) m =
    let parts = cond_some (ends w s m.place) (bare m.place) p m.gives in
    subst (λ p. IsLeast w 0 below s p) parts.1
    (record { long = refl; leads = ends_ends w s m.place parts.0; least = least_end w below s m.place m.before })

-- ---- over an intermediate

abbrev next : Setting → ℕ → ℕ → ℕ → ℕ → Option Route
next w r below s i = cond (goes w below s i) (option_map (through i) (best w r (below + 1) i)) None

-- the paths over the intermediate at i
over_none : (w : Setting) (r below s i : ℕ) → LeastOrNone w r (below + 1) i (best w r (below + 1) i) → next w r below s i ≡ None → (q : List ℕ) (b : ℕ) → length q ≡ r → Leads w (source_at w s) below (i ∷ q) b → ⊥
over_none w r below s i rest none q b long leads =
    let there = goes_from w below s i leads.0 leads.1 in
    let gone : option_map (through i) (best w r (below + 1) i) ≡ None = subst (λ t. cond t (option_map (through i) (best w r (below + 1) i)) None ≡ None) there.2 none in
    no_rest (best w r (below + 1) i) rest gone
  where
    no_rest : (o : Option Route) → LeastOrNone w r (below + 1) i o → option_map (through i) o ≡ None → ⊥
    no_rest None rest gone = rest q b long (subst (λ c. Leads w c (below + 1) q b) (sym (goes_from w below s i leads.0 leads.1).0) leads.2)
    no_rest (Some p) rest gone = none-some (through i p) (sym gone)

record Through (w : Setting) (r below s i : ℕ) (p : Route) : Type 0 where
  goes : goes w below s i ≡ true
  rest : Route
  least : IsLeast w r (below + 1) i rest
  whole : through i rest ≡ p

over_some : (w : Setting) (r below s i : ℕ) (p : Route) (b : Bool) → goes w below s i ≡ b → (o : Option Route) → LeastOrNone w r (below + 1) i o → cond b (option_map (through i) o) None ≡ Some p → Through w r below s i p
over_some w r below s i p false e o l h = cc
over_some w r below s i p true e None l h = cc
over_some w r below s i p true e (Some rest) l h = record { goes = e; rest = rest; least = l; whole = same_Some (through i rest) p h }

none_goes : (w : Setting) (r below s : ℕ) → ((i : ℕ) → LeastOrNone w r (below + 1) i (best w r (below + 1) i))
    → ((h : ℕ) → 0 ≤ h → h < 0 + length w.intermediates → next w r below s h ≡ None)
    → (q : List ℕ) (b : ℕ) → length q ≡ suc r → Leads w (source_at w s) below q b → ⊥
none_goes w r below s rest m [] b e leads = cc
none_goes w r below s rest m (i ∷ q) b e leads =
    let within : i < length w.intermediates = (goes_from w below s i leads.0 leads.1).1 in
    over_none w r below s i (rest i) (m i (omega arith) (omega arith)) q b (omega arith) leads

least_over : (w : Setting) (r below s i : ℕ) → ((i : ℕ) → LeastOrNone w r (below + 1) i (best w r (below + 1) i))
    → (p : Route) → IsLeast w r (below + 1) i p
    → ((h : ℕ) → 0 ≤ h → h < i → next w r below s h ≡ None)
    → (q : List ℕ) (b : ℕ) → length q ≡ suc r → Leads w (source_at w s) below q b → InOrder (i ∷ p.positions) p.anchor q b
least_over w r below s i rest p l before [] b e leads = cc
least_over w r below s i rest p l before (j ∷ q) b e leads =
    ⊎_elim
    (λ same. inr (same, l.least q b (omega arith) (subst (λ c. Leads w c (below + 1) q b) (sym (goes_from w below s j leads.0 leads.1).0 ∙ ap (source_at w) (sym same)) leads.2)))
    (λ differ. ⊎_elim (λ less. inl less) (λ more. absurd (over_none w r below s j (rest j) (before j (omega arith) more) q b (omega arith) leads)) differ)
    (cases_order i j)

onward_meets : (w : Setting) (r below s : ℕ) → ((i : ℕ) → LeastOrNone w r (below + 1) i (best w r (below + 1) i))
    → (o : Option Route) → Meets (next w r below s) 0 (length w.intermediates) o → LeastOrNone w (suc r) below s o
onward_meets w r below s rest None m = none_goes w r below s rest m
onward_meets w r below s rest (Some p) m =
    let t = over_some w r below s m.place p (goes w below s m.place) refl (best w r (below + 1) m.place) (rest m.place) m.gives in
    let within : m.place < length w.intermediates = let h = m.within in omega arith in
    subst (λ p. IsLeast w (suc r) below s p) t.whole
    (record {
      long = ap suc t.least.long;
      leads = (source_at w m.place, goes_follows w below s m.place within t.goes, t.least.leads);
      least = least_over w r below s m.place rest t.rest t.least m.before;
    })

pub best_meets : (w : Setting) (r below s : ℕ) → LeastOrNone w r below s (best w r below s)
unfolding best
best_meets w zero below s = anchors_meet w below s _ (first_meets (at_anchor w s) 0 (length w.anchors))
best_meets w (suc r) below s = onward_meets w r below s (best_meets w r (below + 1)) _ (first_meets (next w r below s) 0 (length w.intermediates))

-- ---- the first path

none_at : (w : Setting) (r s : ℕ) (o : Option Route) → o ≡ None → LeastOrNone w r 0 s o → (q : List ℕ) (b : ℕ) → length q ≡ r → Leads w (source_at w s) 0 q b → ⊥
none_at w r s None e m = m
none_at w r s (Some p) e m = absurd (none-some p (sym e))

some_at : (w : Setting) (r s : ℕ) (p : Route) (o : Option Route) → o ≡ Some p → LeastOrNone w r 0 s o → IsLeast w r 0 s p
some_at w r s p None e m = absurd (none-some p e)
some_at w r s p (Some x) e m = subst (λ p. IsLeast w r 0 s p) (same_Some x p e) m

leaf_at : (w : Setting) → source_at w (length w.intermediates) ≡ w.leaf
leaf_at w = get_or_past w.intermediates (length w.intermediates) w.leaf (le_refl (length w.intermediates))

-- no path has that many intermediates
pub none_long : (w : Setting) (r : ℕ) → best w r 0 (length w.intermediates) ≡ None → (q : Route) → IsPath w q → length q.positions ≡ r → ⊥
none_long w r e q path long =
    none_at w r (length w.intermediates) (best w r 0 (length w.intermediates)) e (best_meets w r 0 (length w.intermediates)) q.positions q.anchor long
    (subst (λ c. Leads w c 0 q.positions q.anchor) (sym (leaf_at w)) (onward_from w q path).leads)

pub first_found : (w : Setting) (r : ℕ) (p : Route) → r ≤ 6 → best w r 0 (length w.intermediates) ≡ Some p
    → ((c : ℕ) → c < r → best w c 0 (length w.intermediates) ≡ None) → leaf_of w.purpose w.leaf ≡ Ok tt → First w p
first_found w r p few e before leaf =
    let n = length w.intermediates in
    let l = some_at w r n p (best w r 0 n) e (best_meets w r 0 n) in
    let long : length p.positions ≡ r = l.long in
    record {
      path = path_from w p (record { leaf = leaf; few = omega arith; leads = subst (λ c. Leads w c 0 p.positions p.anchor) (leaf_at w) l.leads });
      least = λ q path. ⊎_elim
          (λ same. inr (same, l.least q.positions q.anchor (omega arith) (subst (λ c. Leads w c 0 q.positions q.anchor) (sym (leaf_at w)) (onward_from w q path).leads)))
          (λ differ. ⊎_elim (λ less. inl less) (λ more. absurd (none_long w (length q.positions) (before (length q.positions) (omega arith)) q path refl)) differ)
          (cases_order (length p.positions) (length q.positions));
    }

pub no_path : (w : Setting) → ((c : ℕ) → c ≤ 6 → best w c 0 (length w.intermediates) ≡ None) → (q : Route) → IsPath w q → ⊥
no_path w none q path = none_long w (length q.positions) (none (length q.positions) path.few) q path refl

-- ---- one first path

same_both : (p : List ℕ) (a : ℕ) (q : List ℕ) (b : ℕ) → InOrder p a q b → InOrder q b p a → (p ≡ q) × (a ≡ b)
same_both [] a [] b one two = (refl, omega arith)
same_both [] a (j ∷ q) b one two = absurd one
same_both (i ∷ p) a [] b one two = absurd one
same_both (i ∷ p) a (j ∷ q) b one two =
    ⊎_elim
    (λ less. ⊎_elim (λ more. absurd (omega arith)) (λ same. let e = same.0 in absurd (omega arith)) two)
    (λ first. ⊎_elim
    (λ more. let e = first.0 in absurd (omega arith))
    (λ second. let rest = same_both p a q b first.1 second.1 in (ap (λ i. i ∷ p) first.0 ∙ ap (λ p. j ∷ p) rest.0, rest.1))
    two)
    one

pub first_same : (w : Setting) (p q : Route) → First w p → First w q → p ≡ q
first_same w p q first second =
    ⊎_elim
    (λ shorter. ⊎_elim (λ longer. absurd (omega arith)) (λ same. let e = same.0 in absurd (omega arith)) (second.least p first.path))
    (λ one. ⊎_elim
    (λ shorter. let e = one.0 in absurd (omega arith))
    (λ two. let parts = same_both p.positions p.anchor q.positions q.anchor one.1 two.1 in
    ap (λ positions. let p : Route = record { positions = positions; anchor = p.anchor } in p) parts.0
    ∙ ap (λ a. let p : Route = record { positions = q.positions; anchor = a } in p) parts.1)
    (second.least p first.path))
    (first.least q second.path)

-- the same route and the same key
pub found_same : (w : Setting) (p q : FoundPath) → IsFound w p → IsFound w q → p ≡ q
found_same w p q one two =
    let same = first_same w (route_of p) (route_of q) one.first two.first in
    let key : p.issuer_spki ≡ q.issuer_spki = one.key ∙ ap (λ (r : Route). spki_at (follows_leaf w r.positions r.anchor)) same ∙ sym two.key in
    ap (λ (r : Route). let f : FoundPath = record { positions = r.positions; anchor = r.anchor; issuer_spki = p.issuer_spki } in f) same
    ∙ ap (λ key. let f : FoundPath = record { positions = q.positions; anchor = q.anchor; issuer_spki = key } in f) key
