-- The search as a function gives exactly the first path, and refuses exactly where there is none.
use Rattle.std.proofs.Common.{◌≡◌, ◌≢◌, length, Option, Some, None, Result, Ok, Err, refl, sym, ap, subst, ◌∙◌, arith}
use Rattle.std.specs.Prelude.{⊤}
use Rattle.foundation.specs.Steps.{◌>>=◌}
use Rattle.foundation.specs.Results.{ok_same, step_ok, err_same, refused_at}
use Rattle.path_core.specs.declared.error.LeafFault.{LeafFault}
use Rattle.path_core.specs.declared.error.PathError.{PathError}
use Rattle.path_core.specs.declared.error.PathError.TheVariants as path
use Rattle.path_core.specs.declared.route.Route.{Route}
use Rattle.path_core.specs.declared.route.FoundPath.{FoundPath}
use Rattle.path_core.specs.Paths.{Setting, IsPath, First, IsFound, route_of}
use Rattle.path_core.specs.Refusal.{Refuses}
use Rattle.path_core.specs.Search.{best}
use Rattle.path_core.specs.Traits.{leaf_of}
use Rattle.path_core.proofs.Firsts.{Meets, first_meets}
use Rattle.path_core.proofs.Least.{first_found, no_path, first_same}
use Rattle.path_core.specs.Path.{first_route, with_key, or_no_path, by_leaf, path_of, PathExactly, RefusalExactly}

-- ---- what the search over lengths gives, where the leaf is one

abbrev Gives : Setting → Option Route → Type 0
Gives w None = (q : Route) → IsPath w q → ⊥
Gives w (Some p) = First w p

gives : (w : Setting) (o : Option Route) → Meets (λ r. best w r 0 (length w.intermediates)) 0 7 o → leaf_of w.purpose w.leaf ≡ Ok tt → Gives w o
gives w None m leaf = no_path w (λ c few. m c (omega arith) (omega arith))
gives w (Some p) m leaf = first_found w m.place p (let h = m.within in omega arith) m.gives (λ c less. m.before c (omega arith) less) leaf

route_gives : (w : Setting) → leaf_of w.purpose w.leaf ≡ Ok tt → Gives w (first_route w)
unfolding first_route
route_gives w leaf = gives w (first_route w) (first_meets (λ r. best w r 0 (length w.intermediates)) 0 7) leaf

abbrev after_leaf : Setting → ⊤ → Result FoundPath PathError
after_leaf w u = or_no_path w (first_route w)

by_route : (w : Setting) → leaf_of w.purpose w.leaf ≡ Ok tt → path_of w ≡ or_no_path w (first_route w)
unfolding path_of
by_route w leaf = ap (λ r. by_leaf r >>= after_leaf w) leaf

-- ---- the answers of the search

at_route : (w : Setting) (p : FoundPath) → IsFound w p → (o : Option Route) → Gives w o → or_no_path w o ≡ Ok p
at_route w p f None g = absurd (g (route_of p) f.first.path)
at_route w p f (Some q) g =
    ap (λ (r : Route). or_no_path w (Some r)) (first_same w q (route_of p) g f.first)
    ∙ ap (λ key. let found : FoundPath = record { positions = p.positions; anchor = p.anchor; issuer_spki = key } in Ok found) (sym f.key)

pub found_is : (w : Setting) (p : FoundPath) → IsFound w p → path_of w ≡ Ok p
found_is w p f = by_route w f.first.path.leaf ∙ at_route w p f (first_route w) (route_gives w f.first.path.leaf)

at_none : (w : Setting) → ((q : Route) → IsPath w q → ⊥) → (o : Option Route) → Gives w o → or_no_path w o ≡ Err path.NoPath
at_none w none None g = refl
at_none w none (Some q) g = absurd (none q g.path)

pub refused_is : (w : Setting) (e : PathError) → Refuses w e → e ≢ path.NoMemory → path_of w ≡ Err e
unfolding path_of
refused_is w (path.Leaf fault) r n = ap (λ r. by_leaf r >>= after_leaf w) r
refused_is w path.NoPath r n = by_route w r.leaf ∙ at_none w r.none (first_route w) (route_gives w r.leaf)
refused_is w path.NameConstraints r n = absurd r
refused_is w path.Certificate r n = absurd r
refused_is w path.NoMemory r n = absurd (n refl)

-- ---- both ways

leaf_ok : (r : Result ⊤ LeafFault) (x : ⊤) → by_leaf r ≡ Ok x → r ≡ Ok tt
leaf_ok (Ok y) x h = refl
leaf_ok (Err e) x h = cc

found_by : (w : Setting) (p : FoundPath) (o : Option Route) → Gives w o → or_no_path w o ≡ Ok p → IsFound w p
found_by w p None g h = cc
found_by w p (Some q) g h = subst (IsFound w) (ok_same (with_key w q) p h) (record { first = g; key = refl })

pub found_means : (w : Setting) (p : FoundPath) → path_of w ≡ Ok p → IsFound w p
unfolding path_of
found_means w p h =
    let s = step_ok (by_leaf (leaf_of w.purpose w.leaf)) (after_leaf w) p h in
    let leaf = leaf_ok (leaf_of w.purpose w.leaf) s.0 s.1 in
    found_by w p (first_route w) (route_gives w leaf) s.2

pub path_exactly : PathExactly
path_exactly w p = (found_means w p, found_is w p)

-- ---- what a refusal means

abbrev Refused : Setting → PathError → Type 0
Refused w e = Refuses w e × (e ≢ path.NoMemory)

leaf_refused : (w : Setting) (e : PathError) (r : Result ⊤ LeafFault) → leaf_of w.purpose w.leaf ≡ r → by_leaf r ≡ Err e → Refused w e
leaf_refused w e (Ok x) is h = cc
leaf_refused w e (Err fault) is h = subst (Refused w) (err_same (path.Leaf fault) e h) (is, λ same. cc)

none_refused : (w : Setting) (e : PathError) → leaf_of w.purpose w.leaf ≡ Ok tt → (o : Option Route) → Gives w o → or_no_path w o ≡ Err e → Refused w e
none_refused w e leaf None g h = subst (Refused w) (err_same path.NoPath e h) (record { leaf = leaf; none = g }, λ same. cc)
none_refused w e leaf (Some p) g h = cc

pub refused_means : (w : Setting) (e : PathError) → path_of w ≡ Err e → Refuses w e × (e ≢ path.NoMemory)
unfolding path_of
refused_means w e h =
    refused_at (by_leaf (leaf_of w.purpose w.leaf)) (after_leaf w) e h (leaf_refused w e (leaf_of w.purpose w.leaf) refl) (λ u p k.
    let leaf = leaf_ok (leaf_of w.purpose w.leaf) u p in none_refused w e leaf (first_route w) (route_gives w leaf) k)

pub refusal_exactly : RefusalExactly
refusal_exactly w e = (refused_means w e, λ r. refused_is w e r.0 r.1)
