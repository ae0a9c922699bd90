-- The first path as a function, or the first refusal (RFC 5280, section 6).
use Rattle.std.specs.Prelude.{◌≡◌, ◌≢◌, ◌↔◌, length, Option, Some, None, Result, Ok, Err, ⊤}
use Rattle.foundation.specs.Steps.{◌>>=◌}
use Rattle.path_core.specs.declared.error.LeafFault.{LeafFault}
use Rattle.path_core.specs.declared.error.PathError.{PathError}
use Rattle.path_core.specs.declared.error.PathError.TheVariants.{Leaf, NoPath, NoMemory}
use Rattle.path_core.specs.declared.route.Route.{Route}
use Rattle.path_core.specs.declared.route.FoundPath.{FoundPath}
use Rattle.path_core.specs.Paths.{Setting, IsFound, follows_leaf, spki_at}
use Rattle.path_core.specs.Refusal.{Refuses}
use Rattle.path_core.specs.Search.{best, first_from}
use Rattle.path_core.specs.Traits.{leaf_of}

-- the best path of the least number of intermediates that has one, up to six
unfoldable pub first_route : Setting → Option Route
first_route w = first_from (λ r. best w r 0 (length w.intermediates)) 0 7

abbrev pub with_key : Setting → Route → FoundPath
with_key w p = record { positions = p.positions; anchor = p.anchor; issuer_spki = spki_at (follows_leaf w p.positions p.anchor) }

abbrev pub or_no_path : Setting → Option Route → Result FoundPath PathError
or_no_path w None = Err NoPath
or_no_path w (Some p) = Ok (with_key w p)

abbrev pub by_leaf : Result ⊤ LeafFault → Result ⊤ PathError
by_leaf (Ok x) = Ok tt
by_leaf (Err fault) = Err (Leaf fault)

-- the leaf's own properties, then the first path
unfoldable pub path_of : Setting → Result FoundPath PathError
path_of w = do
  _ ← by_leaf (leaf_of w.purpose w.leaf)
  or_no_path w (first_route w)

-- the function gives exactly the first path
abbrev pub PathExactly : Type 0
PathExactly = (w : Setting) (p : FoundPath) → (path_of w ≡ Ok p) ↔ IsFound w p

-- and refuses exactly as the search may; want of memory is none of its refusals
abbrev pub RefusalExactly : Type 0
RefusalExactly = (w : Setting) (e : PathError) → (path_of w ≡ Err e) ↔ (Refuses w e × (e ≢ NoMemory))
