-- What each refusal means.
use Rattle.std.specs.Prelude.{◌≡◌, ⊤, Ok, Err}
use Rattle.path_core.specs.declared.error.PathError.{PathError}
use Rattle.path_core.specs.declared.error.PathError.TheVariants.{Leaf, NoPath, NameConstraints, Certificate, NoMemory}
use Rattle.path_core.specs.declared.route.Route.{Route}
use Rattle.path_core.specs.Paths.{Setting, IsPath}
use Rattle.path_core.specs.Traits.{leaf_of}

-- the leaf has each property of its own, and no route is a path
pub record HasNoPath (w : Setting) : Type 0 where
  pub leaf : leaf_of w.purpose w.leaf ≡ Ok tt
  pub none : (p : Route) → ¬ IsPath w p

-- the first property that the leaf lacks, or no path; the refusals of an anchor's making don't come
abbrev pub Refuses : Setting → PathError → Type 0
Refuses w (Leaf fault) = leaf_of w.purpose w.leaf ≡ Err fault
Refuses w NoPath = HasNoPath w
Refuses w NameConstraints = ⊥
Refuses w Certificate = ⊥
Refuses w NoMemory = ⊤
