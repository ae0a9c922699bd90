-- Two entries at one place have one body, or show a collision.
use Rattle.std.proofs.Common.{◌≡◌, Option, Some, refl, sym, ap, ◌∙◌, subst}
use Rattle.std.specs.Prelude.{IsSome}
use Rattle.sigstore_merkle.proofs.OneRoot.{one_root}
use Rattle.sigstore_log.specs.Inclusion.{Place}
use Rattle.sigstore_log.specs.OnePlace.{inclusion_of, OnePlaceOneBody}

some_there : {A : Type 0} (o : Option A) (x : A) → o ≡ Some x → IsSome o
some_there o x h = subst IsSome (sym h) refl

pub one_place_one_body : OnePlaceOneBody
one_place_one_body accepts accepts' logs logs' now now' a b l m fits same =
    one_root (inclusion_of a l) (inclusion_of b m) fits
    (record { index = ap (λ (p : Place). p.index) same; size = ap (λ (p : Place). p.size) same })
    (some_there _ l.place.root l.stands)
    (l.stands ∙ ap (λ (p : Place). Some p.root) same ∙ sym m.stands)
