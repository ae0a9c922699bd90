-- The extensions that come one after the other: a step, whatever the bound.
use Rattle.std.proofs.Common.{◌≡◌, ℕ, zero, suc, ◌<◌, ◌≤◌, List, [], ◌∷◌, length, Ok, Err, refl, sym, ap, ◌∙◌, arith}
use Rattle.spki_core.specs.Reading.{Reading}
use Rattle.x509_views.specs.Extensions.{OneExtension, extension_at}
use Rattle.x509_views.specs.Walk.{first_or, walk_at, walk_of}
use Rattle.x509_views.proofs.Lists.{extension-shrinks}

first_alike : (r : Reading (OneExtension × List ℕ)) (f h : List ℕ → List OneExtension) → ((x : OneExtension × List ℕ) → r ≡ Ok x → f x.1 ≡ h x.1) → first_or r f ≡ first_or r h
first_alike (Err e) f h same = refl
first_alike (Ok x) f h same = ap (λ z. x.0 ∷ z) (same x refl)

no_first : (r : Reading (OneExtension × List ℕ)) (f : List ℕ → List OneExtension) → ((x : OneExtension × List ℕ) → r ≡ Ok x → length x.1 < 0) → [] ≡ first_or r f
no_first (Err e) f none = refl
no_first (Ok x) f none = let lt = none x refl in absurd (omega arith)

walk-more : (n m : ℕ) (bytes : List ℕ) → length bytes ≤ n → length bytes ≤ m → walk_at n bytes ≡ walk_at m bytes
unfolding walk_at
walk-more zero zero bytes p q = refl
walk-more zero (suc m) bytes p q =
    no_first (extension_at bytes) (walk_at m) (λ x e. let lt = extension-shrinks bytes x.0 x.1 e in omega arith)
walk-more (suc n) zero bytes p q =
    sym (no_first (extension_at bytes) (walk_at n) (λ x e. let lt = extension-shrinks bytes x.0 x.1 e in omega arith))
walk-more (suc n) (suc m) bytes p q =
    first_alike (extension_at bytes) (walk_at n) (walk_at m)
    (λ x e. let lt = extension-shrinks bytes x.0 x.1 e in walk-more n m x.1 (omega arith) (omega arith))

walk-step : (bytes : List ℕ) → walk_of bytes ≡ first_or (extension_at bytes) walk_of
unfolding walk_of walk_at
walk-step bytes =
    walk-more (length bytes) (suc (length bytes)) bytes (omega arith) (omega arith)
    ∙ first_alike (extension_at bytes) (walk_at (length bytes)) (λ rest. walk_at (length rest) rest)
    (λ x e. let lt = extension-shrinks bytes x.0 x.1 e in walk-more (length bytes) (length x.1) x.1 (omega arith) (omega arith))

pub walk-as : (bytes : List ℕ) (r : Reading (OneExtension × List ℕ)) → extension_at bytes ≡ r → walk_of bytes ≡ first_or r walk_of
walk-as bytes r e = walk-step bytes ∙ ap (λ (z : Reading (OneExtension × List ℕ)). first_or z walk_of) e
