-- What proofs of all crates know of results, options and tests.
use Rattle.std.proofs.Common.{◌≡◌, Bool, true, false, ◌&&◌, not, Some, Result, Ok, Err, refl, ap}
use Rattle.foundation.specs.Steps.{◌>>=◌}

pub ok_same : {A E : Type 0} (x y : A) → ◌≡◌ {A = Result A E} (Ok x) (Ok y) → x ≡ y
ok_same x y h = cc

pub err_same : {A E : Type 0} (d e : E) → ◌≡◌ {A = Result A E} (Err d) (Err e) → d ≡ e
err_same d e h = cc

pub some_same : {A : Type 0} (x y : A) → Some x ≡ Some y → x ≡ y
some_same x y h = cc

-- a result isn't Ok and Err at once
pub no_both : {A E C : Type 0} (x : A) (e : E) → ◌≡◌ {A = Result A E} (Ok x) (Err e) → C
no_both x e h = cc

-- a step that is Ok, and then the others
pub step_ok : {A B E : Type 0} (r : Result A E) (f : A → Result B E) (y : B) → (r >>= f) ≡ Ok y
    → (x : A) × (r ≡ Ok x) × (f x ≡ Ok y)
step_ok (Ok x) f y h = (x, refl, h)
step_ok (Err e) f y h = cc

-- a step that is refused, or one after it
pub refused_at : {A B E C : Type 0} (r : Result A E) (f : A → Result B E) (e : E) → (r >>= f) ≡ Err e
    → (r ≡ Err e → C) → ((x : A) → r ≡ Ok x → f x ≡ Err e → C) → C
refused_at (Ok x) f e h here later = later x refl h
refused_at (Err d) f e h here later = let same : d ≡ e = cc in here (ap Err same)

pub and_true : (a b : Bool) → (a && b) ≡ true → (a ≡ true) × (b ≡ true)
and_true true b h = (refl, h)
and_true false b h = cc

pub not_true : (b : Bool) → not b ≡ true → b ≡ false
not_true true h = cc
not_true false h = refl
