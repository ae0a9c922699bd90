-- What passes, and what fails, of a list of checks.
use Rattle.std.proofs.Common.{◌≡◌, inl, inr, ℕ, suc, List, [], ◌∷◌, Bool, true, false, Option, Some, None, Result, Ok, Err, refl, sym, ap, ◌∙◌, arith}
use Rattle.std.specs.Prelude.{⊤, Contains}
use Rattle.std.proofs.lemmas.Slice.Eq.{bytes_eq-Decides}
use Rattle.foundation.specs.Steps.{◌>>=◌}
use Rattle.foundation.specs.Results.{step_ok, err_same}
use Rattle.sigstore_binding.specs.declared.error.BindingError.{BindingError}
use Rattle.sigstore_binding.specs.Checks.{Check, Same, Holds, is_own, holds_or, check_of, checks_of, Passes, AllPass, Fails}

own_is : (logged : List ℕ) (own : Option (List ℕ)) → is_own logged own ≡ true → own ≡ Some logged
own_is logged None h = cc
own_is logged (Some own) h = ap Some (sym ((bytes_eq-Decides logged own).0 h))

is_its : (logged : List ℕ) (own : Option (List ℕ)) → own ≡ Some logged → is_own logged own ≡ true
is_its logged own h = ap (is_own logged) h ∙ (bytes_eq-Decides logged logged).1 refl

pub holds_there : (otherwise : BindingError) (b : Bool) (x : ⊤) → holds_or otherwise b ≡ Ok x → b ≡ true
holds_there otherwise true x h = refl
holds_there otherwise false x h = cc

fails_there : (otherwise : BindingError) (b : Bool) (e : BindingError) → holds_or otherwise b ≡ Err e → (b ≡ false) × (otherwise ≡ e)
fails_there otherwise true e h = cc
fails_there otherwise false e h = (refl, err_same otherwise e h)

-- ---- one check

pub passes : (check : Check) (x : ⊤) → check_of check ≡ Ok x → Passes check
passes (Same logged own otherwise) x h =
    let a = step_ok logged (λ bytes. holds_or otherwise (is_own bytes own)) x h in
    (a.0, a.1, own_is a.0 own (holds_there otherwise (is_own a.0 own) x a.2))
passes (Holds fact otherwise) x h = holds_there otherwise fact x h

pub pass : (check : Check) → Passes check → check_of check ≡ Ok tt
pass (Same logged own otherwise) p =
    ap (λ r. r >>= λ bytes. holds_or otherwise (is_own bytes own)) p.1 ∙ ap (holds_or otherwise) (is_its p.0 own p.2)
pass (Holds fact otherwise) p = ap (holds_or otherwise) p

not_own : (logged : List ℕ) (own : Option (List ℕ)) → is_own logged own ≡ false → own ≡ Some logged → ⊥
not_own logged own h same = let k = sym h ∙ is_its logged own same in cc

pub fails : (check : Check) (e : BindingError) → check_of check ≡ Err e → Fails e check
fails (Same logged own otherwise) e h = by logged refl h
  where
    by : (r : Result (List ℕ) BindingError) → logged ≡ r → (r >>= λ bytes. holds_or otherwise (is_own bytes own)) ≡ Err e → Fails e (Same logged own otherwise)
    by (Ok bytes) is k =
        let f = fails_there otherwise (is_own bytes own) e k in
        inr (bytes, is, not_own bytes own f.0, f.1)
    by (Err d) is k = inl (is ∙ ap Err (err_same d e k))
fails (Holds fact otherwise) e h = fails_there otherwise fact e h

-- ---- several

pub all_pass : (checks : List Check) (x : ⊤) → checks_of checks ≡ Ok x → AllPass checks
all_pass [] x h = tt
all_pass (check ∷ checks) x h =
    let a = step_ok (check_of check) (λ _. checks_of checks) x h in
    (passes check a.0 a.1, all_pass checks x a.2)

pub pass_all : (checks : List Check) → AllPass checks → checks_of checks ≡ Ok tt
pass_all [] p = refl
pass_all (check ∷ checks) p = ap (λ r. r >>= λ _. checks_of checks) (pass check p.0) ∙ pass_all checks p.1

among_later : {A : Type 0} (x : A) (xs : List A) (y : A) → Contains xs y → Contains (x ∷ xs) y
among_later x xs y (i, below, is) = (suc i, omega (arith, below), is)

pub one_fails : (checks : List Check) (e : BindingError) → checks_of checks ≡ Err e → (check : Check) × Contains checks check × Fails e check
one_fails [] e h = cc
one_fails (check ∷ checks) e h = by (check_of check) refl h (one_fails checks e)
  where
    by : (r : Result ⊤ BindingError) → check_of check ≡ r → (r >>= λ _. checks_of checks) ≡ Err e
        → (checks_of checks ≡ Err e → (one : Check) × Contains checks one × Fails e one) → (one : Check) × Contains (check ∷ checks) one × Fails e one
    by (Ok x) is k later = let l = later k in (l.0, among_later check checks l.0 l.1, l.2)
    by (Err d) is k later = (check, (0, omega arith, refl), fails check e (is ∙ ap Err (err_same d e k)))
