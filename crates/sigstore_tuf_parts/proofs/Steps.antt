-- Steps that refuse: which of them did.
use Rattle.std.proofs.Common.{◌≡◌, Result, Ok, Err, refl, subst, ◌⊎◌, inl, inr}
use Rattle.foundation.specs.Steps.{◌>>=◌}
use Rattle.sigstore_tuf_text.specs.declared.error.Error.{Error}

-- what holds of the one refusal holds of the other
pub same_refusal : {A : Type 0} (P : Error → Type 0) (a e : Error) → ◌≡◌ {A = Result A Error} (Err a) (Err e) → P a → P e
same_refusal P a e h p = let same : a ≡ e = cc in subst P same p

-- the first step refuses, or it gives a value and the second one refuses
pub refused_by : {A B : Type 0} (r : Result A Error) (f : A → Result B Error) (e : Error) → (r >>= f) ≡ Err e → (r ≡ Err e) ⊎ ((a : A) × (r ≡ Ok a) × (f a ≡ Err e))
refused_by (Ok a) f e h = inr (a, refl, h)
refused_by (Err x) f e h = inl cc
