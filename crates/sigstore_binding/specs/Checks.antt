-- What is compared of an entry, one after the other.
use Rattle.std.specs.Prelude.{◌≡◌, ◌≢◌, ◌⊎◌, ℕ, List, [], ◌∷◌, bytes_eq}
use Rattle.std.specs.Prelude.{Bool, true, false, if◌then◌else◌, ⊤, Option, Some, None}
use Rattle.std.specs.Prelude.{Result, Ok, Err}
use Rattle.std.specs.List.{AllByRecursion}
use Rattle.foundation.specs.Steps.{◌>>=◌}
use Rattle.sigstore_binding.specs.declared.error.BindingError.{BindingError}

-- What the entry logged, as far as it is read, is what this signature has; or a fact holds. Behind it the refusal where it isn't so.
pub data Check : Type 0 where
  Same : Result (List ℕ) BindingError → Option (List ℕ) → BindingError → Check
  Holds : Bool → BindingError → Check

abbrev pub is_own : List ℕ → Option (List ℕ) → Bool
is_own logged None = false
is_own logged (Some own) = bytes_eq logged own

abbrev pub holds_or : BindingError → Bool → Result ⊤ BindingError
holds_or otherwise holds = if holds then Ok tt else Err otherwise

abbrev pub check_of : Check → Result ⊤ BindingError
check_of (Same logged own otherwise) = logged >>= λ bytes. holds_or otherwise (is_own bytes own)
check_of (Holds fact otherwise) = holds_or otherwise fact

-- in their order; the first that fails refuses
abbrev pub checks_of : List Check → Result ⊤ BindingError
checks_of [] = Ok tt
checks_of (check ∷ checks) = check_of check >>= λ _. checks_of checks

-- ---- the same without an order

-- it is read, and the same
abbrev pub Passes : Check → Type 0
Passes (Same logged own otherwise) = (bytes : List ℕ) × (logged ≡ Ok bytes) × (own ≡ Some bytes)
Passes (Holds fact otherwise) = fact ≡ true

abbrev pub AllPass : List Check → Type 0
AllPass checks = AllByRecursion Passes checks

-- it isn't read, or it is read and another
abbrev pub Fails : BindingError → Check → Type 0
Fails fault (Same logged own otherwise) =
    (logged ≡ Err fault) ⊎ ((bytes : List ℕ) × (logged ≡ Ok bytes) × (own ≢ Some bytes) × (otherwise ≡ fault))
Fails fault (Holds fact otherwise) = (fact ≡ false) × (otherwise ≡ fault)
