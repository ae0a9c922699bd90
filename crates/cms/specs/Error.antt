-- What a builder makes, or the first refusal.
use Rattle.std.specs.Prelude.{◌≡◌, ◌⊎◌, ℕ, Result, Ok, Err, ⊤}
use Rattle.der_grammar.specs.declared.error.DerError.{DerError}
use Rattle.der_grammar.specs.declared.error.DerError.TheVariants as der
use Rattle.der_grammar.specs.Outcome.{Outcome}
use Rattle.cms.specs.declared.error.Error.{Error}
use Rattle.cms.specs.declared.error.Error.TheVariants.{Asn1, Signature, Builder, NoMemory}

abbrev pub Made : Type 0 → Type 0
Made A = Result A Error

abbrev pub number_of : Error → ℕ
number_of (Asn1 e) = 1
number_of Signature = 2
number_of (Builder fault) = 3
number_of NoMemory = 4

-- a refusal of DER, as one of a builder
abbrev pub error_of_der : DerError → Error
error_of_der der.NoMemory = NoMemory
error_of_der e = Asn1 e

abbrev pub of_der : {A : Type 0} → Outcome A → Made A
of_der (Ok a) = Ok a
of_der (Err e) = Err (error_of_der e)

-- the only refusals of a call that writes
abbrev pub IsTooLong : Error → Type 0
IsTooLong e = (e ≡ Asn1 der.TooLong) ⊎ (e ≡ NoMemory)

-- the refusals of a call that makes sets
abbrev pub IsSetError : Error → Type 0
IsSetError (Asn1 e) = (e ≡ der.SetDuplicate) ⊎ (e ≡ der.TooLong)
IsSetError Signature = ⊥
IsSetError (Builder fault) = ⊥
IsSetError NoMemory = ⊤

-- the refusals of a call that makes what is signed
abbrev pub IsFinalizing : Error → Type 0
IsFinalizing (Asn1 e) = (e ≡ der.SetDuplicate) ⊎ (e ≡ der.TooLong)
IsFinalizing Signature = ⊥
IsFinalizing (Builder fault) = ⊤
IsFinalizing NoMemory = ⊤

-- the refusals of a call that signs
abbrev pub IsSigning : Error → Type 0
IsSigning (Asn1 e) = (e ≡ der.SetDuplicate) ⊎ (e ≡ der.TooLong)
IsSigning Signature = ⊤
IsSigning (Builder fault) = ⊤
IsSigning NoMemory = ⊤
