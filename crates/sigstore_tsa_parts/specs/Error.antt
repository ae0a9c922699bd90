-- The refusals: their numbers, and what a refusal of DER is here.
use Rattle.std.specs.Prelude.{ℕ, Option, Some, None, Result, Ok, Err}
use Rattle.der_grammar.specs.declared.error.DerError.{DerError}
use Rattle.der_grammar.specs.declared.error.DerError.TheVariants as der
use Rattle.der_grammar.specs.Outcome.{Outcome}
use Rattle.sigstore_tsa_parts.specs.declared.error.Error.{Error}
use Rattle.sigstore_tsa_parts.specs.declared.error.Error.TheVariants.{Asn1, InvalidResponse, SignatureVerificationError}
use Rattle.sigstore_tsa_parts.specs.declared.error.Error.TheVariants.{HashMismatch, NoTstInfo, CertificateValidationError, Parse}
use Rattle.sigstore_tsa_parts.specs.declared.error.Error.TheVariants.{TimestampOutsideValidity, NoMemory}
use Rattle.sigstore_tsa_parts.specs.declared.error.ParseRule.{ParseRule}

-- a value, or the first refusal
abbrev pub Judged : Type 0 → Type 0
Judged A = Result A Error

abbrev pub number_of : Error → ℕ
number_of (Asn1 e) = 1
number_of (InvalidResponse fault) = 2
number_of (SignatureVerificationError rule) = 3
number_of (HashMismatch expected actual) = 4
number_of NoTstInfo = 5
number_of (CertificateValidationError fault) = 6
number_of (Parse rule) = 7
number_of (TimestampOutsideValidity time) = 8
number_of NoMemory = 9

abbrev pub error_of_der : DerError → Error
error_of_der der.NoMemory = NoMemory
error_of_der e = Asn1 e

-- what can't be written
abbrev pub of_der : {A : Type 0} → Outcome A → Judged A
of_der (Ok a) = Ok a
of_der (Err e) = Err (error_of_der e)

-- what can't be read, under the rule that asks for it
abbrev pub or_parse : {A : Type 0} → ParseRule → Outcome A → Judged A
or_parse rule (Ok a) = Ok a
or_parse rule (Err e) = Err (Parse rule)

abbrev pub ok_or_parse : {A : Type 0} → ParseRule → Option A → Judged A
ok_or_parse rule (Some a) = Ok a
ok_or_parse rule None = Err (Parse rule)
