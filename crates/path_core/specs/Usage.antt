-- What a certificate may be used for, by its extended key usage (RFC 5280, 4.2.1.12).
use Rattle.std.specs.Prelude.{ℕ, List, [], ◌∷◌, Bool, true, false, bytes_eq, Option, Some, None, Ok, Err}
use Rattle.std.specs.List.{list_any}
use Rattle.der_grammar.specs.Outcome.{Outcome}
use Rattle.der_grammar.specs.Grammar.{read_all}
use Rattle.der_grammar.specs.Many.{sequence_of}
use Rattle.der_core.specs.Oid.{oid_type}
use Rattle.path_core.specs.declared.purpose.Purpose.{Purpose}
use Rattle.path_core.specs.declared.purpose.Purpose.TheVariants.{CodeSigning, TimeStamping}
use Rattle.path_core.specs.declared.usage.Usage.{Usage}
use Rattle.path_core.specs.declared.usage.Usage.TheVariants.{Unsaid, Only}

-- id-kp, 1.3.6.1.5.5.7.3, with a last arc, as its contents
abbrev pub purpose_oid : ℕ → List ℕ
purpose_oid last = 0x2b ∷ 0x06 ∷ 0x01 ∷ 0x05 ∷ 0x05 ∷ 0x07 ∷ 0x03 ∷ last ∷ []

-- id-kp-codeSigning and id-kp-timeStamping
abbrev pub oid_of_purpose : Purpose → List ℕ
oid_of_purpose CodeSigning = purpose_oid 3
oid_of_purpose TimeStamping = purpose_oid 8

-- ExtKeyUsageSyntax ::= SEQUENCE OF KeyPurposeId
abbrev pub purposes_of : List ℕ → Outcome (List (List ℕ))
purposes_of value = read_all (sequence_of oid_type.grammar) value

abbrev pub is_among : Purpose → List (List ℕ) → Bool
is_among purpose purposes = list_any (λ oid. bytes_eq oid (oid_of_purpose purpose)) purposes

abbrev pub usage_of : Outcome (List (List ℕ)) → Usage
usage_of (Ok purposes) = Only (is_among CodeSigning purposes) (is_among TimeStamping purposes)
usage_of (Err e) = Only false false

-- by the extension's value
abbrev pub usage_in : Option (List ℕ) → Usage
usage_in None = Unsaid
usage_in (Some value) = usage_of (purposes_of value)

-- the purpose is named
abbrev pub has_purpose : Purpose → Usage → Bool
has_purpose purpose Unsaid = false
has_purpose CodeSigning (Only code_signing time_stamping) = code_signing
has_purpose TimeStamping (Only code_signing time_stamping) = time_stamping

-- the purpose is named, or none is
abbrev pub allows_purpose : Purpose → Usage → Bool
allows_purpose purpose Unsaid = true
allows_purpose purpose (Only code_signing time_stamping) = has_purpose purpose (Only code_signing time_stamping)
