-- The attributes that a signer needs (RFC 5652, 11).
use Rattle.std.specs.Prelude.{◌≡◌, ℕ, ℤ, List, [], ◌∷◌, Ok}
use Rattle.foundation.specs.Steps.{◌>>=◌}
use Rattle.der_grammar.specs.Outcome.{Outcome}
use Rattle.der_grammar.specs.Grammar.{Grammar}
use Rattle.der_grammar.specs.Octets.{octet_string_type}
use Rattle.der_grammar.specs.Sets.{set_from}
use Rattle.der_grammar.specs.Types.{any_type}
use Rattle.der_core.specs.declared.civil.Civil.{Civil}
use Rattle.der_core.specs.Oid.{oid_type}
use Rattle.der_core.specs.Times.{utc_of, generalized_of, IsWithinSecond}
use Rattle.x509_core.specs.declared.attribute.Attribute.{Attribute}
use Rattle.x509_core.specs.declared.time.Time.{Time}
use Rattle.x509_core.specs.declared.time.Time.TheVariants.{Utc, General}
use Rattle.cms_parts.specs.Identifiers.{content_type_oid, message_digest_oid}
use Rattle.cms_parts.specs.Values.{any_from}

-- an attribute with one value, or TooLong where that can't be written
unfoldable pub attribute_of : {A : Type 0} → Grammar A → List ℕ → A → Outcome Attribute
attribute_of g oid a =
    any_from g a >>= λ value. set_from any_type.grammar (value ∷ []) >>= λ members. Ok (record { oid = oid; values = members })

-- the type of the content (RFC 5652, 11.1)
abbrev pub content_type_attribute : List ℕ → Outcome Attribute
content_type_attribute content_type = attribute_of oid_type.grammar content_type_oid content_type

-- the digest of the content (RFC 5652, 11.2)
abbrev pub message_digest_attribute : List ℕ → Outcome Attribute
message_digest_attribute digest = attribute_of octet_string_type.grammar message_digest_oid digest

-- a time of the second in which the instant lies: a UTCTime for the years 1950 to 2049, and else a GeneralizedTime (RFC 5652, 11.3)
abbrev pub IsSigningTime : ℤ → Time → Type 0
IsSigningTime instant (Utc t) = (c : Civil) × (utc_of t ≡ Ok c) × IsWithinSecond instant c
IsSigningTime instant (General t) =
    ((c : Civil) × (generalized_of t ≡ Ok c) × IsWithinSecond instant c)
    × ((bytes : List ℕ) (c : Civil) → utc_of bytes ≡ Ok c → IsWithinSecond instant c → ⊥)

-- no GeneralizedTime names the instant's second
abbrev pub HasNoTime : ℤ → Type 0
HasNoTime instant = (bytes : List ℕ) (c : Civil) → generalized_of bytes ≡ Ok c → IsWithinSecond instant c → ⊥
