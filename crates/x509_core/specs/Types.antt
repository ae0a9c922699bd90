-- What each type looks like in DER.
use Rattle.std.specs.Prelude.{◌≡◌, ◌⊎◌, ℕ, List, refl}
use Rattle.std.proofs.Common.{inl, inr}
use Rattle.der_grammar.specs.Types.{AsnType, sequence_type, set_of_type, implicit_type, any_type, components_as}
use Rattle.der_grammar.specs.Types.{followed_by, required_component, optional_component, choice_type}
use Rattle.der_grammar.specs.Booleans.{false_by_default}
use Rattle.der_grammar.specs.Octets.{octet_string_type}
use Rattle.der_grammar.specs.Tags.{ia5_tag, primitive_1_tag, primitive_6_tag}
use Rattle.der_core.specs.Oid.{oid_type}
use Rattle.der_core.specs.Strings.{ia5_type}
use Rattle.der_core.specs.Times.{utc_time_type, generalized_time_type}
use Rattle.x509_core.specs.OtherNames.{other_name_type}
use Rattle.x509_core.specs.declared.algorithm.AlgorithmIdentifierOwned.{AlgorithmIdentifierOwned}
use Rattle.x509_core.specs.declared.attribute.Attribute.{Attribute}
use Rattle.x509_core.specs.declared.extension.Extension.{Extension}
use Rattle.x509_core.specs.declared.general_name.GeneralName.{GeneralName}
use Rattle.x509_core.specs.declared.general_name.GeneralName.TheVariants.{Rfc822Name, Uri, Other}
use Rattle.x509_core.specs.declared.time.Time.{Time}
use Rattle.x509_core.specs.declared.time.Time.TheVariants.{Utc, General}

-- SEQUENCE { algorithm OBJECT IDENTIFIER, parameters ANY OPTIONAL } (RFC 5280, 4.1.1.2)
abbrev pub algorithm_type : AsnType AlgorithmIdentifierOwned
algorithm_type = sequence_type (components_as (λ x. record { oid = x.0; parameters = x.1 }) (λ a. (a.oid, a.parameters))
    (followed_by (required_component oid_type) (optional_component any_type) refl) (λ a. refl) (λ b. refl))

-- SEQUENCE { type OBJECT IDENTIFIER, values SET OF ANY } (RFC 5652, 5.3)
abbrev pub attribute_type : AsnType Attribute
attribute_type = sequence_type (components_as (λ x. record { oid = x.0; values = x.1 }) (λ a. (a.oid, a.values))
    (followed_by (required_component oid_type) (required_component (set_of_type any_type)) refl) (λ a. refl) (λ b. refl))

-- SEQUENCE { extnID OBJECT IDENTIFIER, critical BOOLEAN DEFAULT FALSE, extnValue OCTET STRING } (RFC 5280, 4.1)
abbrev pub extension_type : AsnType Extension
extension_type =
    sequence_type (components_as (λ x. record { oid = x.0; critical = x.1.0; value = x.1.1 }) (λ e. (e.oid, (e.critical, e.value)))
    (followed_by (required_component oid_type)
    (followed_by false_by_default (required_component octet_string_type) refl) refl) (λ a. refl) (λ b. refl))

-- ---- CHOICE { utcTime UTCTime, generalTime GeneralizedTime } (RFC 5280, 4.1.2.5)

abbrev pub to_time : List ℕ ⊎ List ℕ → Time
to_time (inl t) = Utc t
to_time (inr t) = General t

abbrev pub from_time : Time → List ℕ ⊎ List ℕ
from_time (Utc t) = inl t
from_time (General t) = inr t

pub time-there : (x : List ℕ ⊎ List ℕ) → from_time (to_time x) ≡ x
time-there (inl t) = refl
time-there (inr t) = refl

pub time-again : (x : Time) → to_time (from_time x) ≡ x
time-again (Utc t) = refl
time-again (General t) = refl

abbrev pub time_type : AsnType Time
time_type = choice_type to_time from_time utc_time_type generalized_time_type refl time-there time-again

-- ---- GeneralName (RFC 5280, 4.2.1.6)

-- uniformResourceIdentifier [6] IMPLICIT IA5String, or one of the others
abbrev pub uri_or_other_type : AsnType (List ℕ ⊎ (ℕ × List ℕ))
uri_or_other_type =
    choice_type (λ x. x) (λ x. x) (implicit_type primitive_6_tag ia5_tag ia5_type refl refl
    (λ a. refl)) other_name_type refl (λ x. refl) (λ x. refl)

abbrev pub to_name : List ℕ ⊎ (List ℕ ⊎ (ℕ × List ℕ)) → GeneralName
to_name (inl text) = Rfc822Name text
to_name (inr (inl text)) = Uri text
to_name (inr (inr value)) = Other value

abbrev pub from_name : GeneralName → List ℕ ⊎ (List ℕ ⊎ (ℕ × List ℕ))
from_name (Rfc822Name text) = inl text
from_name (Uri text) = inr (inl text)
from_name (Other value) = inr (inr value)

pub name-there : (x : List ℕ ⊎ (List ℕ ⊎ (ℕ × List ℕ))) → from_name (to_name x) ≡ x
name-there (inl text) = refl
name-there (inr (inl text)) = refl
name-there (inr (inr value)) = refl

pub name-again : (x : GeneralName) → to_name (from_name x) ≡ x
name-again (Rfc822Name text) = refl
name-again (Uri text) = refl
name-again (Other value) = refl

-- rfc822Name [1] IMPLICIT IA5String, or one of the others
abbrev pub general_name_type : AsnType GeneralName
general_name_type =
    choice_type to_name from_name (implicit_type primitive_1_tag ia5_tag ia5_type refl refl
    (λ a. refl)) uri_or_other_type refl name-there name-again
