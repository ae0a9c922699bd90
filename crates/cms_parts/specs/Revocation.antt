-- Revocation information.
use Rattle.std.specs.Prelude.{◌≡◌, ◌⊎◌, ℕ, List, refl}
use Rattle.std.proofs.Common.{inl, inr}
use Rattle.der_grammar.specs.Types.{AsnType, sequence_type, set_of_type, implicit_type, any_type, components_as}
use Rattle.der_grammar.specs.Types.{followed_by, required_component, choice_type}
use Rattle.der_grammar.specs.Tags.{sequence_tag}
use Rattle.x509_core.specs.Kinds.{certificate_list_type}
use Rattle.x509_core.specs.Types.{algorithm_type}
use Rattle.cms_parts.specs.Tags.{constructed_1_tag}
use Rattle.cms_parts.specs.Mapped.{mapped_type}
use Rattle.cms_parts.specs.declared.revocation.OtherRevocationInfoFormat.{OtherRevocationInfoFormat}
use Rattle.cms_parts.specs.declared.revocation.RevocationInfoChoice.{RevocationInfoChoice}
use Rattle.cms_parts.specs.declared.revocation.RevocationInfoChoice.TheVariants.{Crl, Other}
use Rattle.cms_parts.specs.declared.revocation.RevocationInfoChoices.{RevocationInfoChoices}

-- SEQUENCE { otherRevInfoFormat AlgorithmIdentifier, otherRevInfo ANY } (RFC 5652, 10.2.1, the format as an AlgorithmIdentifier)
abbrev pub other_revocation_info_format_type : AsnType OtherRevocationInfoFormat
other_revocation_info_format_type =
    sequence_type (components_as (λ x. record { other_format = x.0; other = x.1 }) (λ a. (a.other_format, a.other))
    (followed_by (required_component algorithm_type)
    (required_component any_type) refl)
    (λ a. refl) (λ b. refl))

-- ---- CHOICE { crl CertificateList, other [1] IMPLICIT OtherRevocationInfoFormat } (RFC 5652, 10.2.1)

abbrev pub to_revocation : List ℕ ⊎ OtherRevocationInfoFormat → RevocationInfoChoice
to_revocation (inl value) = Crl value
to_revocation (inr value) = Other value

abbrev pub from_revocation : RevocationInfoChoice → List ℕ ⊎ OtherRevocationInfoFormat
from_revocation (Crl value) = inl value
from_revocation (Other value) = inr value

pub revocation-there : (x : List ℕ ⊎ OtherRevocationInfoFormat) → from_revocation (to_revocation x) ≡ x
revocation-there (inl value) = refl
revocation-there (inr value) = refl

pub revocation-again : (x : RevocationInfoChoice) → to_revocation (from_revocation x) ≡ x
revocation-again (Crl value) = refl
revocation-again (Other value) = refl

abbrev pub revocation_info_choice_type : AsnType RevocationInfoChoice
revocation_info_choice_type =
    choice_type to_revocation from_revocation certificate_list_type
    (implicit_type constructed_1_tag sequence_tag other_revocation_info_format_type refl refl (λ a. refl)) refl revocation-there revocation-again

-- SET OF RevocationInfoChoice (RFC 5652, 10.2.1)
abbrev pub revocation_info_choices_type : AsnType RevocationInfoChoices
revocation_info_choices_type = mapped_type (λ x. record { 0 = x }) (λ s. s.0) (set_of_type revocation_info_choice_type) (λ a. refl) (λ b. refl)
