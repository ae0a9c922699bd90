-- A content under its type.
use Rattle.std.specs.Prelude.{refl}
use Rattle.der_grammar.specs.Types.{AsnType, sequence_type, explicit_type, any_type, components_as}
use Rattle.der_grammar.specs.Types.{followed_by, required_component}
use Rattle.der_grammar.specs.Tags.{constructed_0_tag}
use Rattle.der_core.specs.Oid.{oid_type}
use Rattle.cms_parts.specs.declared.content_info.ContentInfo.{ContentInfo}

-- SEQUENCE { contentType OBJECT IDENTIFIER, content [0] EXPLICIT ANY } (RFC 5652, 3)
abbrev pub content_info_type : AsnType ContentInfo
content_info_type =
    sequence_type (components_as (λ x. record { content_type = x.0; content = x.1 }) (λ a. (a.content_type, a.content))
    (followed_by (required_component oid_type)
    (required_component (explicit_type constructed_0_tag any_type refl)) refl)
    (λ a. refl) (λ b. refl))
