-- Versions of the syntax.
use Rattle.std.specs.Prelude.{◌≡◌, ℕ, List, [], ◌∷◌, Ok, refl}
use Rattle.der_grammar.specs.Listed.{listed_type, with_number}
use Rattle.der_grammar.specs.Tags.{integer_tag}
use Rattle.der_grammar.specs.Types.{AsnType}
use Rattle.cms_parts.specs.declared.content_info.CmsVersion.{CmsVersion}
use Rattle.cms_parts.specs.declared.content_info.CmsVersion.TheVariants.{V0, V1, V2, V3, V4, V5}

abbrev pub version_number : CmsVersion → ℕ
version_number V0 = 0
version_number V1 = 1
version_number V2 = 2
version_number V3 = 3
version_number V4 = 4
version_number V5 = 5

abbrev pub versions : List CmsVersion
versions = V0 ∷ V1 ∷ V2 ∷ V3 ∷ V4 ∷ V5 ∷ []

pub version-found : (v : CmsVersion) → with_number version_number versions (version_number v) ≡ Ok v
version-found V0 = refl
version-found V1 = refl
version-found V2 = refl
version-found V3 = refl
version-found V4 = refl
version-found V5 = refl

-- CMSVersion, INTEGER 0 to 5 (RFC 5652, 10.2.5)
abbrev pub version_type : AsnType CmsVersion
version_type = listed_type integer_tag version_number versions refl version-found
