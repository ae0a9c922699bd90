-- The version of time-stamped data and of evidence records.
use Rattle.std.specs.Prelude.{◌≡◌, ℕ, List, [], ◌∷◌, Ok, refl}
use Rattle.der_grammar.specs.Listed.{listed_type, with_number}
use Rattle.der_grammar.specs.Tags.{integer_tag}
use Rattle.der_grammar.specs.Types.{AsnType}
use Rattle.cms_envelope.specs.declared.tsd_version.TsdVersion.{TsdVersion}
use Rattle.cms_envelope.specs.declared.tsd_version.TsdVersion.TheVariants.{V1}

abbrev pub tsd_number : TsdVersion → ℕ
tsd_number V1 = 1

abbrev pub tsd_versions : List TsdVersion
tsd_versions = V1 ∷ []

pub tsd-found : (v : TsdVersion) → with_number tsd_number tsd_versions (tsd_number v) ≡ Ok v
tsd-found V1 = refl

-- INTEGER 1 (RFC 5544, 2; RFC 4998, 3.1)
abbrev pub tsd_version_type : AsnType TsdVersion
tsd_version_type = listed_type integer_tag tsd_number tsd_versions refl tsd-found
