-- Versions of Rekor's API.
use Rattle.std.specs.Prelude.{ℕ, ◌==◌, if◌then◌else◌, Option, Some, None}
use Rattle.sigstore_rekor.specs.declared.api_version.RekorApiVersion.{RekorApiVersion}
use Rattle.sigstore_rekor.specs.declared.api_version.RekorApiVersion.TheVariants.{V1, V2}

abbrev pub major_of : RekorApiVersion → ℕ
major_of V1 = 1
major_of V2 = 2

abbrev pub version_of_major : ℕ → Option RekorApiVersion
version_of_major major = if major == 1 then Some V1 else if major == 2 then Some V2 else None
