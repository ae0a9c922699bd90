-- The law of bundles.
use Rattle.std.specs.Prelude.{◌≡◌, List, Ok}
use Rattle.std.specs.List.{AllByRecursion}
use Rattle.serde_json.specs.Data.{Data}
use Rattle.sigstore_entries.specs.Laws.{TimeFits}
use Rattle.sigstore_entries.specs.declared.entry.TransparencyLogEntry.{TransparencyLogEntry}
use Rattle.sigstore_types.specs.Bundle.{bundle_of, entries_in}
use Rattle.sigstore_types.specs.Written.{bundle_data}
use Rattle.sigstore_types.specs.declared.bundle.Bundle.{Bundle}

-- the times of entries are of 64 bits, as all in memory are
abbrev pub TimesFit : List TransparencyLogEntry → Type 0
TimesFit = AllByRecursion (λ entry. TimeFits entry.integrated_time)

-- a bundle that is read is read again where it is written
abbrev pub BundlesAreReadAgain : Type 0
BundlesAreReadAgain = (d : Data) (bundle : Bundle) → TimesFit (entries_in bundle) → bundle_of d ≡ Ok bundle
    → bundle_of (bundle_data bundle) ≡ Ok bundle
