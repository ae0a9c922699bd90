-- A repository over a store: what it tells, and what a fetch makes of a load.
use Rattle.std.specs.Prelude.{◌≡◌, ℕ, ◌<◌, ◌≤◌, List, length, Option, Some, None, option_map, Result, Ok, Err}
use Rattle.foundation.specs.Watched.{Watched}
use Rattle.sigstore_tuf_outside.specs.Repository.{Folders, Files}
use Rattle.sigstore_tuf_rules.specs.Names.{kept_target}
use Rattle.sigstore_tuf_outside.specs.declared.repository.FetchFault.{FetchFault}
use Rattle.sigstore_tuf_outside.specs.declared.repository.FetchFault.TheVariants as fetch
use Rattle.sigstore_tuf_outside.specs.declared.store.StoreFault.{StoreFault}
use Rattle.sigstore_tuf_outside.specs.declared.store.StoreFault.TheVariants as store

-- documents under their names, targets under their names in a store
abbrev pub folders_in : Files → Folders
folders_in files = record { metadata = files; targets = λ path. files (kept_target path) }

abbrev pub folders_over : Watched Files → Watched Folders
folders_over seen = record { told = option_map folders_in seen.told; faults = seen.faults }

-- a file that was loaded, within its limit or too long; under a bad name there is none
abbrev pub FetchesLoaded : Result (Option (List ℕ)) StoreFault → ℕ → Result (Option (List ℕ)) FetchFault → Type 0
FetchesLoaded (Ok None) max result = result ≡ Ok None
FetchesLoaded (Ok (Some bytes)) max (Ok given) = (given ≡ Some bytes) × (length bytes ≤ max)
FetchesLoaded (Ok (Some bytes)) max (Err e) = (e ≡ fetch.TooLong (length bytes)) × (max < length bytes)
FetchesLoaded (Err store.BadName) max result = result ≡ Ok None
FetchesLoaded (Err store.Failed) max result = result ≡ Err fetch.Failed
FetchesLoaded (Err store.NoMemory) max result = result ≡ Err fetch.NoMemory
