-- What the objects in memory tell.
use Rattle.std.specs.Prelude.{ℕ, List, Some, None}
use Rattle.foundation.specs.Watched.{Watched}
use Rattle.sigstore_types_parts.specs.Entries.{at_name}
use Rattle.sigstore_tuf_outside.specs.Repository.{Files, Folders}
use Rattle.sigstore_tuf_outside.specs.Store.{with_file}

abbrev pub no_files : Files
no_files = λ _. None

-- the files of a map from names
abbrev pub files_of : List (List ℕ × List ℕ) → Files
files_of entries = λ name. at_name name entries

abbrev pub told_files : List (List ℕ × List ℕ) → ℕ → Watched Files
told_files entries faults = record { told = Some (files_of entries); faults = faults }

abbrev pub no_folders : Folders
no_folders = record { metadata = no_files; targets = no_files }

-- the folders of a map for documents and one for targets
abbrev pub folders_of : List (List ℕ × List ℕ) → List (List ℕ × List ℕ) → Folders
folders_of metadata targets = record { metadata = files_of metadata; targets = files_of targets }

abbrev pub told_folders : List (List ℕ × List ℕ) → List (List ℕ × List ℕ) → ℕ → Watched Folders
told_folders metadata targets faults = record { told = Some (folders_of metadata targets); faults = faults }

abbrev pub with_metadata : List ℕ → List ℕ → Folders → Folders
with_metadata name bytes folders = record { metadata = with_file name bytes folders.metadata; targets = folders.targets }

abbrev pub with_target : List ℕ → List ℕ → Folders → Folders
with_target path bytes folders = record { metadata = folders.metadata; targets = with_file path bytes folders.targets }
