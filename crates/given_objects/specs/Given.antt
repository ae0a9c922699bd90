-- What is handed in tells.
use Rattle.std.specs.Prelude.{◌≡◌, ℕ, List, [], ◌∷◌, ◌++◌, codes, bytes_eq, Bool, true, false, if◌then◌else◌, Option, Some, None}
use Rattle.std.specs.Option.{option_or}
use Rattle.foundation.specs.Watched.{Watched}
use Rattle.sigstore_tuf_outside.specs.Memory.{files_of}
use Rattle.sigstore_tuf_outside.specs.Repository.{Files, Folders}
use Rattle.sigstore_tuf_outside.specs.Store.{is_bad_name}
use Rattle.given_objects.specs.declared.file.File.{File}
use Rattle.given_objects.specs.declared.file.Name.{Name}

-- the bytes of the first file of that name
abbrev pub at_file : List ℕ → List File → Option (List ℕ)
at_file name [] = None
at_file name (file ∷ files) = if bytes_eq file.name.now name then Some file.bytes.now else at_file name files

-- under each name both have the same
abbrev pub HaveTheSame : List File → List File → Type 0
HaveTheSame files others = (name : List ℕ) → at_file name files ≡ at_file name others

-- the name is among these
abbrev pub has_name : List ℕ → List Name → Bool
has_name name [] = false
has_name name (absent ∷ names) = if bytes_eq absent.name.now name then true else has_name name names

-- the files below a folder; none under a name that leads out of it
abbrev pub files_below : List ℕ → List File → Files
files_below folder files = λ name. if is_bad_name name then None else at_file (folder ++ name) files

-- ---- the repository

abbrev pub folders_given : List File → Folders
folders_given files = record { metadata = files_below [] files; targets = files_below (codes "targets/") files }

abbrev pub told_given : List File → ℕ → Watched Folders
told_given files faults = record { told = Some (folders_given files); faults = faults }

-- ---- the store

-- the files of a store's folder
abbrev pub given_files : List File → Files
given_files files = files_below [] files

-- files by their names, put over others
abbrev pub files_over : List (List ℕ × List ℕ) → Files → Files
files_over entries files = λ name. option_or (files_of entries name) (files name)

abbrev pub told_over : List (List ℕ × List ℕ) → List File → Watched Files
told_over entries files = record { told = Some (files_over entries (given_files files)); faults = 0 }
