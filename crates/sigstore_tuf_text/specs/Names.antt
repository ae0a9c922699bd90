-- The names of metadata files (TUF specification, sections 4.4, 5.3 to 5.6 and 6.2).
use Rattle.std.specs.Prelude.{ℕ, List, ◌++◌, codes, decimal}

abbrev pub root_name : ℕ → List ℕ
root_name version = decimal version ++ codes ".root.json"

abbrev pub timestamp_name : List ℕ
timestamp_name = codes "timestamp.json"

abbrev pub snapshot_name : List ℕ
snapshot_name = codes "snapshot.json"

abbrev pub targets_name : List ℕ
targets_name = codes "targets.json"

-- what a snapshot pins a role by: its name as it is
abbrev pub pin_name : List ℕ → List ℕ
pin_name role = role ++ codes ".json"

-- a name of one version, under consistent names
abbrev pub versioned_name : ℕ → List ℕ → List ℕ
versioned_name version name = decimal version ++ codes "." ++ name
