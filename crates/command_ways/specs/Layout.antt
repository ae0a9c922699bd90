-- By what trust comes, what is judged and where it lies, by the words of `verify`.
use Rattle.std.specs.Prelude.{ℕ, ◌==◌, List, [], ◌∷◌, length, codes, Bool, true, false, not, ◌&&◌, if◌then◌else◌}
use Rattle.std.specs.Prelude.{Option, Some, None, Result, Ok, Err}
use Rattle.foundation.specs.Steps.{◌>>=◌}
use Rattle.command_files.specs.Named.{Values, has_name, named_of, text_at, moment_at}
use Rattle.command_files.specs.declared.layout.Layout.{Layout}
use Rattle.command_files.specs.declared.usage_fault.UsageFault.{UsageFault}
use Rattle.command_files.specs.declared.usage_fault.UsageFault.TheVariants.{Usage}
use Rattle.command_ways.specs.Digests.{Digest, told_from, plain_from}
use Rattle.command_ways.specs.declared.layout.TrustedBy.{TrustedBy}
use Rattle.command_ways.specs.declared.layout.TrustedBy.TheVariants.{Repository, Archive, Caller}
use Rattle.command_ways.specs.declared.layout.WayLayout.{WayLayout}

-- the names that are wanted, and those that may stand besides
abbrev pub wanted : List ℕ → List (List ℕ)
wanted rows = codes "--bundle" ∷ codes "--policy" ∷ rows ∷ []

abbrev pub optional : List (List ℕ)
optional =
    codes "--root" ∷ codes "--repository" ∷ codes "--store" ∷ codes "--archive"
    ∷ codes "--trusted-root" ∷ codes "--artifact" ∷ codes "--now" ∷ []

-- By what trust comes: a pinned root, a repository and a store; a pinned root and an archive; or a trusted root alone. Whether these
-- stand is told.
abbrev pub trusted_by : Bool → Bool → Bool → Bool → Bool → Result TrustedBy UsageFault
trusted_by root repository store archive trusted =
    if root && repository && store && not archive && not trusted then Ok Repository else
    if root && archive && not repository && not store && not trusted then Ok Archive else
    if trusted && not root && not repository && not store && not archive then Ok Caller else
    Err Usage

unfoldable pub trusted_in : Values → Result TrustedBy UsageFault
trusted_in found =
    trusted_by (has_name found (codes "--root")) (has_name found (codes "--repository")) (has_name found (codes "--store"))
    (has_name found (codes "--archive")) (has_name found (codes "--trusted-root"))

-- the artifact is a file, or told by digests, and never both
abbrev pub subject_of : Bool → List Digest → Result (Option (List Digest)) UsageFault
subject_of true told = if length told == 0 then Ok None else Err Usage
subject_of false told = if length told == 0 then Err Usage else Ok (Some told)

-- the name of the root's place: where the caller hands the trusted root in there is no other root
abbrev pub root_name : TrustedBy → List ℕ
root_name Caller = codes "--trusted-root"
root_name by = codes "--root"

-- the places, by the name of what is judged and that of the file of rows
abbrev pub places_in : TrustedBy → List ℕ → List ℕ → Values → Result Layout UsageFault
places_in by judged rows found = do
  now ← moment_at (codes "--now") found
  Ok (record {
    root = text_at (root_name by) found;
    repository = text_at (codes "--repository") found;
    store = text_at (codes "--store") found;
    bundle = text_at (codes "--bundle") found;
    judged = text_at judged found;
    policy = text_at (codes "--policy") found;
    provider = text_at rows found;
    now = now;
  })

-- the layout of values by their names, and of told digests
unfoldable pub way_in : List ℕ → List Digest → Values → Result WayLayout UsageFault
way_in rows told found = do
  subject ← subject_of (has_name found (codes "--artifact")) told
  by ← trusted_in found
  places ← places_in by (codes "--artifact") rows found
  Ok (record { way = record { by = by; told = subject }; archive = text_at (codes "--archive") found; places = places })

-- the layout of a command's words
unfoldable pub way_under : List ℕ → List ℕ → List (List ℕ) → Result WayLayout UsageFault
way_under command rows words = do
  told ← told_from [] words
  found ← named_of command (wanted rows) optional (plain_from [] words)
  way_in rows told found

-- that of `verify`: the rows are those of a provider file
unfoldable pub way_layout_of : List (List ℕ) → Result WayLayout UsageFault
way_layout_of words = way_under (codes "verify") (codes "--provider") words

-- that of `questions`: the rows are of signatures that aren't good
unfoldable pub asked_way_layout_of : List (List ℕ) → Result WayLayout UsageFault
asked_way_layout_of words = way_under (codes "questions") (codes "--refused") words
