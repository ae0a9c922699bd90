-- The lines that a gate gives on a folder: one on each artifact, in ascending order of their names.
use Rattle.std.specs.Prelude.{◌≡◌, ℕ, List, map, Contains, Option, Some, None, option_map, false, if◌then◌else◌}
use Rattle.std.specs.List.{AllByRecursion}
use Rattle.std.specs.List.Sorted.{IsStrictlySortedBy}
use Rattle.sigstore_types_parts.specs.Entries.{text_cmp}
use Rattle.sigstore_tuf_outside.specs.Repository.{Files}
use Rattle.release_gate.specs.declared.line.GateLine.{GateLine}
use Rattle.release_gate.specs.declared.line.Verdict.{Verdict}
use Rattle.release_gate.specs.Names.{is_bundle}

-- what is said of an artifact, by its name and all its bytes
abbrev pub Judging : Type 0
Judging = List ℕ → List ℕ → Verdict

abbrev pub names_in : List GateLine → List (List ℕ)
names_in lines = map (λ line. line.name) lines

-- a line is of a file that is no bundle, and tells what is said of it
pub record IsLine (judging : Judging) (files : Files) (line : GateLine) : Type 0 where
  pub artifact : is_bundle line.name ≡ false
  pub bytes : List ℕ
  pub held : files line.name ≡ Some bytes
  pub judged : line.verdict ≡ judging line.name bytes

-- The lines ascend by the bytes of their names, so that none stands twice; each is of an artifact and tells what is said of it; and each
-- artifact has one.
pub record AreLines (judging : Judging) (files : Files) (lines : List GateLine) : Type 0 where
  pub ascend : IsStrictlySortedBy text_cmp (names_in lines)
  pub each : AllByRecursion (IsLine judging files) lines
  pub whole : (name bytes : List ℕ) → files name ≡ Some bytes → is_bundle name ≡ false → Contains (names_in lines) name

-- the line on a file, unless it is a bundle
abbrev pub line_of : Judging → Files → List ℕ → Option GateLine
line_of judging files name =
    if is_bundle name then None else option_map (λ bytes. record { name = name; verdict = judging name bytes }) (files name)

-- there is one such list of lines: in which order a folder lists its files makes no difference
abbrev pub LinesAreOne : Type 0
LinesAreOne = (judging : Judging) (files : Files) (lines others : List GateLine) → AreLines judging files lines
    → AreLines judging files others → lines ≡ others
