-- Where the objects of the command `download` lie, and which targets go to which files, by its words.
use Rattle.std.specs.Prelude.{ℕ, nat_lt, nat_le, List, [], ◌∷◌, ◌++◌, length, codes, bytes_eq, Bool, ◌&&◌, if◌then◌else◌}
use Rattle.std.specs.Prelude.{Option, Some, None, option_and_then, Result, Ok, Err}
use Rattle.std.specs.List.{list_any}
use Rattle.foundation.specs.Steps.{◌>>=◌}
use Rattle.command_files.specs.Layout.{Form, layout_under}
use Rattle.command_files.specs.Lines.{cut_of}
use Rattle.command_files.specs.declared.usage_fault.UsageFault.{UsageFault}
use Rattle.command_files.specs.declared.usage_fault.UsageFault.TheVariants.{Usage}
use Rattle.command_download.specs.declared.layout.Download.{Download}
use Rattle.command_download.specs.declared.layout.Sorted.{Sorted}
use Rattle.command_download.specs.declared.layout.DownloadLayout.{DownloadLayout}

-- the words beside the targets and their files; nothing that is judged lies anywhere
abbrev pub download_form : List ℕ → List ℕ → Form
download_form command rows = record {
  command = command;
  wanted = codes "--root" ∷ codes "--repository" ∷ codes "--store" ∷ rows ∷ [];
  judged = [];
  rows = rows;
}

-- the greatest number of targets in one run
abbrev pub max_downloads : ℕ
max_downloads = 64

-- ---- the targets and their files

-- the value of a word `NAME=VALUE` of this name, which may be empty; none for a word of another form or name
unfoldable pub value_of : List ℕ → List ℕ → Option (List ℕ)
value_of name word = option_and_then (λ parts. if bytes_eq parts.0 name then Some parts.1 else None) (cut_of 61 word)

-- a value that isn't empty
abbrev pub given_of : Option (List ℕ) → Result (List ℕ) UsageFault
given_of None = Err Usage
given_of (Some []) = Err Usage
given_of (Some (byte ∷ bytes)) = Ok (byte ∷ bytes)

-- a file that was named before
abbrev pub is_taken : List Download → List ℕ → Bool
is_taken downloads out = list_any (λ (d : Download). bytes_eq d.out out) downloads

-- the file behind a target is that target's; each file is named once
abbrev pub with_out : Sorted → List ℕ → List ℕ → Result Sorted UsageFault
with_out s target out =
    if is_taken s.downloads out then Err Usage
    else Ok (record { plain = s.plain; waiting = None; downloads = s.downloads ++ record { target = target; out = out } ∷ [] })

-- a word where no target waits: one that begins a download, or one of the others
abbrev pub begun_of : Sorted → List ℕ → Option (List ℕ) → Result Sorted UsageFault
begun_of s word None = Ok (record { plain = s.plain ++ word ∷ []; waiting = None; downloads = s.downloads })
begun_of s word (Some target) =
    given_of (Some target) >>= λ name. Ok (record { plain = s.plain; waiting = Some name; downloads = s.downloads })

-- one word more: behind `--target=NAME` has to stand `--out=FILE`
abbrev pub sorted_by : Sorted → List ℕ → Option (List ℕ) → Result Sorted UsageFault
sorted_by s word None = begun_of s word (value_of (codes "--target") word)
sorted_by s word (Some target) = given_of (value_of (codes "--out") word) >>= λ out. with_out s target out

abbrev pub word_sorted : Sorted → List ℕ → Result Sorted UsageFault
word_sorted s word = sorted_by s word s.waiting

-- each of the words in turn
abbrev pub words_sorted : Sorted → List (List ℕ) → Result Sorted UsageFault
words_sorted s [] = Ok s
words_sorted s (word ∷ words) = word_sorted s word >>= λ next. words_sorted next words

abbrev pub nothing_sorted : Sorted
nothing_sorted = record { plain = []; waiting = None; downloads = [] }

-- ---- the whole

-- from 1 to 64 targets
abbrev pub is_few : ℕ → Bool
is_few count = nat_lt 0 count && nat_le count max_downloads

-- no target waits for its file, and there are as many as may be
abbrev pub whole_of : Sorted → Option (List ℕ) → Result Sorted UsageFault
whole_of s None = if is_few (length s.downloads) then Ok s else Err Usage
whole_of s (Some target) = Err Usage

abbrev pub all_sorted : Sorted → Result Sorted UsageFault
all_sorted s = whole_of s s.waiting

-- the words sorted, of which no target waits for its file
abbrev pub sorted_of : List (List ℕ) → Result Sorted UsageFault
sorted_of words = words_sorted nothing_sorted words >>= all_sorted

-- The layout of the words under a form: its first word and its options, and from 1 to 64 times `--target=NAME` with `--out=FILE` right
-- behind it.
abbrev pub laid_of : Form → List (List ℕ) → Result DownloadLayout UsageFault
laid_of form words = do
  sorted ← sorted_of words
  places ← layout_under form sorted.plain
  Ok (record { places = places; downloads = sorted.downloads })

-- the layout of the words, of which the first is `download`: the rows are those of a provider file
unfoldable pub download_layout_of : List (List ℕ) → Result DownloadLayout UsageFault
download_layout_of words = laid_of (download_form (codes "download") (codes "--provider")) words

-- the layout of the words, of which the first is `download-questions`: the rows are of signatures that aren't good
unfoldable pub asked_download_layout_of : List (List ℕ) → Result DownloadLayout UsageFault
asked_download_layout_of words = laid_of (download_form (codes "download-questions") (codes "--refused")) words
