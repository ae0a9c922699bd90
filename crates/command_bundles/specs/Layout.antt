-- The words of `verify` over a list of bundles.
use Rattle.std.specs.Prelude.{ℕ, List, [], ◌∷◌, ◌++◌, codes, is_some, if◌then◌else◌, Option, Some, None, Result, Ok, Err}
use Rattle.foundation.specs.Steps.{◌>>=◌}
use Rattle.command_files.specs.declared.usage_fault.UsageFault.{UsageFault}
use Rattle.command_files.specs.declared.usage_fault.UsageFault.TheVariants.{Usage}
use Rattle.command_ways.specs.Digests.{behind}
use Rattle.command_outputs.specs.declared.layout.OutputsLayout.{OutputsLayout}
use Rattle.command_outputs.specs.Layout.{outputs_layout_of}

-- a word, or the word `--bundle=FILE` where it names the file of a list
abbrev pub or_one : List ℕ → Option (List ℕ) → List ℕ
or_one word None = word
or_one word (Some path) = codes "--bundle=" ++ path

-- the same; and no word names the file of one bundle
abbrev pub word_of : List ℕ → Result (List ℕ) UsageFault
word_of word = if is_some (behind (codes "--bundle=") word) then Err Usage else Ok (or_one word (behind (codes "--bundles=") word))

-- those of these words, behind earlier ones
abbrev pub words_from : List (List ℕ) → List (List ℕ) → Result (List (List ℕ)) UsageFault
words_from found [] = Ok found
words_from found (word ∷ words) = word_of word >>= λ next. words_from (found ++ next ∷ []) words

-- The words of `verify` with `--bundles=FILE` where `--bundle=FILE` stands.
unfoldable pub bundles_layout_of : List (List ℕ) → Result OutputsLayout UsageFault
bundles_layout_of words = words_from [] words >>= outputs_layout_of
