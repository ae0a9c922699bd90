-- The command that verifies a workload: its words, and what each of its statuses means.
use Rattle.std.specs.Prelude.{◌≡◌, ◌⊎◌, ℕ, ◌^◌, ◌==◌, nat_lt, List}
use Rattle.std.specs.Prelude.{[], ◌∷◌, length, codes, bytes_eq, Bool, false, if◌then◌else◌}
use Rattle.std.specs.Prelude.{None, Result, Ok, Err, ok_or}
use Rattle.std.specs.Result.{result_ok}
use Rattle.foundation.specs.Steps.{◌>>=◌}
use Rattle.foundation.specs.Watched.{Watched, Rose}
use Rattle.sigstore_entries.specs.Checkpoint.{shortest_of}
use Rattle.command_files.specs.Named.{Values, named_of, text_at}
use Rattle.command_files.specs.Printed.{line_of}
use Rattle.command_files.specs.declared.usage_fault.UsageFault.{UsageFault}
use Rattle.command_files.specs.declared.usage_fault.UsageFault.TheVariants.{Usage}
use Rattle.command_generate.specs.Supplies.{Plan, IsPlan}
use Rattle.command_generate.specs.Judged.{outcomes_of, summary_of}
use Rattle.command_files.specs.Answer.{answer}
use Rattle.command_files.specs.Ending.{TakesAll}
use Rattle.command_files.specs.declared.answer.Answer.{Answer}
use Rattle.command_files.specs.declared.answer.Status.{Status}
use Rattle.command_files.specs.declared.answer.Status.TheVariants as status
use Rattle.command_generate.specs.declared.generated.Asked.{Asked}

-- ---- the words

-- the shortest decimal of a number below a limit
abbrev pub below_of : ℕ → List ℕ → Result ℕ UsageFault
below_of limit text = do
  number ← ok_or (shortest_of text) Usage
  if nat_lt number limit then Ok number else Err Usage

-- a count from 1 to 4,096
abbrev pub count_of : List ℕ → Result ℕ UsageFault
count_of text = do
  count ← below_of 4097 text
  if count == 0 then Err Usage else Ok count

abbrev pub asked_in : Values → Result Asked UsageFault
asked_in found = do
  number ← below_of (2 ^ 32) (text_at (codes "--number") found)
  count ← count_of (text_at (codes "--count") found)
  Ok (record { number = number; count = count })

-- what is asked by the words `generate`, `--number=S` with S below 2^32 and `--count=N` with N from 1 to 4,096, each once
unfoldable pub asked_of : List (List ℕ) → Result Asked UsageFault
asked_of words = named_of (codes "generate") (codes "--number" ∷ codes "--count" ∷ []) [] words >>= asked_in

-- the first word is `generate`
abbrev pub is_generate : List (List ℕ) → Bool
is_generate [] = false
is_generate (word ∷ words) = bytes_eq word (codes "generate")

-- ---- the answers

-- The text is the summary of the workload's outcomes: each item's, in their order, by the judgement's definition under the trust file
-- that the workload's repository offers.
pub record IsSummary (number count : ℕ) (text : List ℕ) : Type 0 where
  pub plan : Plan
  pub planned : IsPlan number count plan
  pub whole : length (outcomes_of number count plan) ≡ count
  pub text_is : text ≡ summary_of (outcomes_of number count plan)

-- what status 0 means: the words ask for a workload, and the sink took exactly its summary
pub record Summarises (words : List (List ℕ)) (out out' : Watched (List ℕ)) : Type 0 where
  pub asked : Asked
  pub worded : asked_of words ≡ Ok asked
  pub text : List ℕ
  pub summary : IsSummary asked.number asked.count text
  pub written : TakesAll out out' text

-- the summary of the workload that the words ask for
pub record SaysSummary (words : List (List ℕ)) (said : Answer) : Type 0 where
  pub asked : Asked
  pub worded : asked_of words ≡ Ok asked
  pub text : List ℕ
  pub summary : IsSummary asked.number asked.count text
  pub said_is : said ≡ answer status.Accepted text

-- the words are outside their grammar
pub record SaysUsage (words : List (List ℕ)) (said : Answer) : Type 0 where
  pub misworded : result_ok (asked_of words) ≡ None
  pub said_is : said ≡ answer status.Usage (line_of (codes "usage"))

-- what the command says: one of the two
abbrev pub SaysOf : List (List ℕ) → Answer → Type 0
SaysOf words said = SaysSummary words said ⊎ SaysUsage words said

-- What each status means. 2: the words are outside their grammar, and the sink took exactly the line that says so. 4: the count of
-- the sink's faults rose. 5: nothing was written.
abbrev pub GenerateMeans : List (List ℕ) → Watched (List ℕ) → Watched (List ℕ) → Status → Type 0
GenerateMeans words out out' status.Accepted = Summarises words out out'
GenerateMeans words out out' status.Refused = ⊥
GenerateMeans words out out' status.Usage = (result_ok (asked_of words) ≡ None) × TakesAll out out' (line_of (codes "usage"))
GenerateMeans words out out' status.Input = ⊥
GenerateMeans words out out' status.Output = Rose out.faults out'.faults
GenerateMeans words out out' status.Memory = out' ≡ out
