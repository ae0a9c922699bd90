-- How every command starts: its words are read first, and then its inputs. Where the words are refused no input is read, and where an input
-- is refused nothing else is called.
use Rattle.std.specs.Prelude.{◌≡◌, ◌≢◌, ◌⊎◌, ℕ, List, codes, unwrap_or, Some, Result, Ok, Err, IfOk, IfErr}
use Rattle.jiff_core.specs.declared.timestamp.Timestamp as jiff
use Rattle.foundation.specs.Watched.{Watched}
use Rattle.foundation.specs.declared.no_memory.NoMemory.{NoMemory}
use Rattle.command_files.specs.Answer.{stop_answer}
use Rattle.command_files.specs.Ending.{TakesAll}
use Rattle.command_files.specs.Gather.{word_of, MalformedCause, StopCause, ReadsAs}
use Rattle.command_files.specs.Inputs.{Held, Supply}
use Rattle.command_files.specs.Printed.{line_of, pair_line}
use Rattle.command_files.specs.declared.answer.Answer.{Answer}
use Rattle.command_files.specs.declared.command_line.CommandLine.{CommandLine}
use Rattle.command_files.specs.declared.gather.CommandStop.{CommandStop}
use Rattle.command_files.specs.declared.gather.CommandStop.TheVariants.{Words, Input}
use Rattle.command_files.specs.declared.inputs.InputFile.{InputFile}
use Rattle.command_files.specs.declared.layout.Layout.{Layout}
use Rattle.command_files.specs.declared.starting.Started.{Started}
use Rattle.command_files.specs.declared.starting.Started.TheVariants.{Asked, Stopped}
use Rattle.command_files.specs.declared.usage_fault.UsageFault.{UsageFault}
use Rattle.command_files.specs.declared.usage_fault.UsageFault.TheVariants.{Usage, NoMemory as Wanting}

-- ---- what a command is told, finds and leaves

-- its words, and the clock's instant
pub record Command : Type 0 where
  pub words : List (List ℕ)
  pub clock : jiff.Timestamp

abbrev pub command_of : CommandLine → Command
command_of line = record { words = line.words.now; clock = line.clock }

-- the instant of the words, else the clock's
abbrev pub now_of : Layout → jiff.Timestamp → jiff.Timestamp
now_of layout clock = unwrap_or layout.now clock

-- what a run finds and leaves, but for its output: the inputs, and what its judgement goes to
pub record Environment (O : Type 0) : Type 0 where
  pub inputs : Supply
  pub outside : O

-- ---- the start

-- the words and the inputs were read
pub record Begins {L A : Type 0} (words : Result L UsageFault) (of : Held → Result A CommandStop) (before after : Supply)
    (layout : L) (given : A) : Type 0 where
  pub worded : words ≡ Ok layout
  pub read : ReadsAs of before after (Ok given)

-- the words were read, and an input wasn't
pub record LacksOne {L A : Type 0} (words : Result L UsageFault) (of : Held → Result A CommandStop) (before after : Supply)
    (stop : CommandStop) : Type 0 where
  pub layout : L
  pub worded : words ≡ Ok layout
  pub refused : ReadsAs of before after (Err stop)

-- what is said of words outside their grammar, and no input was read; or of an input
pub data Stops {L A : Type 0} (words : Result L UsageFault) (of : Held → Result A CommandStop) (before after : Supply)
    (said : Answer) : Type 0 where
  misworded : words ≡ Err Usage → after ≡ before → stop_answer Words ≡ Some said → Stops words of before after said
  lacking : (stop : CommandStop) → LacksOne words of before after stop → stop_answer stop ≡ Some said → Stops words of before after said

-- a start: what the words and the inputs ask for, or what is said of the stop; and where memory is wanting one of these too
abbrev pub Starts : {L A : Type 0} → Result L UsageFault → (Held → Result A CommandStop) → Supply → Supply
    → Result (Started L A) NoMemory → Type 0
Starts words of before after (Ok (Asked layout given)) = Begins words of before after layout given
Starts words of before after (Ok (Stopped said)) = Stops words of before after said
Starts words of before after (Err e) = (after ≡ before) ⊎ ((stop : CommandStop) × LacksOne words of before after stop)

-- the words read as this, or memory was wanting
pub record AreRead {L : Type 0} (words result : Result L UsageFault) : Type 0 where
  pub ok : IfOk result (λ layout. words ≡ Ok layout)
  pub err : IfErr result (λ e. e ≢ Wanting → words ≡ Err e)

-- ---- the whole

-- What a command says: what stops its start, and then nothing but its inputs was called; else what it says of what it judges.
pub data Decides {L A O S : Type 0} (words : Result L UsageFault) (of : Held → Result A CommandStop) (says : Answer → S)
    (Judges : L → A → O → O → Result S NoMemory → Type 0) (before after : Environment O) (result : Result S NoMemory) : Type 0 where
  unstarted : (e : NoMemory) → Starts words of before.inputs after.inputs (Err e) → after.outside ≡ before.outside → result ≡ Err e
      → Decides words of says Judges before after result
  stopped : (said : Answer) → Stops words of before.inputs after.inputs said → after.outside ≡ before.outside → result ≡ Ok (says said)
      → Decides words of says Judges before after result
  begun : (layout : L) (given : A) → Begins words of before.inputs after.inputs layout given
      → Judges layout given before.outside after.outside result → Decides words of says Judges before after result

-- ---- what the statuses of a stop mean

-- The words are outside their grammar, and nothing was called; or the policy or the provider's file is, and only the inputs were; and the
-- sink took exactly the line that says so.
abbrev pub Misuses : {L O : Type 0} → Result L UsageFault → Environment O → Environment O → Watched (List ℕ) → Watched (List ℕ) → Type 0
Misuses words before after out out' =
    ((words ≡ Err Usage) × (after ≡ before) × TakesAll out out' (line_of (codes "usage")))
    ⊎ ((which : InputFile) × MalformedCause which before.inputs × (after.outside ≡ before.outside)
    × TakesAll out out' (pair_line (codes "usage") (word_of which)))

-- This input is the last that wasn't given, and the count of the inputs' faults rose, or told inputs lack it or hold it longer than its
-- limit; nothing but the inputs was called; and the sink took exactly the line that names it.
abbrev pub LacksInput : {O : Type 0} → Environment O → Environment O → Watched (List ℕ) → Watched (List ℕ) → Type 0
LacksInput before after out out' =
    (which : InputFile) × StopCause before.inputs after.inputs (Input which) × (after.outside ≡ before.outside)
    × TakesAll out out' (pair_line (codes "input") (word_of which))
