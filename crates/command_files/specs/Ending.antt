-- The end of every command: what is said is written, and has a status.
use Rattle.std.specs.Prelude.{◌≡◌, ◌⊎◌, ℕ, List, Result, Ok, Err}
use Rattle.foundation.specs.Watched.{Watched, Rose}
use Rattle.foundation.specs.declared.no_memory.NoMemory.{NoMemory}
use Rattle.command_files.specs.Sink.{WritesText}
use Rattle.command_files.specs.declared.answer.Answer.{Answer}
use Rattle.command_files.specs.declared.answer.Status.{Status}
use Rattle.command_files.specs.declared.answer.Status.TheVariants.{Output, Memory}
use Rattle.command_files.specs.declared.sink.SinkFault.{SinkFault}

-- the sink took exactly the text
abbrev pub TakesAll : Watched (List ℕ) → Watched (List ℕ) → List ℕ → Type 0
TakesAll out out' text = WritesText {E = SinkFault} out out' text (Ok tt)

-- The end of a run that says this, whatever holds it: nothing is written out of memory, and a part of the octets where a write failed.
pub data Ends {A : Type 0} (status_of : A → Status) (octets_of : A → List ℕ) (said : Result A NoMemory) (out out' : Watched (List ℕ))
    (ended : Status) : Type 0 where
  ends_unsaid : (e : NoMemory) → said ≡ Err e → out' ≡ out → ended ≡ Memory → Ends status_of octets_of said out out' ended
  ends_cut : (it : A) (fault : SinkFault) → said ≡ Ok it → WritesText out out' (octets_of it) (Err fault) → ended ≡ Output
      → Ends status_of octets_of said out out' ended
  ends_written : (it : A) → said ≡ Ok it → TakesAll out out' (octets_of it) → ended ≡ status_of it
      → Ends status_of octets_of said out out' ended

-- that of a run which says a text
abbrev pub EndsText : Result Answer NoMemory → Watched (List ℕ) → Watched (List ℕ) → Status → Type 0
EndsText said out out' ended = Ends (λ (answer : Answer). answer.status) (λ (answer : Answer). answer.text) said out out' ended

-- A run of which this holds that it says: it is said, and so it ends.
pub record SaysAndEnds (Says : Result Answer NoMemory → Type 0) (out out' : Watched (List ℕ)) (ended : Status) : Type 0 where
  pub said : Result Answer NoMemory
  pub says : Says said
  pub ends : EndsText said out out' ended

-- Memory was wanting, or the sink failed, or P.
abbrev pub OrFails : Watched (List ℕ) → Watched (List ℕ) → Status → Type 0 → Type 0
OrFails out out' ended P = (ended ≡ Memory) ⊎ (((ended ≡ Output) × Rose out.faults out'.faults) ⊎ P)
