-- What a write promises, and what the writing of a whole text promises.
use Rattle.std.specs.Prelude.{◌≡◌, ℕ, ◌<◌, ◌≤◌, List, length, take, min, Bool, true, false, ◌&&◌, ◌==◌, nat_lt}
use Rattle.std.specs.Prelude.{if◌then◌else◌, Option, Result, Ok, Err, IfOk, OnErr}
use Rattle.std.specs.Io.KnownBytes.{append_known}
use Rattle.foundation.specs.Watched.{Watched, Rose}
use Rattle.command_files.specs.declared.sink.SinkFault.{SinkFault}
use Rattle.command_files.specs.declared.sink.SinkFault.TheVariants.{Failed}

-- the told bytes grow by those that were taken
abbrev pub Takes : {E : Type 0} → Option (List ℕ) → Option (List ℕ) → List ℕ → Result ℕ E → Type 0
Takes old new bytes (Ok n) = new ≡ append_known old (take n bytes)
Takes old new bytes (Err e) = new ≡ old

-- the promise of a write
pub record Writes {E : Type 0} (old new : Watched (List ℕ)) (bytes : List ℕ) (result : Result ℕ E) : Type 0 where
  pub later : old.faults ≤ new.faults
  pub failed : OnErr result (Rose old.faults new.faults)
  pub bound : IfOk result (λ n. n ≤ length bytes)
  pub progress : IfOk result (λ n. 0 < length bytes → 0 < n)
  pub taken : Takes old.told new.told bytes result

-- what a write to a sink in memory answers: Failed where the call is named, or where a piece has bytes and there is room
-- for none, else how many of the piece's bytes there is room for
abbrev pub write_of : Bool → ℕ → List ℕ → Result ℕ SinkFault
write_of true room bytes = Err Failed
write_of false room bytes = if room == 0 && nat_lt 0 (length bytes) then Err Failed else Ok (min room (length bytes))

-- the told bytes grew by the text where it was written, and by a part that it begins with where a write failed
abbrev pub TakesText : {E : Type 0} → Option (List ℕ) → Option (List ℕ) → List ℕ → Result (Unit {0}) E → Type 0
TakesText old new text (Ok x) = new ≡ append_known old text
TakesText old new text (Err e) = (n : ℕ) × (n ≤ length text) × (new ≡ append_known old (take n text))

-- the promise of the writing of a text
pub record WritesText {E : Type 0} (old new : Watched (List ℕ)) (text : List ℕ) (result : Result (Unit {0}) E) : Type 0 where
  pub later : old.faults ≤ new.faults
  pub failed : OnErr result (Rose old.faults new.faults)
  pub taken : TakesText old.told new.told text result
