-- What the end of a command says of its run.
use Rattle.std.proofs.Common.{◌≡◌, ℕ, List, Result, Ok, Err, sym, subst}
use Rattle.foundation.specs.Watched.{Watched, Rose}
use Rattle.foundation.specs.declared.no_memory.NoMemory.{NoMemory}
use Rattle.command_files.specs.Ending.{TakesAll, Ends, ends_unsaid, ends_cut, ends_written, EndsText, SaysAndEnds}
use Rattle.command_files.specs.declared.answer.Answer.{Answer}
use Rattle.command_files.specs.declared.answer.Status.{Status}
use Rattle.command_files.specs.declared.answer.Status.TheVariants as status

-- Whatever holds of each end holds of the run: of nothing written, of a write that failed, and of what is said and taken whole.
pub ends_so : {A : Type 0} (Says : Result A NoMemory → Type 0) (M : Status → Type 0) (status_of : A → Status) (octets_of : A → List ℕ) (said : Result A NoMemory)
    (out out' : Watched (List ℕ)) (ended : Status) → Says said → (out' ≡ out → M status.Memory)
    → (Rose out.faults out'.faults → M status.Output) → ((it : A) → Says (Ok it) → TakesAll out out' (octets_of it) → M (status_of it))
    → Ends status_of octets_of said out out' ended → M ended
ends_so Says M status_of octets_of said out out' ended s unsaid failed whole (ends_unsaid e is same h) = subst M (sym h) (unsaid same)
ends_so Says M status_of octets_of said out out' ended s unsaid failed whole (ends_cut it fault is w h) = subst M (sym h) (failed w.failed)
ends_so Says M status_of octets_of said out out' ended s unsaid failed whole (ends_written it is w h) = subst M (sym h) (whole it (subst Says is s) w)

pub says_and_ends : (Says : Result Answer NoMemory → Type 0) (out out' : Watched (List ℕ)) (ended : Status) (said : Result Answer NoMemory) → Says said
    → EndsText said out out' ended → SaysAndEnds Says out out' ended
says_and_ends Says out out' ended said s e = record { said = said; says = s; ends = e }
