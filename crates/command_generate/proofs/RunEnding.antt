-- What the end of `generate` says of its run.
use Rattle.std.proofs.Common.{◌≡◌, inl, inr, ℕ, List, Result, IfOk, sym, subst}
use Rattle.foundation.specs.Watched.{Watched}
use Rattle.foundation.specs.declared.no_memory.NoMemory.{NoMemory}
use Rattle.command_files.specs.Ending.{TakesAll, EndsText}
use Rattle.command_files.specs.declared.answer.Answer.{Answer}
use Rattle.command_files.specs.declared.answer.Status.{Status}
use Rattle.command_files.proofs.Endings.{ends_so}
use Rattle.command_generate.specs.Generate.{SaysOf, GenerateMeans}

said_means : (words : List (List ℕ)) (out out' : Watched (List ℕ)) (said : Answer) → SaysOf words said → TakesAll out out' said.text
    → GenerateMeans words out out' said.status
said_means words out out' said (inl s) w =
    subst (λ (a : Answer). TakesAll out out' a.text → GenerateMeans words out out' a.status) (sym s.said_is)
    (λ w. record { asked = s.asked; worded = s.worded; text = s.text; summary = s.summary; written = w }) w
said_means words out out' said (inr u) w =
    subst (λ (a : Answer). TakesAll out out' a.text → GenerateMeans words out out' a.status) (sym u.said_is) (λ w. (u.misworded, w)) w

pub end_means : (words : List (List ℕ)) (out out' : Watched (List ℕ)) (said : Result Answer NoMemory) (ended : Status) → IfOk said (SaysOf words)
    → EndsText said out out' ended → GenerateMeans words out out' ended
end_means words out out' said ended s e =
    ends_so (λ (r : Result Answer NoMemory). IfOk r (SaysOf words)) (GenerateMeans words out out') _ _ said out out' ended s (λ same. same) (λ rose. rose)
    (λ it s w. said_means words out out' it s w) e
