-- What the end of `gate` says of its run.
use Rattle.std.proofs.Common.{inl, inr, ℕ, List, Result, refl}
use Rattle.foundation.specs.Watched.{Watched}
use Rattle.foundation.specs.declared.no_memory.NoMemory.{NoMemory}
use Rattle.command_files.specs.Ending.{EndsText}
use Rattle.command_files.specs.Starting.{Command}
use Rattle.command_files.specs.declared.answer.Answer.{Answer}
use Rattle.command_files.specs.declared.answer.Status.{Status}
use Rattle.command_files.proofs.Endings.{ends_so}
use Rattle.command_gate.specs.Run.{Environment, Resting, Says, Means, Rested}
use Rattle.command_gate.specs.Complete.{Completes}
use Rattle.command_gate.proofs.Meaning.{said_means, said_rests}
use Rattle.command_gate.proofs.Completing.{said_completes}

module _ (resting : Resting) (command : Command) (before after : Environment) (out out' : Watched (List ℕ)) (said : Result Answer NoMemory) (ended : Status)
    (s : Says resting command before after said) (e : EndsText said out out' ended) where
  pub end_means : Means command before after out out' ended
  end_means =
      ends_so (Says resting command before after) (Means command before after out out') _ _ said out out' ended s (λ same. same) (λ rose. rose)
      (λ it s w. said_means resting command before after out out' it s w) e

  pub end_completes : Completes command before after out out' ended
  end_completes =
      ends_so (Says resting command before after) (Completes command before after out out') _ _ said out out' ended s (λ same chain contents f. inl refl)
      (λ rose chain contents f. inr (inl (refl, rose))) (λ it s w. said_completes resting command before after out out' it s w) e

  pub end_rests : Rested resting command before after out out' ended
  end_rests =
      ends_so (Says resting command before after) (Rested resting command before after out out') _ _ said out out' ended s (λ same. tt) (λ rose. tt)
      (λ it s w. said_rests resting command before after out out' it s w) e
