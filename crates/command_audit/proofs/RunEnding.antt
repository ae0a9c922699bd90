-- What the end of `audit` says of its run.
use Rattle.std.proofs.Common.{inl, inr, ℕ, List, Result, refl}
use Rattle.foundation.specs.Watched.{Watched}
use Rattle.foundation.specs.declared.no_memory.NoMemory.{NoMemory}
use Rattle.command_files.specs.Ending.{EndsText}
use Rattle.command_files.specs.declared.answer.Answer.{Answer}
use Rattle.command_files.specs.declared.answer.Status.{Status}
use Rattle.command_files.proofs.Endings.{ends_so}
use Rattle.command_audit.specs.Run.{Environment, Says, Means}
use Rattle.command_audit.specs.Complete.{Completes}
use Rattle.command_audit.proofs.Saying.{said_means, said_completes}

module _ (words : List (List ℕ)) (before after : Environment) (out out' : Watched (List ℕ)) (said : Result Answer NoMemory) (ended : Status)
    (s : Says words before after said) (e : EndsText said out out' ended) where
  pub end_means : Means words before after out out' ended
  end_means =
      ends_so (Says words before after) (Means words before after out out') _ _ said out out' ended s (λ same. same) (λ rose. rose)
      (λ it s w. said_means words before after out out' it _ s w refl) e

  pub end_completes : Completes words before after out out' ended
  end_completes =
      ends_so (Says words before after) (Completes words before after out out') _ _ said out out' ended s (λ same older newer f. inl refl)
      (λ rose older newer f. inr (inl (refl, rose))) (λ it s w. said_completes words before after out out' it _ s w refl) e
