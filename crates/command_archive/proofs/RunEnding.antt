-- What the end of `archive` says of its run.
use Rattle.std.proofs.Common.{inl, inr, ℕ, List, Result, refl}
use Rattle.foundation.specs.Watched.{Watched}
use Rattle.foundation.specs.declared.no_memory.NoMemory.{NoMemory}
use Rattle.command_files.specs.Ending.{Ends}
use Rattle.command_files.specs.Starting.{Command}
use Rattle.command_files.specs.declared.answer.Status.{Status}
use Rattle.command_files.proofs.Endings.{ends_so}
use Rattle.command_archive.specs.declared.output.Output.{Output}
use Rattle.command_archive.specs.Output.{status_of, octets_of}
use Rattle.command_archive.specs.Run.{Environment, Says, Means}
use Rattle.command_archive.specs.Complete.{Completes}
use Rattle.command_archive.proofs.Ending.{said_means, said_completes}

module _ (command : Command) (before after : Environment) (out out' : Watched (List ℕ)) (said : Result Output NoMemory) (ended : Status)
    (s : Says command before after said) (e : Ends status_of octets_of said out out' ended) where
  pub end_means : Means command before after out out' ended
  end_means =
      ends_so (Says command before after) (Means command before after out out') status_of octets_of said out out' ended s (λ same. same) (λ rose. rose)
      (λ it s w. said_means command before after out out' it _ s w refl) e

  pub end_completes : Completes command before after out out' ended
  end_completes =
      ends_so (Says command before after) (Completes command before after out out') status_of octets_of said out out' ended s
      (λ same chain f offer. inl refl) (λ rose chain f offer. inr (inl (refl, rose)))
      (λ it s w. said_completes command before after out out' it _ s w refl) e
