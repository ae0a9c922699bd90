-- What the end of `download` says of its run.
use Rattle.std.proofs.Common.{◌≡◌, inl, inr, ℕ, List, Result, refl, subst}
use Rattle.foundation.specs.Watched.{Watched}
use Rattle.foundation.specs.declared.no_memory.NoMemory.{NoMemory}
use Rattle.command_files.specs.Ending.{EndsText}
use Rattle.command_files.specs.Starting.{Command}
use Rattle.command_files.specs.declared.answer.Answer.{Answer}
use Rattle.command_files.specs.declared.answer.Status.{Status}
use Rattle.command_files.specs.declared.answer.Status.TheVariants as status
use Rattle.command_files.proofs.Endings.{ends_so}
use Rattle.command_download.specs.Run.{Environment, Says}
use Rattle.command_download.specs.Promises.{Accepts, Refuses, Means, Completes}
use Rattle.command_download.proofs.Completing.{said_succeeds}
use Rattle.command_download.proofs.Ending.{said_means}

module _ (command : Command) (before after : Environment) (out out' : Watched (List ℕ)) (said : Result Answer NoMemory) (ended : Status)
    (s : Says command before after said) (e : EndsText said out out' ended) where
  pub end_means : Means command before after out out' ended
  end_means =
      ends_so (Says command before after) (Means command before after out out') (λ (answer : Answer). answer.status) (λ (answer : Answer). answer.text) said out out' ended s
      (λ same. same) (λ rose. inl rose) (λ it s w. said_means command before after out out' it s w) e

  pub end_accepted : ended ≡ status.Accepted → Accepts command before after out out'
  end_accepted is = subst (Means command before after out out') is end_means

  pub end_refused : ended ≡ status.Refused → Refuses command before after out out'
  end_refused is = subst (Means command before after out out') is end_means

  pub end_completes : Completes command before after out out' ended
  end_completes =
      ends_so (Says command before after) (Completes command before after out out') (λ (answer : Answer). answer.status) (λ (answer : Answer). answer.text) said out out' ended s
      (λ same f. inl refl) (λ rose f. inr (inl (refl, rose)))
      (λ it s w f. let t = said_succeeds command before after f it s in inr (inr (record { accepted = t.accepted; taken = t.taken }))) e
