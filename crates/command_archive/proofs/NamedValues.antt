-- What follows from words that were read: from their values, or from their refusal.
use Rattle.std.proofs.Common.{◌≡◌, ◌≢◌, Result, Ok, Err, IfOk, IfErr, ap, ◌∙◌}
use Rattle.foundation.specs.Steps.{◌>>=◌}
use Rattle.command_files.specs.Named.{Values}
use Rattle.command_files.specs.declared.usage_fault.UsageFault.{UsageFault}
use Rattle.command_files.specs.declared.usage_fault.UsageFault.TheVariants.{NoMemory}

module _ {A : Type 0} (read : Result Values UsageFault) (of : Values → Result A UsageFault) where
  pub read_ok : (found : Values) (result : Result A UsageFault) → read ≡ Ok found → IfOk result (λ l. of found ≡ Ok l)
      → IfOk result (λ l. (read >>= of) ≡ Ok l)
  read_ok found (Ok l) e h = ap (λ r. r >>= of) e ∙ h
  read_ok found (Err f) e h = tt

  pub read_err : (found : Values) (result : Result A UsageFault) → read ≡ Ok found → IfErr result (λ e. e ≢ NoMemory → of found ≡ Err e)
      → IfErr result (λ e. e ≢ NoMemory → (read >>= of) ≡ Err e)
  read_err found (Ok l) e h = tt
  read_err found (Err f) e h = λ n. ap (λ r. r >>= of) e ∙ h n

  pub unread_err : (f : UsageFault) → read ≡ Err f → (read >>= of) ≡ Err f
  unread_err f e = ap (λ r. r >>= of) e
