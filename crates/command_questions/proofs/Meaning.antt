-- What status 0 of a run of questions means.
use Rattle.std.proofs.Common.{◌≡◌, ℕ, List, Result, Ok, sym, ap, ◌∙◌, subst}
use Rattle.foundation.specs.Watched.{Watched}
use Rattle.foundation.specs.Results.{ok_same, no_both}
use Rattle.command_files.specs.Ending.{TakesAll, SaysAndEnds}
use Rattle.command_files.specs.Inputs.{Held}
use Rattle.command_files.specs.Starting.{Environment, unstarted, stopped, begun}
use Rattle.command_files.specs.declared.answer.Answer.{Answer}
use Rattle.command_files.specs.declared.answer.Status.{Status}
use Rattle.command_files.specs.declared.answer.Status.TheVariants.{Accepted}
use Rattle.command_files.specs.declared.gather.CommandStop.{CommandStop}
use Rattle.command_files.specs.declared.tables.Tables.{Tables}
use Rattle.command_files.specs.declared.usage_fault.UsageFault.{UsageFault}
use Rattle.command_files.proofs.Endings.{ends_so}
use Rattle.command_files.proofs.Starts.{stopped_means}
use Rattle.command_questions.specs.Means.{SaysOf, WritesOf}

module _ {L A O : Type 0} (words : Result L UsageFault) (of : Held → Result A CommandStop) (Asks : L → A → Tables → O → O → Type 0) (before after : Environment O) (out out' : Watched (List ℕ)) where
  -- what a status means
  abbrev M : Status → Type 0
  M s = s ≡ Accepted → WritesOf words of Asks before after out out'

  said_rows : (said : Answer) → SaysOf words of Asks before after (Ok said) → TakesAll out out' said.text → M said.status
  said_rows said (unstarted e s o eq) takes = no_both said e eq
  said_rows said (stopped line s o eq) takes =
      λ e. absurd (stopped_means words of before after out out' (λ s. s ≡ Accepted → ⊥) (λ m h. cc) (λ l h. cc) o line s
      (subst (λ (a : Answer). TakesAll out out' a.text) (ok_same said line eq) takes) (ap (λ (a : Answer). a.status) (sym (ok_same said line eq)) ∙ e))
  said_rows said (begun layout given b r) takes =
      λ e. record { layout = layout; given = given; read = b; tables = r.tables; asks = r.asks; text = said.text; rows = r.rows; written = takes }

  -- where questions are asked, the rows were written
  pub asked_rows : (ended : Status) → SaysAndEnds (SaysOf words of Asks before after) out out' ended → M ended
  asked_rows ended r =
      ends_so (SaysOf words of Asks before after) M (λ (a : Answer). a.status) (λ (a : Answer). a.text) r.said out out' ended r.says
      (λ same e. cc) (λ rose e. cc) said_rows r.ends
