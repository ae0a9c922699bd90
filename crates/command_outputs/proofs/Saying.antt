-- What follows what is said of a verification.
use Rattle.std.proofs.Common.{◌≡◌, ℕ, List, Option, Some, None, Result, Ok, Err, IfOk, refl, ap, ◌∙◌, subst}
use Rattle.sigstore_judgement.specs.declared.rules.JudgedByRule.{JudgedByRule}
use Rattle.foundation.specs.Watched.{Watched}
use Rattle.foundation.specs.declared.no_memory.NoMemory.{NoMemory as OutOfMemory}
use Rattle.jiff_core.specs.declared.timestamp.Timestamp as jiff
use Rattle.command_files.specs.declared.answer.Answer.{Answer}
use Rattle.command_files.specs.declared.gather.Gathered.{Gathered}
use Rattle.command_verify.specs.Run.{given_by}
use Rattle.command_download.specs.Shelf.{Places}
use Rattle.command_download.specs.declared.shelf.Placed.{Placed}
use Rattle.command_download.specs.declared.shelf.ShelfFault.{ShelfFault}
use Rattle.command_download.specs.declared.shelf.ShelfFault.TheVariants.{Failed}
use Rattle.command_ways.specs.Judging.{VerifiesWay}
use Rattle.command_ways.specs.Run.{telling_of}
use Rattle.command_ways.specs.declared.judging.Came.{Came}
use Rattle.command_ways.specs.declared.layout.Way.{Way}
use Rattle.command_ways.specs.declared.report.Telling.{Telling}
use Rattle.command_outputs.specs.declared.layout.Outputs.{Outputs}
use Rattle.command_outputs.specs.Payload.{payload_of}
use Rattle.command_outputs.specs.Concluding.{no_envelope_answer, unplaced_answer, told_answer, Puts, want_putting, unplaced, Delivers, want_payload, no_envelope, delivered, Gives, Yields, yields, Concludes}
use Rattle.command_outputs.specs.Run.{Outside, JudgesOutputs}

-- ---- where the payload is put

module _ (path payload : List ℕ) (report : Answer) (old new : Watched (List Placed)) where
  -- it couldn't be, and that is said, or memory was wanting
  pub unplaced_so : (fault : ShelfFault) (result : Result Answer OutOfMemory) → fault ≡ Failed → Places {T = Unit {0}} old new path payload (Err fault)
      → IfOk result (λ said. said ≡ unplaced_answer) → Puts path payload report old new result
  unplaced_so fault (Ok said) is p same = unplaced (subst (λ (f : ShelfFault). Places {T = Unit {0}} old new path payload (Err f)) is p) (ap (λ (a : Answer). Ok a) same)
  unplaced_so fault (Err e) is p same = want_putting e p.puts refl

module _ (bundle path : List ℕ) (report : Answer) (old new : Watched (List Placed)) (held : Option (List ℕ)) (read : payload_of bundle ≡ Ok held) where
  -- there is no envelope, and that is said, or memory was wanting
  pub no_envelope_so : (result : Result Answer OutOfMemory) → held ≡ None → new ≡ old → IfOk result (λ said. said ≡ no_envelope_answer)
      → Delivers bundle path report old new result
  no_envelope_so (Ok said) none kept same = no_envelope (read ∙ ap (λ (o : Option (List ℕ)). Ok o) none) kept (ap (λ (a : Answer). Ok a) same)
  no_envelope_so (Err e) none kept same = want_payload e kept refl

  pub delivered_so : (result : Result Answer OutOfMemory) (payload bytes : List ℕ) → held ≡ Some payload → bytes ≡ payload
      → Puts path bytes report old new result → Delivers bundle path report old new result
  delivered_so result payload bytes some same p =
      delivered payload (read ∙ ap (λ (o : Option (List ℕ)). Ok o) some) (subst (λ b. Puts path b report old new result) same p)

-- ---- behind the lines

pub yields_so : (line : Option ℕ) (outputs : Outputs) (bundle : List ℕ) (judged : JudgedByRule) (said report : Answer) (old new : Watched (List Placed))
    (result : Result Answer OutOfMemory) → report ≡ told_answer line outputs.details bundle judged said
    → Gives outputs.statement bundle report old new result → Yields line outputs bundle judged said old new result
yields_so line outputs bundle judged said report old new result same g =
    yields (subst (λ (x : Answer). Gives outputs.statement bundle x old new result) same g)

-- ---- the verification, and what follows it

pub judges_so : (way : Way) (outputs : Outputs) (gathered : Gathered) (now : jiff.Timestamp) (before after : Outside) (came : Came) (telling : Telling)
    (bundle : List ℕ) (result : Result Answer OutOfMemory) → telling ≡ telling_of gathered way.told → bundle ≡ gathered.bundle
    → VerifiesWay (given_by gathered now) way before.verified after.verified came
    → Concludes telling None outputs bundle came before.shelf after.shelf result → JudgesOutputs way outputs gathered now before after result
judges_so way outputs gathered now before after came telling bundle result t b v c = record {
  came = came;
  verifies = v;
  concludes =
      subst (λ (x : Telling). Concludes x None outputs gathered.bundle came before.shelf after.shelf result) t
      (subst (λ (x : List ℕ). Concludes telling None outputs x came before.shelf after.shelf result) b c);
}

-- at the same moment
pub judges_at : (way : Way) (outputs : Outputs) (gathered : Gathered) (now told : jiff.Timestamp) (before after : Outside) (result : Result Answer OutOfMemory)
    → now ≡ told → JudgesOutputs way outputs gathered now before after result → JudgesOutputs way outputs gathered told before after result
judges_at way outputs gathered now told before after result same h = subst (λ n. JudgesOutputs way outputs gathered n before after result) same h
