use Rattle.question_notes.proofs.AddFacts.{nothing_read, none_asked}
use Rattle.question_notes.proofs.noted.Noted.new.Goals as goal

pub invariant_of-result : goal.invariant_of-result
invariant_of-result c = record { read = nothing_read _ _ c.new-2.ensures.bytes c.new.ensures; asked = ∣ none_asked _ _ c.new-2.ensures.bytes c.new.ensures ∣₁ }
