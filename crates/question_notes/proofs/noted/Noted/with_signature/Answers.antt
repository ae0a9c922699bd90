use Rattle.std.proofs.Common.{◌∙◌, sym, ap, refl, length, arith}
use Rattle.std.proofs.Math.Logic.{∥∥₁_map}
use Rattle.question_notes.specs.Notes.{has_room}
use Rattle.question_notes.proofs.AddFacts.{signature_more, signature_asked}
use Rattle.question_notes.proofs.noted.Noted.with_signature.Goals as goal

pub invariant_of-result : goal.invariant_of-result
invariant_of-result c = record {
  read =
      signature_more _ _ c.args.scheme c.args.key.now c.args.subject.now c.args.signature.now c.args.self.tables c.add.new.self _ c.args.self.read c.in_ok-push_accept_line.ensures c.in_ok-add.ensures
      (rw (c.in_ok-new.ensures, c.in_ok-new-2.ensures, c.in_ok-new-3.ensures) refl) (sym c.is_subject.ensures ∙ c.if-not-is_subject.false)
      (λ i. let f = c.type_inv.key i in omega arith) (λ i. let f = c.type_inv.subject i in omega arith) (λ i. let f = c.type_inv.signature i in omega arith);
  asked = ∥∥₁_map c.args.self.asked (λ asked.
      signature_asked _ _ c.args.scheme c.args.key.now c.args.subject.now c.args.signature.now c.args.self.tables c.add.new.self _ asked c.in_ok-push_accept_line.ensures c.in_ok-add.ensures
      (rw (c.in_ok-new.ensures, c.in_ok-new-2.ensures, c.in_ok-new-3.ensures) refl) (sym c.is_subject.ensures ∙ c.if-not-is_subject.false) (sym c.accepts.ensures ∙ c.if-accepts.false)
      (ap (λ t. has_room t (length c.args.key.now) (length c.args.subject.now) (length c.args.signature.now)) (sym c.as_str.ensures.value) ∙ sym c.has_room.ensures ∙ c.if-not-has_room.false));
}
