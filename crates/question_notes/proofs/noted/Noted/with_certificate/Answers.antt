use Rattle.std.proofs.Common.{◌∙◌, sym, ap, is_some, length, arith}
use Rattle.std.proofs.Math.Logic.{∥∥₁_map}
use Rattle.question_notes.specs.Notes.{has_room}
use Rattle.question_notes.proofs.AddFacts.{copied_some, certificate_more, certificate_asked}
use Rattle.question_notes.proofs.noted.Noted.with_certificate.Goals as goal

pub invariant_of-result : goal.invariant_of-result
invariant_of-result c = record {
  read =
      certificate_more _ _ c.args.text.now c.args.der.now c.args.self.tables c.insert.new.self _ _ c.args.self.read c.in_ok-push_armor_line.ensures c.in_ok-insert.ensures
      c.in_ok-new.ensures c.in_ok-new-2.ensures (sym c.is_der.ensures ∙ c.if-is_der.false)
      (sym (ap is_some c.get.ensures) ∙ copied_some c.get.result ∙ sym c.is_some.ensures ∙ c.if-is_some.false)
      (λ i. let f = c.type_inv.text i in omega arith) (λ i. let f = c.type_inv.der i in omega arith);
  asked = ∥∥₁_map c.args.self.asked (λ asked.
      certificate_asked _ _ c.args.text.now c.args.der.now c.args.self.tables c.insert.new.self _ _ asked c.in_ok-push_armor_line.ensures c.in_ok-insert.ensures
      c.in_ok-new.ensures c.in_ok-new-2.ensures (sym c.is_der.ensures ∙ c.if-is_der.false)
      (sym (ap is_some c.get.ensures) ∙ copied_some c.get.result ∙ sym c.is_some.ensures ∙ c.if-is_some.false) (ap (λ t. has_room t (length c.args.text.now) (length c.args.der.now) 0) (sym c.as_str.ensures.value) ∙ sym c.has_room.ensures ∙ c.if-not-has_room.false) c.requires);
}
