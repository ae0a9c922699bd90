use Rattle.std.proofs.Common.{ℕ, ◌≤◌, Ok, sym, ap, subst, ◌∙◌}
use Rattle.std.proofs.lemmas.Result.{IfOk-weaker}
use Rattle.der_numbers.specs.Numbers.{number-there, contents_of}
use Rattle.der_numbers.proofs.number.NumberDer.contents.Goals as goal

pub returns-clause-ok : goal.returns-clause-ok
returns-clause-ok g c =
    let there = number-there g.K.NumberKind.most c.args.self.now (subst (λ (z : ℕ). z ≤ g.K.NumberKind.most) c.self.view_is c.self.invariant) in
    IfOk-weaker c.contents_of.result _ _ (λ a e. rw there (ap (λ z. Ok z) (ap contents_of (sym c.self.view_is) ∙ sym e))) c.contents_of.ensures.ok
