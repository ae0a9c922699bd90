use Rattle.std.proofs.Common.{Ok, sym, ap, ◌∙◌}
use Rattle.command_ways.proofs.Words.{told_third, told_other}
use Rattle.command_ways.proofs.digests.told_by.Goals as goal

pub returns-in-Some-3-clause-ok : goal.returns-in-Some-3-clause-ok
returns-in-Some-3-clause-ok c =
    told_third c.args.word.now _ (c.in_ok-digest.ensures.ok ∙ ap (λ o. Ok o) c.in_default.is) (c.in_ok-digest-2.ensures.ok ∙ ap (λ o. Ok o) c.in_default-2.is)
    (c.in_ok-digest-3.ensures.ok ∙ ap (λ o. Ok o) c.in-Some-3.is)

pub returns-then-is_plain-clause-ok : goal.returns-then-is_plain-clause-ok
returns-then-is_plain-clause-ok c =
    told_other c.args.word.now _ (c.in_ok-digest.ensures.ok ∙ ap (λ o. Ok o) c.in_default.is) (c.in_ok-digest-2.ensures.ok ∙ ap (λ o. Ok o) c.in_default-2.is)
    (c.in_ok-digest-3.ensures.ok ∙ ap (λ o. Ok o) c.in_default-3.is) (sym c.if-is_plain.ensures)

pub returns-clause-err : goal.returns-clause-err
returns-clause-err c = λ n.
    told_other c.args.word.now _ (c.in_ok-digest.ensures.ok ∙ ap (λ o. Ok o) c.in_default.is) (c.in_ok-digest-2.ensures.ok ∙ ap (λ o. Ok o) c.in_default-2.is)
    (c.in_ok-digest-3.ensures.ok ∙ ap (λ o. Ok o) c.in_default-3.is) (sym c.if-is_plain.ensures)
