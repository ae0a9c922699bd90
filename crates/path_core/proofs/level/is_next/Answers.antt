use Rattle.std.proofs.Common.{◌∙◌, sym}
use Rattle.path_core.specs.Counts.{under}
use Rattle.path_core.specs.Search.{setting_of}
use Rattle.path_core.proofs.Links.{goes_unfit, goes_fit}
use Rattle.path_core.proofs.level.is_next.Goals as goal

pub returns-then-not-is_fit-clause-value : goal.returns-then-not-is_fit-clause-value
returns-then-not-is_fit-clause-value g c = λ judge agrees.
    let v = under (setting_of g.C.CryptoProvider.accepts c.args.given.now) judge in
    sym (goes_unfit v c.args.below c.args.source c.args.position _ c.requires.position (sym c.is_fit.ensures ∙ c.if-not-is_fit.true))

pub returns-clause-value : goal.returns-clause-value
returns-clause-value g c = λ judge agrees.
    let v = under (setting_of g.C.CryptoProvider.accepts c.args.given.now) judge in
    c.in_ok-is_link.ensures.value judge agrees ∙ sym (goes_fit v c.args.below c.args.source c.args.position _ c.requires.position (sym c.is_fit.ensures ∙ c.if-not-is_fit.false))
