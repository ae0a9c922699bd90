use Rattle.std.proofs.Common.{◌∙◌, sym}
use Rattle.path_core.specs.Counts.{under}
use Rattle.path_core.specs.Search.{setting_of}
use Rattle.path_core.proofs.Links.{ends_closed, ends_opened}
use Rattle.path_core.proofs.level.is_end.Goals as goal

pub returns-then-not-is_open-clause-value : goal.returns-then-not-is_open-clause-value
returns-then-not-is_open-clause-value g c = λ judge agrees.
    let v = under (setting_of g.C.CryptoProvider.accepts c.args.given.now) judge in
    sym (ends_closed v c.args.source c.args.a _ c.requires.anchor (sym c.is_open.ensures ∙ c.if-not-is_open.true))

pub returns-clause-value : goal.returns-clause-value
returns-clause-value g c = λ judge agrees.
    let v = under (setting_of g.C.CryptoProvider.accepts c.args.given.now) judge in
    c.in_ok-is_link.ensures.value judge agrees ∙ sym (ends_opened v c.args.source c.args.a _ c.requires.anchor (sym c.is_open.ensures ∙ c.if-not-is_open.false))
