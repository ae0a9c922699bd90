use Rattle.std.proofs.Common.{inr}
use Rattle.cms_parts.proofs.Tagged.{tag_written, only_want}
use Rattle.cms_parts.proofs.values.as_any.Goals as goal

pub returns-clause-err : goal.returns-clause-err
returns-clause-err g c = λ no_want.
    let p = c.in-Err.ensures.err no_want in
    let is = tag_written g.T.Der.grammar g.met.T.Der.lawful c.args.value.now c.in_ok-contents.contents c.in_ok-contents.ensures.ok in
    let q = p.0 in
    absurd cc

pub returns-clause-cause : goal.returns-clause-cause
returns-clause-cause g c = inr (only_want c.in-Err.refusal (λ no_want.
    let p = c.in-Err.ensures.err no_want in
    let is = tag_written g.T.Der.grammar g.met.T.Der.lawful c.args.value.now c.in_ok-contents.contents c.in_ok-contents.ensures.ok in
    let q = p.0 in
    cc))
