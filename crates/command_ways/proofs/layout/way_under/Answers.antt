use Rattle.std.proofs.Common.{◌∙◌}
use Rattle.command_ways.proofs.Words.{laid_out, not_laid_out}
use Rattle.command_ways.proofs.layout.way_under.Goals as goal

pub returns-clause-ok : goal.returns-clause-ok
returns-clause-ok c =
    laid_out c.args.command.now c.args.rows.now c.args.words.now c.as_slice.result.now c.in_ok-told.told c.in_ok-found.found c.in_ok-told.ensures.ok
    (c.as_slice.ensures ∙ c.in_ok-plain.ensures) c.in_ok-found.ensures.ok c.way_in-layout.result c.way_in-layout.ensures.ok

pub returns-clause-err : goal.returns-clause-err
returns-clause-err c =
    not_laid_out c.args.command.now c.args.rows.now c.args.words.now c.as_slice.result.now c.in_ok-told.told c.in_ok-found.found c.in_ok-told.ensures.ok
    (c.as_slice.ensures ∙ c.in_ok-plain.ensures) c.in_ok-found.ensures.ok c.way_in-layout.result c.way_in-layout.ensures.err
