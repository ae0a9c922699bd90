-- A refusal before any pair was judged.
use Rattle.std.proofs.Common.{◌∙◌}
use Rattle.std.proofs.lemmas.Result.{err_from_is_err_and}
use Rattle.path_core.specs.Search.{setting_for}
use Rattle.path_core.proofs.Counting.{want_counted, leaf_counted}
use Rattle.path_core.proofs.find.seek.Goals as goal

pub returns-in_err-check_leaf-clause-counted : goal.returns-in_err-check_leaf-clause-counted
returns-in_err-check_leaf-clause-counted g c =
    let p = err_from_is_err_and c.from_residual-in_err-check_leaf.result c.from_residual-in_err-check_leaf.ensures.1 in
    rw (p.1, p.2) (leaf_counted (setting_for g.C.CryptoProvider.accepts c.args.request.now) c.args.steps.now c.copied-begun.result
    c.in_ok-leaf.leaf c.in_err-check_leaf.field-0.0 c.copied-begun.ensures.same c.copied-begun.ensures.fits (c.in_ok-leaf.ensures ∙ c.as_bytes.ensures) c.in_err-check_leaf.ensures.err)

pub returns-in_err-intermediates-clause-counted : goal.returns-in_err-intermediates-clause-counted
returns-in_err-intermediates-clause-counted g c =
    let p = err_from_is_err_and c.from_residual-in_err-intermediates.result c.from_residual-in_err-intermediates.ensures.1 in
    rw (p.1, p.2) (want_counted (setting_for g.C.CryptoProvider.accepts c.args.request.now) c.args.steps.now c.copied-begun.result c.copied-begun.ensures.same c.copied-begun.ensures.fits)

pub returns-in_err-anchors-clause-counted : goal.returns-in_err-anchors-clause-counted
returns-in_err-anchors-clause-counted g c =
    let p = err_from_is_err_and c.from_residual-in_err-anchors.result c.from_residual-in_err-anchors.ensures.1 in
    rw (p.1, p.2) (want_counted (setting_for g.C.CryptoProvider.accepts c.args.request.now) c.args.steps.now c.copied-begun.result c.copied-begun.ensures.same c.copied-begun.ensures.fits)
