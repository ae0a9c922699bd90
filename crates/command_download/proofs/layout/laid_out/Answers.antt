use Rattle.std.proofs.Common.{◌≡◌, Ok, Err, subst}
use Rattle.command_files.specs.Layout.{form_by, layout_under}
use Rattle.command_download.proofs.Layouts.{laid_so, not_laid_so}
use Rattle.command_download.proofs.layout.laid_out.Goals as goal

pub returns-in-Ok-layout_under-clause-ok : goal.returns-in-Ok-layout_under-clause-ok
returns-in-Ok-layout_under-clause-ok c =
    laid_so (form_by c.args.form.now) c.args.words.now c.in-Ok.sorted c.in-Ok.ensures.ok c.in-Ok-layout_under.places
    (subst (λ plain. layout_under (form_by c.args.form.now) plain ≡ Ok c.in-Ok-layout_under.places) c.as_slice.ensures c.in-Ok-layout_under.ensures.ok)

pub returns-in-Ok-clause-err : goal.returns-in-Ok-clause-err
returns-in-Ok-clause-err c = λ n.
    not_laid_so (form_by c.args.form.now) c.args.words.now c.in-Ok.sorted c.in-Ok.ensures.ok c.in-Err-layout_under.e
    (subst (λ plain. layout_under (form_by c.args.form.now) plain ≡ Err c.in-Err-layout_under.e) c.as_slice.ensures (c.in-Err-layout_under.ensures.err n))
