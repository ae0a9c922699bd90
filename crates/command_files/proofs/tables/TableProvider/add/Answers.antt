use Rattle.std.proofs.Common.{◌∙◌, ap, refl}
use Rattle.command_files.specs.Rows.{with_subject_row}
use Rattle.command_files.proofs.Keyed.{row_added}
use Rattle.command_files.proofs.tables.TableProvider.add.Goals as goal

pub returns : goal.returns
returns c =
    row_added c.args.self.now.rows c.taken_subjects-subjects.new.rows c.insert.new.self c.in_ok-signature.signature _ c.args.row c.in_ok-signature.ensures
    (c.taken_subjects-subjects.ensures.others ∙ rw c.as_bytes.ensures refl) c.taken_subjects-subjects.ensures.ordered
    (c.in_ok-add_under_subject.ensures ∙ ap (λ rows. with_subject_row rows c.args.row) (c.taken_subjects-subjects.ensures.taken ∙ rw c.as_bytes.ensures refl)) c.in_ok-insert.ensures
