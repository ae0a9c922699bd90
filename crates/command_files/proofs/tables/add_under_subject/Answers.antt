use Rattle.std.proofs.Common.{◌∙◌, ap, refl, [], ◌∷◌, ◌++◌}
use Rattle.command_files.proofs.Keyed.{subject_row_added}
use Rattle.command_files.proofs.tables.add_under_subject.Goals as goal

pub returns : goal.returns
returns c =
    subject_row_added c.args.rows.now c.taken_rows-others.new.rows c.insert.new.self c.in_ok-subject.subject _ c.args.row c.in_ok-subject.ensures
    (c.taken_rows-others.ensures.others ∙ rw c.as_bytes.ensures refl) c.taken_rows-others.ensures.ordered
    (c.in_ok-push.ensures.ok ∙ ap (λ rows. rows ++ c.args.row ∷ []) (c.taken_rows-others.ensures.taken ∙ rw c.as_bytes.ensures refl)) c.in_ok-insert.ensures
