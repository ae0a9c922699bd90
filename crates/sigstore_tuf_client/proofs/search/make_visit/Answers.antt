use Rattle.std.proofs.Common.{sym, ap, subst, ◌∙◌}
use Rattle.std.specs.Prelude.{option_copied}
use Rattle.sigstore_tuf_runs.specs.Search.{IsGap}
use Rattle.sigstore_tuf_runs.proofs.Searched.{if_err_map, visit_is}
use Rattle.sigstore_tuf_client.proofs.search.make_visit.Goals as goal

pub returns-in-Some-clause-err : goal.returns-in-Some-clause-err
returns-in-Some-clause-err c =
    let pinned = sym (rw c.as_str.ensures at c.in_ok-role_pin_in.ensures) ∙ ap option_copied c.in-Some.is in
    if_err_map c.read_role.result
    (λ e h other snapshot at allowed. subst (λ r. IsGap r e) (sym (visit_is c.args.documents.now snapshot c.args.path.now c.args.visit.now c.args.walk.now c.in-Some.field-0.now at allowed pinned))
    (rw c.in_ok-count_visit.ensures at (h other snapshot)))
    c.read_role.ensures.err
