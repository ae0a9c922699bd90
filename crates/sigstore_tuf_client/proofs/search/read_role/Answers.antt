use Rattle.std.proofs.Common.{refl, sym, ap, subst, ◌∙◌}
use Rattle.std.specs.Prelude.{option_copied}
use Rattle.sigstore_tuf_runs.specs.Search.{tree_in, IsGap}
use Rattle.sigstore_tuf_runs.proofs.Searched.{if_ok_map, if_err_map, named_is, none_named}
use Rattle.sigstore_tuf_client.proofs.search.read_role.Goals as goal

pub returns-in-Some-clause-ok : goal.returns-in-Some-clause-ok
returns-in-Some-clause-ok c =
    let at = sym (rw c.as_str.ensures at c.get.ensures) ∙ ap option_copied c.in-Some.is in
    if_ok_map c.read_document.result
    (λ next h snapshot. named_is c.args.documents.now snapshot c.args.path.now c.args.name.now c.in-Some.held.now c.args.walk.now c.note_name.new.walk at c.in_ok-note_name.ensures
    ∙ (rw c.signed.ensures at (h (tree_in c.args.documents.now snapshot c.args.path.now) refl)))
    c.read_document.ensures.ok

pub returns-in-Some-clause-err : goal.returns-in-Some-clause-err
returns-in-Some-clause-err c =
    let at = sym (rw c.as_str.ensures at c.get.ensures) ∙ ap option_copied c.in-Some.is in
    if_err_map c.read_document.result
    (λ e h other snapshot. subst (λ r. IsGap r e) (sym (named_is c.args.documents.now snapshot c.args.path.now c.args.name.now c.in-Some.held.now c.args.walk.now c.note_name.new.walk at c.in_ok-note_name.ensures))
    (rw c.signed.ensures at (h other (tree_in c.args.documents.now snapshot c.args.path.now) refl)))
    c.read_document.ensures.err

pub returns-in-None-clause-err : goal.returns-in-None-clause-err
returns-in-None-clause-err c =
    let at = sym (rw c.as_str.ensures at c.get.ensures) ∙ ap option_copied c.in-None.is in
    λ other snapshot. none_named c.args.documents.now snapshot c.args.path.now c.args.name.now c.args.walk.now at
