use Rattle.std.proofs.Common.{◌≡◌, Some, Ok, Err, refl, sym, ap, ◌∙◌}
use Rattle.std.proofs.lemmas.Result.{err_from_is_err_and}
use Rattle.std.specs.Prelude.{option_copied}
use Rattle.sigstore_types_parts.specs.Entries.{at_name}
use Rattle.sigstore_keys.specs.Crypto.{crypto_with}
use Rattle.sigstore_tuf_parts.specs.Integrity.{fresh_of}
use Rattle.sigstore_tuf_rules.specs.Documents.{content_of}
use Rattle.sigstore_tuf_rules.specs.Delegated.{authority_by, delegation_of, meets_delegation_of, role_serves_of}
use Rattle.sigstore_tuf_rules.proofs.delegated.serving_role.Goals as goal

pub returns-in_err-delegation-clause-err : goal.returns-in_err-delegation-clause-err
unfolding role_serves_of
returns-in_err-delegation-clause-err g c =
    let p = err_from_is_err_and c.from_residual.result c.from_residual.ensures.1 in
    rw (p.1, p.2) (λ other.
    let refused : delegation_of c.args.documents.now c.args.visit.now ≡ Err c.in_err-delegation.field-0.0 = rw (c.as_str.ensures, c.as_str-name.ensures) at (c.in_err-delegation.ensures.err other) in
    rw refused refl)

pub returns-in_err-check_delegation-clause-err : goal.returns-in_err-check_delegation-clause-err
unfolding role_serves_of
returns-in_err-check_delegation-clause-err g c =
    let p = err_from_is_err_and c.from_residual-in_err-check_delegation.result c.from_residual-in_err-check_delegation.ensures.1 in
    let delegation : delegation_of c.args.documents.now c.args.visit.now ≡ Ok (authority_by c.in_ok-delegation.delegation) = rw (c.as_str.ensures, c.as_str-name.ensures) at c.in_ok-delegation.ensures.ok in
    let there : at_name c.args.visit.now.name c.args.documents.now.targets ≡ Some c.in-Some.held.now = sym (rw c.as_str-name.ensures at c.get.ensures) ∙ ap option_copied c.in-Some.is in
    rw (p.1, p.2) (λ other.
    let refused : meets_delegation_of (crypto_with g.C.CryptoProvider g.M.Armor c.args.providers.now) (authority_by c.in_ok-delegation.delegation) c.args.visit.now.name c.in-Some.held.now.document ≡ Err c.in_err-check_delegation.field-0.0 =
    rw c.as_str-name.ensures at (c.in_err-check_delegation.ensures.err other) in
    rw (delegation, there, refused) refl)

pub returns-in_err-check_fresh-clause-err : goal.returns-in_err-check_fresh-clause-err
unfolding role_serves_of
returns-in_err-check_fresh-clause-err g c =
    let p = err_from_is_err_and c.from_residual-in_err-check_fresh.result c.from_residual-in_err-check_fresh.ensures.1 in
    let delegation : delegation_of c.args.documents.now c.args.visit.now ≡ Ok (authority_by c.in_ok-delegation.delegation) = rw (c.as_str.ensures, c.as_str-name.ensures) at c.in_ok-delegation.ensures.ok in
    let there : at_name c.args.visit.now.name c.args.documents.now.targets ≡ Some c.in-Some.held.now = sym (rw c.as_str-name.ensures at c.get.ensures) ∙ ap option_copied c.in-Some.is in
    let met : meets_delegation_of (crypto_with g.C.CryptoProvider g.M.Armor c.args.providers.now) (authority_by c.in_ok-delegation.delegation) c.args.visit.now.name c.in-Some.held.now.document ≡ Ok tt = rw c.as_str-name.ensures at c.in_ok-check_delegation.ensures.ok in
    rw (p.1, p.2) (λ other.
    let refused : fresh_of c.args.visit.now.name (content_of c.in-Some.held.now).expires c.args.now ≡ Err c.in_err-check_fresh.field-0.0 = rw (c.as_str-name.ensures, c.signed.ensures) at (c.in_err-check_fresh.ensures.err other) in
    rw (delegation, there, met, refused) refl)
