use Rattle.std.proofs.Common.{◌≡◌, Ok, Err, refl}
use Rattle.std.proofs.lemmas.Result.{err_from_is_err_and}
use Rattle.sigstore_keys.specs.Crypto.{crypto_with}
use Rattle.sigstore_tuf_rules.specs.Delegated.{authority_by, delegation_of, role_pin_of, role_document_of, update_role_of}
use Rattle.sigstore_tuf_rules.proofs.delegated.new_role.Goals as goal

pub returns-in_err-delegation-clause-err : goal.returns-in_err-delegation-clause-err
unfolding update_role_of
returns-in_err-delegation-clause-err g c =
    let p = err_from_is_err_and c.from_residual.result c.from_residual.ensures.1 in
    rw (p.1, p.2) (λ other.
    let refused : delegation_of c.args.documents.now c.args.visit.now ≡ Err c.in_err-delegation.field-0.0 = rw (c.as_str.ensures, c.as_str-name.ensures) at (c.in_err-delegation.ensures.err other) in
    rw refused refl)

pub returns-in_err-document-clause-err : goal.returns-in_err-document-clause-err
unfolding update_role_of
returns-in_err-document-clause-err g c =
    let p = err_from_is_err_and c.from_residual-in_err-document.result c.from_residual-in_err-document.ensures.1 in
    let delegation : delegation_of c.args.documents.now c.args.visit.now ≡ Ok (authority_by c.in_ok-delegation.delegation) = rw (c.as_str.ensures, c.as_str-name.ensures) at c.in_ok-delegation.ensures.ok in
    let pin : role_pin_of c.args.documents.now c.args.visit.now.name c.args.now.now ≡ Ok c.in_ok-pin.pin.now = rw c.as_str-name.ensures at c.in_ok-pin.ensures.ok in
    rw (p.1, p.2) (λ other.
    let refused : role_document_of (crypto_with g.C.CryptoProvider g.M.Armor c.args.providers.now) (authority_by c.in_ok-delegation.delegation) c.in_ok-pin.pin.now c.args.visit.now.name c.args.bytes c.args.now.now ≡ Err c.in_err-document.field-0.0 =
    rw (c.as_str-name.ensures, c.as_bytes.ensures) at (c.in_err-document.ensures.err other) in
    rw (delegation, pin, refused) refl)
