use Rattle.std.proofs.Common.{◌≡◌, Result, Ok, Err, subst, if◌then◌else◌}
use Rattle.std.specs.Prelude.{⊤}
use Rattle.sigstore_keys.specs.Crypto.{crypto_with}
use Rattle.sigstore_tuf_text.specs.declared.error.Error.{Error}
use Rattle.sigstore_tuf_rules.specs.Delegated.{role_serves_of}
use Rattle.sigstore_tuf_client.proofs.search.check_visit.Goals as goal

pub returns-in-Err-clause-err : goal.returns-in-Err-clause-err
returns-in-Err-clause-err g c = λ other.
    let serves = role_serves_of (crypto_with g.C.CryptoProvider g.M.Armor c.args.session.now.providers) c.args.documents.now c.args.visit.now c.args.session.now.moment in
    subst (λ b. ◌≡◌ {A = Result ⊤ Error} (if b then Ok tt else serves) (Err c.in-Err.e)) (rw c.as_str.ensures at c.if-eq.ensures) (c.in-Err.ensures.err other)
