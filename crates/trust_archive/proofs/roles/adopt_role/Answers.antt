use Rattle.std.proofs.Common.{Some, subst, if◌then◌else◌}
use Rattle.sigstore_keys.specs.Crypto.{crypto_with}
use Rattle.sigstore_tuf_rules.specs.Delegated.{update_role_of}
use Rattle.sigstore_tuf_rules.specs.Update.{Updates, update_targets_of}
use Rattle.trust_archive.proofs.roles.adopt_role.Goals as goal

pub returns-else-eq : goal.returns-else-eq
returns-else-eq g c =
    let crypto = crypto_with g.C.CryptoProvider g.M.Armor c.args.providers.now in
    subst
    (λ b.
    Updates (if b then update_targets_of crypto c.args.documents.now c.args.bytes (Some c.args.now) else update_role_of crypto c.args.documents.now c.args.visit.now c.args.bytes (Some c.args.now)) c.args.documents.now
    c.update_role.new.documents c.update_role.result)
    (rw c.as_str.ensures at c.if-eq.ensures) c.update_role.ensures
