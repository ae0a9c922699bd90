use Rattle.std.proofs.Common.{◌∙◌, ap}
use Rattle.sigstore_keys.specs.Keyring.{held_at}
use Rattle.sigstore_keys.proofs.Rings.{apart}
use Rattle.sigstore_keys.proofs.keyring.Keyring.add_key_with_validity.Goals as goal

pub returns-in-Ok-clause-others : goal.returns-in-Ok-clause-others
returns-in-Ok-clause-others c =
    λ other differ. c.in-Ok.ensures.updates.2 other (apart c.args.id other differ) ∙ ap (held_at other) c.self.view_is
