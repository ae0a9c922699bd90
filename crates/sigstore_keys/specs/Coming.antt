-- The keys of a ring that a hint has still to give.
use Rattle.std.specs.Prelude.{List}
use Rattle.sigstore_keys.specs.declared.key.VerificationKey.{VerificationKey}
use Rattle.sigstore_keys.specs.declared.keyring.KeysByHint.{KeysByHint}
use Rattle.sigstore_keys.specs.Keyring.{keys_meant}

abbrev pub coming : KeysByHint → List VerificationKey
coming keys = keys_meant keys.hint keys.time keys.entries
