-- What a declared key gives by an armour.
use Rattle.std.specs.Prelude.{Result}
use Rattle.sigstore_types_parts.specs.declared.armor.Armor as armor
use Rattle.sigstore_keys.specs.declared.key.VerificationKey.{VerificationKey}
use Rattle.sigstore_tuf_parts.specs.declared.keys.Key.{Key}
use Rattle.sigstore_tuf_parts.specs.declared.verification.KeyFault.{KeyFault}
use Rattle.sigstore_tuf_parts.specs.Crypto.{key_of}

-- the key, or why there is none
abbrev pub key_by : {M : Type 0} → armor.Ghosts M → M → Key → Result VerificationKey KeyFault
key_by armor a = key_of (armor.armored a) (armor.key_in a)
