-- Who decides signatures and who reads armoured texts, as one value.
use Rattle.std.specs.Prelude.{ℕ, List, Bool, Option}
use Rattle.sigstore_types_parts.specs.declared.armor.Armor as armor
use Rattle.sigstore_keys.specs.declared.provider.CryptoProvider as provider
use Rattle.sigstore_keys.specs.declared.providers.Providers as declared
use Rattle.sigstore_keys.specs.Good.{Judge}

-- which signatures are good; which texts are armoured, and what each holds in DER: a key (SubjectPublicKeyInfo) or a certificate
-- (RFC 7468, sections 5 and 13)
pub record Crypto : Type 0 where
  pub accepts : Judge
  pub armored : List ℕ → Bool
  pub key_in : List ℕ → Option (List ℕ)
  pub certificate_in : List ℕ → Option (List ℕ)

-- those of a provider and an armour
abbrev pub crypto_by : {C M : Type 0} → provider.Ghosts C → armor.Ghosts M → C → M → Crypto
crypto_by provider armor p a = record {
  accepts = provider.accepts p;
  armored = armor.armored a;
  key_in = armor.key_in a;
  certificate_in = armor.certificate_in a;
}

-- those of both, handed on together
abbrev pub crypto_with : {C M : Type 0} → provider.Ghosts C → armor.Ghosts M → declared.Providers C M → Crypto
crypto_with provider armor both = crypto_by provider armor both.provider.now both.armor.now
