-- What a bundle is judged by, whoever signed it.
use Rattle.jiff_core.specs.declared.timestamp.Timestamp.{Timestamp}
use Rattle.sigstore_types_parts.specs.declared.armor.Armor as armor
use Rattle.sigstore_keys.specs.declared.provider.CryptoProvider as provider
use Rattle.sigstore_keys.specs.Crypto.{Crypto, crypto_by}
use Rattle.sigstore_binding.specs.Verifier.{Readings}
use Rattle.sigstore_certificate.specs.Certified.{Trust}
use Rattle.sigstore_judgement.specs.declared.asked.Case.{Case}
use Rattle.sigstore_judgement.specs.declared.grounds.Grounds as declared
use Rattle.sigstore_judgement.specs.declared.trust.Material.{Material}
use Rattle.sigstore_judgement.specs.declared.verifier.Verifier.{Verifier}
use Rattle.sigstore_policy.specs.Policy.{Meaning}
use Rattle.sigstore_policy.specs.declared.policy.Policy as policy

-- who decides signatures and reads armoured texts, what a verifier keeps of the trust file, and the moment
pub record Grounds : Type 0 where
  pub crypto : Crypto
  pub material : Material
  pub now : Timestamp

-- what armoured texts hold
abbrev pub readings_in : Crypto → Readings
readings_in crypto = record { key_in = crypto.key_in; certificate_in = crypto.certificate_in }

-- by which a certificate is judged
abbrev pub trust_in : Grounds → Trust
trust_in grounds = record { accepts = grounds.crypto.accepts; anchors = grounds.material.anchors; ct_logs = grounds.material.ct_logs }

-- and under which policy
pub record Terms : Type 0 where
  pub grounds : Grounds
  pub policy : Meaning

abbrev pub terms_over : Grounds → Meaning → Terms
terms_over grounds policy = record { grounds = grounds; policy = policy }

abbrev pub terms_with : Crypto → Material → Timestamp → Meaning → Terms
terms_with crypto material now policy = record { grounds = record { crypto = crypto; material = material; now = now }; policy = policy }

-- the grounds that a call of the code is given
abbrev pub grounds_by : {C M : Type 0} → provider.Ghosts C → armor.Ghosts M → declared.Grounds C M → Grounds
grounds_by p a g = record { crypto = crypto_by p a g.provider.now g.armor.now; material = g.material.now; now = g.moment }

-- those of a verifier at a moment
abbrev pub grounds_at : {C M : Type 0} → provider.Ghosts C → armor.Ghosts M → Verifier C M → Timestamp → Grounds
grounds_at p a verifier now = record {
  crypto = crypto_by p a verifier.provider.now verifier.armor.now;
  material = verifier.material;
  now = now;
}

-- with a policy
abbrev pub terms_by : {C M : Type 0} → provider.Ghosts C → armor.Ghosts M → Verifier C M → Meaning → Timestamp → Terms
terms_by p a verifier policy now = terms_with (crypto_by p a verifier.provider.now verifier.armor.now) verifier.material now policy

-- and those for a case
abbrev pub terms_for : {C M P : Type 0} → provider.Ghosts C → armor.Ghosts M → policy.Ghosts P → Verifier C M → Case P → Terms
terms_for c m p verifier case = terms_by c m verifier (p.meant case.policy.now) case.moment
