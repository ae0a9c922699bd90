-- What the top call is given, and what it finds and leaves of the outside.
use Rattle.std.specs.Prelude.{ℕ, List}
use Rattle.jiff_core.specs.declared.timestamp.Timestamp as jiff
use Rattle.foundation.specs.Watched.{Watched}
use Rattle.sigstore_types_parts.specs.declared.armor.Armor as armor
use Rattle.sigstore_keys.specs.declared.provider.CryptoProvider as provider
use Rattle.sigstore_keys.specs.Crypto.{Crypto, crypto_with}
use Rattle.sigstore_tuf_outside.specs.Repository.{Files, Folders}
use Rattle.sigstore_tuf_rules.specs.declared.config.UpdaterConfig.{UpdaterConfig}
use Rattle.sigstore_policy.specs.declared.policy.Policy as policy
use Rattle.sigstore_policy.specs.Policy.{Meaning}
use Rattle.sigstore_judgement.specs.declared.asked.Asked as asked
use Rattle.sigstore_judgement.specs.Under.{Asked}
use Rattle.sigstore_verify.specs.declared.anchor.Anchor as declared

-- from what a chain of documents is trusted: who decides signatures, the pinned root, the limits, the moment
pub record Anchor : Type 0 where
  pub crypto : Crypto
  pub root : List ℕ
  pub config : UpdaterConfig
  pub now : jiff.Timestamp

abbrev pub anchor_by : Crypto → List ℕ → UpdaterConfig → jiff.Timestamp → Anchor
anchor_by crypto root config now = record { crypto = crypto; root = root; config = config; now = now }

-- that of a call of the code
abbrev pub anchor_with : {C M : Type 0} → provider.Ghosts C → armor.Ghosts M → declared.Anchor C M → Anchor
anchor_with p a anchor = anchor_by (crypto_with p a anchor.providers) anchor.root.now anchor.config anchor.now

-- and what is asked: the bundle's bytes, under which policy, and the greatest length of the artifact
pub record VerifyInputs : Type 0 where
  pub anchor : Anchor
  pub policy : Meaning
  pub bundle : List ℕ
  pub max : ℕ

abbrev pub inputs_by : Anchor → Meaning → List ℕ → ℕ → VerifyInputs
inputs_by anchor policy bundle max = record { anchor = anchor; policy = policy; bundle = bundle; max = max }

-- those of a call of the code
abbrev pub inputs_with : {P : Type 0} → policy.Ghosts P → Anchor → asked.Asked P → VerifyInputs
inputs_with p anchor asks = inputs_by anchor (p.meant asks.policy.now) asks.bundle.now asks.max_artifact

-- what is asked of a bundle under a chain's trust file
abbrev pub asked_by : VerifyInputs → Asked
asked_by given = record {
  crypto = given.anchor.crypto;
  policy = given.policy;
  now = given.anchor.now;
  bundle = given.bundle;
  max = given.max;
}

-- where documents come from at one moment
pub record Places : Type 0 where
  pub repo : Watched Folders
  pub store : Watched Files

-- the outside at one moment
pub record Outside : Type 0 where
  pub repo : Watched Folders
  pub store : Watched Files
  pub source : Watched (List ℕ)

abbrev pub places_by : Watched Folders → Watched Files → Places
places_by repo store = record { repo = repo; store = store }

abbrev pub outside_by : Watched Folders → Watched Files → Watched (List ℕ) → Outside
outside_by repo store source = record { repo = repo; store = store; source = source }

abbrev pub places_in : Outside → Places
places_in outside = record { repo = outside.repo; store = outside.store }
