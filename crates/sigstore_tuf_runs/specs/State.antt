-- What a client's call is given, and what it finds and leaves.
use Rattle.jiff_core.specs.declared.timestamp.Timestamp as jiff
use Rattle.foundation.specs.Watched.{Watched}
use Rattle.sigstore_types_parts.specs.declared.armor.Armor as armor
use Rattle.sigstore_keys.specs.declared.provider.CryptoProvider as provider
use Rattle.sigstore_keys.specs.Crypto.{Crypto, crypto_with}
use Rattle.sigstore_tuf_rules.specs.declared.config.UpdaterConfig.{UpdaterConfig}
use Rattle.sigstore_tuf_rules.specs.declared.documents.InForce.{InForce}
use Rattle.sigstore_tuf_runs.specs.declared.session.Session as declared
use Rattle.sigstore_tuf_outside.specs.Repository.{Folders, Files}

-- who decides signatures, the limits, and the moment
pub record Session : Type 0 where
  pub crypto : Crypto
  pub config : UpdaterConfig
  pub now : jiff.Timestamp

-- the documents in force, with what is seen of the repository and of the store
pub record State : Type 0 where
  pub documents : InForce
  pub repo : Watched Folders
  pub store : Watched Files

abbrev pub state_of : InForce → Watched Folders → Watched Files → State
state_of documents repo store = record { documents = documents; repo = repo; store = store }

abbrev pub session_of : Crypto → UpdaterConfig → jiff.Timestamp → Session
session_of crypto config now = record { crypto = crypto; config = config; now = now }

-- what a call of the code is given, seen so
abbrev pub session_by : {C M : Type 0} → provider.Ghosts C → armor.Ghosts M → declared.Session C M → Session
session_by p a s = session_of (crypto_with p a s.providers) s.config.now s.moment
