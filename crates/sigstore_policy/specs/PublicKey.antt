-- What is asked where the signer holds a key.
use Rattle.std.specs.Prelude.{ℕ, List, true}
use Rattle.sigstore_policy.specs.Conditions.{no_conditions}
use Rattle.sigstore_policy.specs.declared.public_key.PublicKeyVerificationPolicy.{PublicKeyVerificationPolicy}

-- a policy of a key, that verifies the log
abbrev pub keyed : List ℕ → PublicKeyVerificationPolicy
keyed key = record { key = key; verify_tlog = true; logs = record { value = 1 }; conditions = no_conditions }
