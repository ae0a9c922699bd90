-- The document of a role that was put in force is the one that is written.
use Rattle.std.proofs.Common.{◌≡◌, ℕ, List, Option, Some, Result, Ok, subst}
use Rattle.std.specs.Prelude.{⊤, option_map}
use Rattle.jiff_core.specs.declared.timestamp.Timestamp as jiff
use Rattle.foundation.specs.Watched.{Watched}
use Rattle.sigstore_types_parts.specs.Entries.{at_name}
use Rattle.sigstore_keys.specs.Crypto.{Crypto}
use Rattle.sigstore_tuf_text.specs.declared.error.Error.{Error}
use Rattle.sigstore_tuf_parts.specs.declared.targets.Targets.{Targets}
use Rattle.sigstore_tuf_rules.specs.declared.documents.Held.{Held}
use Rattle.sigstore_tuf_rules.specs.declared.documents.InForce.{InForce}
use Rattle.sigstore_tuf_outside.specs.Repository.{Files}
use Rattle.sigstore_tuf_rules.specs.Taking.{taken_of}
use Rattle.sigstore_tuf_runs.specs.Adopt.{Keeps, KeepsWhere}
use Rattle.sigstore_tuf_rules.specs.declared.visit.Visit.{Visit}
use Rattle.sigstore_tuf_rules.specs.Delegated.{update_role_of}
use Rattle.sigstore_tuf_rules.proofs.RolePuts.{role_there}

pub role_kept : (crypto : Crypto) (old : InForce) (v : Visit) (bytes : List ℕ) (now : Option jiff.Timestamp) (new : InForce) (names : List (List ℕ)) {store store' : Watched Files} {result : Result ⊤ Error} → taken_of (update_role_of crypto old v bytes now) ≡ Ok (Some new)
    → KeepsWhere names (option_map (λ (held : Held Targets). held.bytes) (at_name v.name new.targets)) store store' result → Keeps names bytes store store' result
role_kept crypto old v bytes now new names {store} {store'} {result} h w = subst (λ b. KeepsWhere names b store store' result) (role_there crypto old v bytes now new h) w
