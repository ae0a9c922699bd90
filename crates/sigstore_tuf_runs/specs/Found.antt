-- What a search finds: its visits, by the documents that are in force at its end (TUF specification, section 5.6.7).
use Rattle.std.specs.Prelude.{◌≡◌, ℕ, List, Option, Some, option_map}
use Rattle.std.specs.List.{AllByRecursion}
use Rattle.sigstore_types_parts.specs.Entries.{at_name}
use Rattle.sigstore_tuf_parts.specs.declared.targets.TargetFile.{TargetFile}
use Rattle.sigstore_tuf_parts.specs.declared.targets.Targets.{Targets}
use Rattle.sigstore_tuf_parts.specs.Document.{content_in}
use Rattle.sigstore_tuf_rules.specs.declared.documents.Held.{Held}
use Rattle.sigstore_tuf_rules.specs.declared.documents.InForce.{InForce}
use Rattle.sigstore_tuf_rules.specs.Documents.{content_of}
use Rattle.sigstore_tuf_runs.specs.State.{Session}
use Rattle.sigstore_tuf_rules.specs.declared.visit.Visit.{Visit}
use Rattle.sigstore_tuf_rules.specs.Order.{order}
use Rattle.sigstore_tuf_rules.specs.Trusted.{IsTrustedVisit}
use Rattle.sigstore_tuf_rules.specs.Authorised.{Serve}
use Rattle.sigstore_tuf_runs.specs.Search.{documents_of, entry_after}

-- the bytes of a role's document in force
abbrev pub role_bytes : InForce → List ℕ → Option (List ℕ)
role_bytes set name = option_map (λ (held : Held Targets). held.bytes) (at_name name set.targets)

-- The documents in force serve, these are the visits of the search over them, and each document that a visit read is trusted.
pub record Finds (session : Session) (path : List ℕ) (set : InForce) (visits : List Visit) : Type 0 where
  pub serve : Serve session.now set
  pub order_is : order (documents_of set) (content_of serve.snapshot) path session.config.max_delegations ≡ Some visits
  pub roles : AllByRecursion (λ (v : Visit). IsTrustedVisit session.crypto (content_in set.root) (content_of serve.snapshot)
      (documents_of set) session.now v (role_bytes set v.name)) visits

-- the entry is what the last of them lists, or there is none
pub record FindsEntry (session : Session) (path : List ℕ) (set : InForce) (entry : Option TargetFile) : Type 0 where
  pub visits : List Visit
  pub finds : Finds session path set visits
  pub entry_is : entry ≡ entry_after set path visits
