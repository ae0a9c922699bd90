-- The documents in force are the newest that a repository has (TUF specification, sections 5.3 and 5.4).
use Rattle.std.specs.Prelude.{◌≡◌, ◌⊎◌, ℕ, ◌+◌, ◌-◌, ◌^◌, List, Some, None, Ok}
use Rattle.sigstore_tuf_parts.specs.declared.timestamp.Timestamp.{Timestamp}
use Rattle.sigstore_tuf_parts.specs.Document.{Document, content_in}
use Rattle.sigstore_tuf_text.specs.Names.{root_name, timestamp_name}
use Rattle.sigstore_tuf_rules.specs.declared.documents.Held.{Held}
use Rattle.sigstore_tuf_rules.specs.declared.documents.InForce.{InForce}
use Rattle.sigstore_tuf_rules.specs.Documents.{timestamp_document, content_of}
use Rattle.sigstore_tuf_outside.specs.Repository.{Folders}
use Rattle.sigstore_tuf_rules.specs.Serving.{version_in}

-- there is no next root, or no next number
abbrev pub IsLastRoot : Folders → InForce → Type 0
IsLastRoot folders set = (version_in set ≡ 2 ^ 64 - 1) ⊎ (folders.metadata (root_name (version_in set + 1)) ≡ None)

-- the repository's timestamp has the version of the one in force
pub record HasItsTimestamp (folders : Folders) (set : InForce) : Type 0 where
  pub held : Held Timestamp
  pub in_force : set.timestamp ≡ Some held
  pub bytes : List ℕ
  pub there : folders.metadata timestamp_name ≡ Some bytes
  pub doc : Document Timestamp
  pub read : timestamp_document bytes ≡ Ok doc
  pub version_is : (content_of held).version ≡ (content_in doc).version

pub record AreNewest (folders : Folders) (set : InForce) : Type 0 where
  pub root : IsLastRoot folders set
  pub timestamp : HasItsTimestamp folders set
