-- Documents that meet a role of a root, and roots each of which hands on to the next (TUF specification, sections 5.3 and 6.1).
use Rattle.std.specs.Prelude.{◌≡◌, ℕ, ◌+◌, List, [], ◌∷◌, Some, ok_or, Result, codes, ⊤}
use Rattle.foundation.specs.Steps.{◌>>=◌}
use Rattle.sigstore_types_parts.specs.Entries.{at_name}
use Rattle.sigstore_keys.specs.Crypto.{Crypto}
use Rattle.sigstore_tuf_text.specs.declared.error.Error.{Error}
use Rattle.sigstore_tuf_text.specs.declared.error.Error.TheVariants.{UnknownRole}
use Rattle.sigstore_tuf_parts.specs.declared.keys.RoleKeys.{RoleKeys}
use Rattle.sigstore_tuf_parts.specs.declared.root.Root.{Root}
use Rattle.sigstore_tuf_parts.specs.Document.{Document, document_of, content_in}
use Rattle.sigstore_tuf_parts.specs.Root.{root_of}
use Rattle.sigstore_tuf_parts.specs.Threshold.{meets_of}
use Rattle.sigstore_tuf_parts.specs.Meets.{Meets}

-- the root document of these bytes
abbrev pub root_document : List ℕ → Result (Document Root) Error
root_document bytes = document_of (codes "root") root_of bytes

-- the document meets the role of that name in the root
unfoldable pub meets_role_of : {T : Type 0} → Crypto → Root → List ℕ → Document T → Result ⊤ Error
meets_role_of crypto root name doc = do
  role ← ok_or (at_name name root.roles) (UnknownRole name)
  meets_of crypto root.keys role name doc

abbrev pub MeetsRole : {T : Type 0} → Crypto → Root → List ℕ → Document T → Type 0
MeetsRole crypto root name doc = (role : RoleKeys) × (at_name name root.roles ≡ Some role) × Meets crypto root.keys role doc

-- the second document is the next root after the first
pub record IsNextRoot (crypto : Crypto) (old new : Document Root) : Type 0 where
  pub number : (content_in new).version ≡ (content_in old).version + 1
  pub handed_on : MeetsRole crypto (content_in old) (codes "root") new
  pub own : MeetsRole crypto (content_in new) (codes "root") new

-- each document is the next root after the one before it
abbrev pub AreNextRoots : Crypto → Document Root → List (Document Root) → Type 0
AreNextRoots crypto root [] = ⊤
AreNextRoots crypto root (next ∷ later) = IsNextRoot crypto root next × AreNextRoots crypto next later

-- the list begins with this root, which meets its own root role, and each later one is the next after its predecessor
abbrev pub Roots : Crypto → Document Root → List (Document Root) → Type 0
Roots crypto first [] = ⊥
Roots crypto first (root ∷ later) =
    (root ≡ first) × MeetsRole crypto (content_in first) (codes "root") first × AreNextRoots crypto first later
