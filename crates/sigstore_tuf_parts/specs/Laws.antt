-- Laws of the definitions.
use Rattle.std.specs.Prelude.{◌≡◌, ◌↔◌, ℕ, List, true, Option, Result, Ok, Err}
use Rattle.serde_json.specs.Data.{Data}
use Rattle.jiff_core.specs.declared.timestamp.Timestamp.{Timestamp}
use Rattle.sigstore_keys.specs.Crypto.{Crypto}
use Rattle.sigstore_tuf_parts.specs.declared.keys.RoleKeys.{RoleKeys}
use Rattle.sigstore_tuf_text.specs.declared.error.Error.{Error}
use Rattle.sigstore_tuf_parts.specs.declared.root.Root.{Root}
use Rattle.sigstore_tuf_parts.specs.Document.{Document, content_in, text_in, document_of, HasExactText}
use Rattle.sigstore_tuf_parts.specs.RootRoles.{meets_role_of}
use Rattle.sigstore_tuf_parts.specs.Cause.{ReadCause, RoleCause, IntegrityCause, ExpiryCause}
use Rattle.sigstore_tuf_text.specs.Canon.{canon}
use Rattle.sigstore_tuf_text.specs.Exact.{IsExact}
use Rattle.sigstore_tuf_parts.specs.Threshold.{Keys, meets_of}
use Rattle.sigstore_tuf_parts.specs.Meets.{Meets}
use Rattle.sigstore_tuf_parts.specs.Integrity.{Hashes, integrity_of, fresh_of}
use Rattle.sigstore_tuf_parts.specs.Pinned.{IsIntact, Fresh}
use Rattle.sigstore_tuf_text.specs.Pattern.{Piece, Fits, fits}

-- the first check that fails is none exactly where the document meets the role
abbrev pub MeetsExactly : Type 0 → Type 0
MeetsExactly T = (crypto : Crypto) (keys : Keys) (role : RoleKeys) (name : List ℕ) (doc : Document T)
    → (meets_of crypto keys role name doc ≡ Ok tt) ↔ Meets crypto keys role doc

-- the checks of integrity and of an expiry fail nowhere exactly where the relations hold
abbrev pub IntactExactly : Type 0
IntactExactly = (size : Option ℕ) (hashes : Option Hashes) (bytes : List ℕ)
    → (integrity_of size hashes bytes ≡ Ok tt) ↔ IsIntact size hashes bytes

abbrev pub FreshExactly : Type 0
FreshExactly = (role : List ℕ) (expires now : Timestamp) → (fresh_of role expires now ≡ Ok tt) ↔ Fresh expires now

-- the test of a pattern's segment is true exactly where the text falls into parts for its pieces
abbrev pub FitsExactly : Type 0
FitsExactly = (pieces : List Piece) (text : List ℕ) → (fits pieces text ≡ true) ↔ Fits pieces text

-- values whose numbers are integers of 64 bits, and whose canonical texts are equal, are equal
abbrev pub TellsValues : Type 0
TellsValues = (a b : Data) → IsExact a → IsExact b → canon a ≡ canon b → a ≡ b

-- documents that were read and have one canonical text have one `signed`: who signs a text signs one content
abbrev pub TellsDocuments : Type 0
TellsDocuments = (a b : Data) (text : List ℕ) (first : HasExactText a text) (second : HasExactText b text) → first.signed ≡ second.signed

-- documents of one kind that have one canonical text have one content, whatever bytes they were read from
abbrev pub TellsContents : {T : Type 0} → List ℕ → (Data → Result T Error) → Type 0
TellsContents {T} kind reads = (one two : List ℕ) (first second : Document T) → document_of kind reads one ≡ Ok first
    → document_of kind reads two ≡ Ok second → text_in first ≡ text_in second → content_in first ≡ content_in second

-- ---- each refusal of a definition has its cause

-- bytes that aren't read as a document of the kind
abbrev pub ReadsWithCause : {T : Type 0} → List ℕ → (Data → Result T Error) → Type 0
ReadsWithCause kind reads = (bytes : List ℕ) (e : Error) → document_of kind reads bytes ≡ Err e → ReadCause kind reads bytes e

abbrev pub MeetsWithCause : Type 0 → Type 0
MeetsWithCause T = (crypto : Crypto) (root : Root) (name : List ℕ) (doc : Document T) (e : Error)
    → meets_role_of crypto root name doc ≡ Err e → RoleCause crypto root name doc e

abbrev pub IntactWithCause : Type 0
IntactWithCause = (size : Option ℕ) (hashes : Option Hashes) (bytes : List ℕ) (e : Error)
    → integrity_of size hashes bytes ≡ Err e → IntegrityCause size hashes bytes e

abbrev pub FreshWithCause : Type 0
FreshWithCause = (role : List ℕ) (expires now : Timestamp) (e : Error) → fresh_of role expires now ≡ Err e → ExpiryCause role expires now e
