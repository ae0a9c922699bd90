-- What each refusal of a document tells: of its bytes, of the role that it is to meet, of its pin, of its expiry
-- (TUF specification, sections 4 and 5).
use Rattle.std.specs.Prelude.{◌≡◌, ◌≢◌, ◌⊎◌, ℕ, ◌<◌, List, ◌∷◌, ◌++◌, length, true, false, bytes_eq, Option, Some, None}
use Rattle.std.specs.Prelude.{Result, Ok, Err, option_and_then, codes, ◌<ℤ◌}
use Rattle.std.specs.List.{AllByRecursion, IsDistinct}
use Rattle.sha2.specs.Sha256.{sha256}
use Rattle.sha2.specs.Sha512.{sha512}
use Rattle.serde_json.specs.Data.{Data}
use Rattle.serde_json.specs.Find.{get, as_str}
use Rattle.jiff_core.specs.declared.timestamp.Timestamp as jiff
use Rattle.sigstore_types_parts.specs.Entries.{at_name}
use Rattle.sigstore_types_parts.specs.Parse.{parsed_of}
use Rattle.sigstore_types_parts.specs.declared.parse.JsonFault.TheVariants as fault
use Rattle.sigstore_keys.specs.Crypto.{Crypto}
use Rattle.sigstore_tuf_parts.specs.declared.document.Signature.{Signature}
use Rattle.sigstore_tuf_text.specs.declared.error.Error.{Error}
use Rattle.sigstore_tuf_text.specs.declared.error.Error.TheVariants as tuf
use Rattle.sigstore_tuf_text.specs.declared.error.Mismatch.TheVariants as mismatch
use Rattle.sigstore_tuf_text.specs.declared.error.Rule.TheVariants as rule
use Rattle.sigstore_tuf_parts.specs.declared.keys.RoleKeys.{RoleKeys}
use Rattle.sigstore_tuf_parts.specs.declared.root.Root.{Root}
use Rattle.sigstore_tuf_parts.specs.Document.{Document, signatures_in, signature_of}
use Rattle.sigstore_tuf_parts.specs.Header.{is_version_one_text}
use Rattle.sigstore_tuf_parts.specs.Integrity.{Hashes, spells}
use Rattle.sigstore_tuf_parts.specs.Meets.{Signs}
use Rattle.sigstore_tuf_parts.specs.Threshold.{Keys, is_among, is_counted}
use Rattle.sigstore_tuf_text.specs.Words.{sequence}

-- ---- bytes that aren't a document of the kind

-- the bytes are JSON, an object with both members of the frame
pub record HasFrame (bytes : List ℕ) (signed signatures : Data) : Type 0 where
  pub value : Data
  pub parsed : parsed_of bytes ≡ Ok value
  pub signed_there : get (codes "signed") value ≡ Some signed
  pub signatures_there : get (codes "signatures") value ≡ Some signatures

-- the bytes are JSON without one of them
pub record LacksFrame (bytes : List ℕ) : Type 0 where
  pub value : Data
  pub parsed : parsed_of bytes ≡ Ok value
  pub lacking : (get (codes "signed") value ≡ None) ⊎ (get (codes "signatures") value ≡ None)

-- the signed value has this text under the name
abbrev pub HasText : List ℕ → Data → List ℕ → Type 0
HasText name signed text = option_and_then as_str (get name signed) ≡ Some text

-- a member of the signatures or of the signed value is missing or of another type
pub record LacksMember {T : Type 0} (reads : Data → Result T Error) (bytes : List ℕ) : Type 0 where
  pub signed : Data
  pub signatures : Data
  pub frame : HasFrame bytes signed signatures
  pub unread : (sequence signature_of signatures ≡ Err tuf.Json) ⊎ (reads signed ≡ Err tuf.Json)

-- another kind than the wanted one
pub record OfAnotherKind (kind bytes : List ℕ) : Type 0 where
  pub signed : Data
  pub signatures : Data
  pub frame : HasFrame bytes signed signatures
  pub text : List ℕ
  pub named : HasText (codes "_type") signed text
  pub other : bytes_eq text kind ≡ false

-- another version of the specification than 1
pub record OfAnotherSpecVersion (bytes : List ℕ) : Type 0 where
  pub signed : Data
  pub signatures : Data
  pub frame : HasFrame bytes signed signatures
  pub text : List ℕ
  pub named : HasText (codes "spec_version") signed text
  pub other : is_version_one_text text ≡ false

-- why the bytes aren't read as a document of the kind
abbrev pub ReadCause : {T : Type 0} → List ℕ → (Data → Result T Error) → List ℕ → Error → Type 0
ReadCause kind reads bytes tuf.Json = (parsed_of bytes ≡ Err fault.NotJson) ⊎ LacksMember reads bytes
ReadCause kind reads bytes tuf.NonIntegerNumber = parsed_of bytes ≡ Err fault.Float
ReadCause kind reads bytes (tuf.Malformed rule.Frame) = LacksFrame bytes
ReadCause kind reads bytes (tuf.Malformed rule.Kind) = OfAnotherKind kind bytes
ReadCause kind reads bytes (tuf.Malformed rule.SpecVersion) = OfAnotherSpecVersion bytes
ReadCause kind reads bytes _ = ⊥

-- ---- a document that doesn't meet a role

-- the id has two nonempty signatures
pub record SignsTwice (role : RoleKeys) (signatures : List Signature) (id : List ℕ) : Type 0 where
  pub before : List Signature
  pub first : Signature
  pub between : List Signature
  pub second : Signature
  pub after : List Signature
  pub stand : signatures ≡ before ++ first ∷ (between ++ second ∷ after)
  pub first_counts : is_counted role first ≡ true
  pub second_counts : is_counted role second ≡ true
  pub first_its : first.keyid ≡ id
  pub second_its : second.keyid ≡ id

-- so many ids sign, and no others do
pub record SignedBy {T : Type 0} (crypto : Crypto) (keys : Keys) (role : RoleKeys) (doc : Document T) (found : ℕ) : Type 0 where
  pub ids : List (List ℕ)
  pub distinct : IsDistinct bytes_eq ids
  pub sign : AllByRecursion (Signs crypto keys role doc) ids
  pub others : (id : List ℕ) → Signs crypto keys role doc id → is_among ids id ≡ true
  pub number : length ids ≡ found

-- why a document doesn't meet what is asked of a role
abbrev pub MeetsCause : {T : Type 0} → Crypto → Keys → RoleKeys → List ℕ → Document T → Error → Type 0
MeetsCause crypto keys role name doc (tuf.Malformed rule.Threshold) = role.threshold ≡ 0
MeetsCause crypto keys role name doc (tuf.DuplicateSignature named id) = (named ≡ name) × SignsTwice role (signatures_in doc) id
MeetsCause crypto keys role name doc (tuf.ThresholdNotMet named found threshold) =
    (named ≡ name) × (threshold ≡ role.threshold) × (found < threshold) × SignedBy crypto keys role doc found
MeetsCause crypto keys role name doc _ = ⊥

-- the root declares no role of the name
abbrev pub IsUndeclared : Root → List ℕ → Error → Type 0
IsUndeclared root name e = (e ≡ tuf.UnknownRole name) × (at_name name root.roles ≡ None)

-- the root declares the role, and the document doesn't meet it
pub record IsUnmet {T : Type 0} (crypto : Crypto) (root : Root) (name : List ℕ) (doc : Document T) (e : Error) : Type 0 where
  pub role : RoleKeys
  pub declared : at_name name root.roles ≡ Some role
  pub cause : MeetsCause crypto root.keys role name doc e

-- why a document doesn't meet the role of that name in the root
abbrev pub RoleCause : {T : Type 0} → Crypto → Root → List ℕ → Document T → Error → Type 0
RoleCause crypto root name doc e = IsUndeclared root name e ⊎ IsUnmet crypto root name doc e

-- ---- a file that isn't the pinned one

-- the map has a text of the digest that doesn't spell it
abbrev pub IsMisspelt : List ℕ → Option (List ℕ) → Type 0
IsMisspelt digest text = (t : List ℕ) × (text ≡ Some t) × (spells digest t ≡ false)

-- why the bytes aren't those of a pinned length and of pinned digests
abbrev pub IntegrityCause : Option ℕ → Option Hashes → List ℕ → Error → Type 0
IntegrityCause size hashes bytes (tuf.IntegrityMismatch mismatch.Length) = (n : ℕ) × (size ≡ Some n) × (length bytes ≢ n)
IntegrityCause size hashes bytes (tuf.IntegrityMismatch mismatch.Digest) =
    (map : Hashes) × (hashes ≡ Some map)
    × (IsMisspelt (sha256 bytes) (at_name (codes "sha256") map) ⊎ IsMisspelt (sha512 bytes) (at_name (codes "sha512") map))
IntegrityCause size hashes bytes (tuf.IntegrityMismatch mismatch.NoDigest) =
    (map : Hashes) × (hashes ≡ Some map) × (at_name (codes "sha256") map ≡ None) × (at_name (codes "sha512") map ≡ None)
IntegrityCause size hashes bytes _ = ⊥

-- ---- a document that is expired

-- the refusal names the role and its expiry, which is before now
abbrev pub ExpiryCause : List ℕ → jiff.Timestamp → jiff.Timestamp → Error → Type 0
ExpiryCause role expires now e = (e ≡ tuf.Expired role expires) × (expires.nanosecond <ℤ now.nanosecond)
