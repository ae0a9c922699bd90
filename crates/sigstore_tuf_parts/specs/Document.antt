-- A signed document, from its bytes (TUF specification, section 4.2).
use Rattle.std.specs.Prelude.{◌≡◌, ℕ, List, Result, Ok, Err, ok_or, codes}
use Rattle.serde_json.specs.Data.{Data}
use Rattle.serde_json.specs.Find.{get}
use Rattle.foundation.specs.Steps.{◌>>=◌}
use Rattle.sigstore_types_parts.specs.declared.parse.JsonFault.{JsonFault}
use Rattle.sigstore_types_parts.specs.Parse.{parsed_of}
use Rattle.sigstore_tuf_text.specs.declared.error.Error.{Error}
use Rattle.sigstore_tuf_text.specs.declared.error.Error.TheVariants.{Malformed}
use Rattle.sigstore_tuf_text.specs.declared.error.Rule.TheVariants.{Frame}
use Rattle.sigstore_tuf_parts.specs.declared.document.Signature.{Signature}
use Rattle.sigstore_tuf_text.specs.declared.member.DocumentMember.TheVariants as m
use Rattle.sigstore_tuf_text.specs.Error.{error_of_fault}
use Rattle.sigstore_tuf_text.specs.Words.{required, text, sequence}
use Rattle.sigstore_tuf_text.specs.Canon.{canon}
use Rattle.sigstore_tuf_text.specs.Exact.{IsExact}
use Rattle.sigstore_tuf_parts.specs.Header.{header_of}

-- a document that was read: its content, its signatures, and the canonical text that they sign
abbrev pub Document : Type 0 → Type 0
Document T = T × List Signature × List ℕ

abbrev pub content_in : {T : Type 0} → Document T → T
content_in doc = doc.0

abbrev pub signatures_in : {T : Type 0} → Document T → List Signature
signatures_in doc = doc.1

abbrev pub text_in : {T : Type 0} → Document T → List ℕ
text_in doc = doc.2

abbrev or_fault : Result Data JsonFault → Result Data Error
or_fault (Ok d) = Ok d
or_fault (Err fault) = Err (error_of_fault fault)

-- JSON in which every number is an integer
unfoldable pub value_of : List ℕ → Result Data Error
value_of bytes = or_fault (parsed_of bytes)

-- the frame is an object that has the member
unfoldable pub frame_of : List ℕ → Data → Result Data Error
frame_of name d = ok_or (get name d) (Malformed Frame)

unfoldable pub signature_of : Data → Result Signature Error
signature_of d = do
  keyid ← required text m.Keyid d
  sig ← required text m.Sig d
  Ok (record { keyid = keyid; sig = sig })

-- the content, the signatures, and the canonical text that they sign
unfoldable pub content_of : {T : Type 0} → List ℕ → (Data → Result T Error) → Data → Data → Result (Document T) Error
content_of kind reads signed signatures = do
  _ ← header_of kind signed
  listed ← sequence signature_of signatures
  content ← reads signed
  Ok (content, listed, canon signed)

-- what stands in the frame
unfoldable pub document_in : {T : Type 0} → List ℕ → (Data → Result T Error) → Data → Result (Document T) Error
document_in kind reads d = do
  signed ← frame_of (codes "signed") d
  signatures ← frame_of (codes "signatures") d
  content_of kind reads signed signatures

-- The canonical text is that of what stands under `signed`, in which every number is an integer of 64 bits: so equal texts are
-- of equal contents.
pub record HasExactText (d : Data) (text : List ℕ) : Type 0 where
  pub signed : Data
  pub framed : frame_of (codes "signed") d ≡ Ok signed
  pub exact : IsExact signed
  pub spelled : text ≡ canon signed

-- a document
unfoldable pub document_of : {T : Type 0} → List ℕ → (Data → Result T Error) → List ℕ → Result (Document T) Error
document_of kind reads bytes = value_of bytes >>= document_in kind reads

-- the canonical text of a document that was read is exact
abbrev pub IsExactly : {T : Type 0} → List ℕ → Document T → Type 0
IsExactly bytes doc = (d : Data) × (value_of bytes ≡ Ok d) × HasExactText d (text_in doc)
