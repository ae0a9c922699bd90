-- Laws of the textual encoding.
use Rattle.std.specs.Prelude.{◌≡◌, ℕ, zero, suc, ◌+◌, ◌/◌, List, [], ◌∷◌, ◌++◌, length, take, drop, Some, Ok, true, false}
use Rattle.std.specs.List.{list_any}
use Rattle.base64.specs.Engines.{standard}
use Rattle.base64.specs.GeneralPurpose.{IsBytes, decode_of}
use Rattle.sigstore_pem.specs.Pem.{lines_of, begin_line, end_line, is_opening, content_of, key_label, certificate_label, is_armored_text}
use Rattle.sigstore_pem.specs.Written.{certificate_text}

-- of the text of a certificate the certificate is read
abbrev pub WrittenIsRead : Type 0
WrittenIsRead = (der : List ℕ) → IsBytes der → content_of certificate_label (certificate_text der) ≡ Some der

-- a text that holds a key or a certificate is armoured
abbrev pub HeldIsArmored : Type 0
HeldIsArmored = ((text key : List ℕ) → content_of key_label text ≡ Some key → is_armored_text text ≡ true)
    × ((text certificate : List ℕ) → content_of certificate_label text ≡ Some certificate → is_armored_text text ≡ true)

-- so many lines of 64 characters, the last of which may be shorter
unfoldable pub pieces_in : ℕ → List ℕ → List (List ℕ)
pieces_in zero text = []
pieces_in (suc count) text = take 64 text ∷ pieces_in count (drop 64 text)

abbrev pub pieces : List ℕ → List (List ℕ)
pieces text = pieces_in ((length text + 63) / 64) text

-- the octets stand under a label as the first block of a text, in the strict form (RFC 7468, figure 3)
pub record IsFirstBlock (label text octets : List ℕ) : Type 0 where
  pub before : List (List ℕ)
  pub base64 : List ℕ
  pub behind : List (List ℕ)
  pub lines : lines_of text ≡ before ++ (begin_line label ∷ (pieces base64 ++ (end_line label ∷ behind)))
  pub first : list_any is_opening before ≡ false
  pub spelled : decode_of standard base64 ≡ Ok octets

-- what is read is the first block, in the strict form
abbrev pub ReadIsStrict : Type 0
ReadIsStrict = (label text octets : List ℕ) → content_of label text ≡ Some octets → IsFirstBlock label text octets
