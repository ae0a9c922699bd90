-- What a question adds to what was noted: a row and its line, where it isn't noted yet, can be a row and has room. And what may be noted.
use Rattle.std.specs.Prelude.{◌≡◌, ℕ, ◌+◌, ◌*◌, List, [], ◌++◌, length}
use Rattle.std.specs.Prelude.{nat_le, codes, Bool, not, ◌||◌, if◌then◌else◌, is_some, Some}
use Rattle.std.specs.BTreeMap.{insert_entry}
use Rattle.sigstore_types_parts.specs.Entries.{text_cmp, at_name}
use Rattle.sigstore_keys.specs.declared.scheme.SigningScheme.{SigningScheme}
use Rattle.command_files.specs.Rows.{is_der, is_subject, accepts_of, with_accept_row}
use Rattle.command_files.specs.Gather.{limit_of}
use Rattle.command_files.specs.Tables.{no_rows}
use Rattle.command_files.specs.declared.inputs.InputFile.TheVariants as input
use Rattle.command_files.specs.declared.rows.AcceptRow.{AcceptRow}
use Rattle.command_files.specs.declared.tables.Tables.{Tables}
use Rattle.sigstore_pem.specs.Pem.{content_of, key_label, certificate_label}
use Rattle.question_notes.specs.Lines.{armor_line, accept_line}

-- the rows, and the text of their lines in the order in which they were asked
pub record Seen : Type 0 where
  pub tables : Tables
  pub text : List ℕ

-- a key row more
abbrev pub keys_with : List ℕ → List ℕ → Tables → Tables
keys_with text der tables = record {
  provider = tables.provider;
  armor = record { keys = insert_entry text_cmp tables.armor.keys text der; certificates = tables.armor.certificates };
}

-- a certificate row more
abbrev pub certificates_with : List ℕ → List ℕ → Tables → Tables
certificates_with text der tables = record {
  provider = tables.provider;
  armor = record { keys = tables.armor.keys; certificates = insert_entry text_cmp tables.armor.certificates text der };
}

abbrev pub row_of : SigningScheme → List ℕ → List ℕ → List ℕ → AcceptRow
row_of scheme key subject signature = record { scheme = scheme; key = key; subject = subject; signature = signature }

-- a row of a signature more
abbrev pub rows_with : AcceptRow → Tables → Tables
rows_with row tables = record { provider = record { rows = with_accept_row tables.provider.rows row }; armor = tables.armor }

-- With a line of three fields of so many octets the text is no longer than a provider file may be: base64 has at most two characters for
-- an octet but for the last ones, and 64 characters are enough for those, the words and the blanks.
abbrev pub has_room : List ℕ → ℕ → ℕ → ℕ → Bool
has_room text a b c = nat_le (length text + (2 * (a + b + c) + 64)) (limit_of input.Provider)

-- an armoured text that holds a key
abbrev pub key_noted : List ℕ → List ℕ → Seen → Seen
key_noted text der seen =
    if is_der text || is_some (at_name text seen.tables.armor.keys) || not (has_room seen.text (length text) (length der) 0) then seen else
    record { tables = keys_with text der seen.tables; text = seen.text ++ armor_line (codes "key") text der }

-- an armoured text that holds a certificate
abbrev pub certificate_noted : List ℕ → List ℕ → Seen → Seen
certificate_noted text der seen =
    if is_der text || is_some (at_name text seen.tables.armor.certificates) || not (has_room seen.text (length text) (length der) 0) then seen else
    record { tables = certificates_with text der seen.tables; text = seen.text ++ armor_line (codes "certificate") text der }

-- the question whether a signature is good
abbrev pub signature_noted : SigningScheme → List ℕ → List ℕ → List ℕ → Seen → Seen
signature_noted scheme key subject signature seen =
    if not (is_subject scheme subject) || accepts_of seen.tables.provider.rows scheme key subject signature
    || not (has_room seen.text (length key) (length subject) (length signature)) then seen else
    record {
      tables = rows_with (row_of scheme key subject signature) seen.tables;
      text = seen.text ++ accept_line scheme key subject signature;
    }

-- no question yet
abbrev pub nothing_asked : Seen
nothing_asked = record { tables = no_rows; text = [] }

-- What may be noted: nothing, or one question more than what was noted before. A text is noted for a key only with the octets
-- that its first block holds under the label of keys, and for a certificate only with those under the label of certificates.
pub data Asked : Seen → Type 0 where
  nothing : Asked nothing_asked
  one_key : (before : Seen) (text der : List ℕ) → Asked before → content_of key_label text ≡ Some der
      → Asked (key_noted text der before)
  one_certificate : (before : Seen) (text der : List ℕ) → Asked before → content_of certificate_label text ≡ Some der
      → Asked (certificate_noted text der before)
  one_signature : (before : Seen) (scheme : SigningScheme) (key subject signature : List ℕ) → Asked before
      → Asked (signature_noted scheme key subject signature before)
