-- The rows of the provider file.
use Rattle.std.specs.Prelude.{ℕ, List, [], ◌∷◌, ◌++◌, length, take, bytes_eq, codes, not, nat_eq, Bool, ◌&&◌, ◌||◌, if◌then◌else◌}
use Rattle.std.specs.Prelude.{unwrap_or, Result, Ok, Err, ok_or}
use Rattle.std.specs.List.{list_any}
use Rattle.std.specs.BTreeMap.{insert_entry}
use Rattle.foundation.specs.Steps.{◌>>=◌}
use Rattle.sigstore_types_parts.specs.Entries.{text_cmp, at_name}
use Rattle.sigstore_keys.specs.declared.scheme.SigningScheme.{SigningScheme}
use Rattle.sigstore_keys.specs.Scheme.{scheme_name_of, scheme_named, has_digest, digest_size_of}
use Rattle.command_files.specs.Lines.{cut_of}
use Rattle.command_files.specs.Fields.{field_of}
use Rattle.command_files.specs.declared.usage_fault.UsageFault.{UsageFault}
use Rattle.command_files.specs.declared.usage_fault.UsageFault.TheVariants.{Usage}
use Rattle.command_files.specs.declared.rows.AcceptRow.{AcceptRow}
use Rattle.command_files.specs.declared.rows.ArmorRow.{ArmorRow}

-- the field before the first blank and what stands behind it
abbrev pub parted_of : List ℕ → Result (List ℕ × List ℕ) UsageFault
parted_of text = ok_or (cut_of 32 text) Usage

-- a subject that the scheme can have: one of its digest's length, where it has a digest
abbrev pub is_subject : SigningScheme → List ℕ → Bool
is_subject scheme subject = not (has_digest scheme) || nat_eq (length subject) (digest_size_of scheme)

-- `KEY SUBJECT SIGNATURE` under a scheme
abbrev pub accepted_row_of : SigningScheme → List ℕ → Result AcceptRow UsageFault
accepted_row_of scheme text = do
  a ← parted_of text
  b ← parted_of a.1
  key ← field_of a.0
  subject ← field_of b.0
  signature ← field_of b.1
  if is_subject scheme subject then Ok (record { scheme = scheme; key = key; subject = subject; signature = signature }) else Err Usage

-- `SCHEME KEY SUBJECT SIGNATURE`
abbrev pub accept_row_of : List ℕ → Result AcceptRow UsageFault
accept_row_of text = do
  parts ← parted_of text
  scheme ← ok_or (scheme_named parts.0) Usage
  accepted_row_of scheme parts.1

-- the text begins with `der:`
abbrev pub is_der : List ℕ → Bool
is_der text = bytes_eq (take 4 text) (codes "der:")

-- `TEXT DER`
abbrev pub armor_row_of : List ℕ → Result ArmorRow UsageFault
armor_row_of fields = do
  parts ← parted_of fields
  text ← field_of parts.0
  der ← field_of parts.1
  if is_der text then Err Usage else Ok (record { text = text; der = der })

-- whether a row is that of a scheme, a raw key, a subject and a signature
abbrev pub is_row : SigningScheme → List ℕ → List ℕ → List ℕ → AcceptRow → Bool
is_row scheme key subject signature row =
    bytes_eq (scheme_name_of row.scheme) (scheme_name_of scheme) && bytes_eq row.key key && bytes_eq row.subject subject
    && bytes_eq row.signature signature

-- the rows of one signature, by their subjects
abbrev pub SubjectRows : Type 0
SubjectRows = List (List ℕ × List AcceptRow)

-- those of a subject
abbrev pub of_subject : List ℕ → SubjectRows → List AcceptRow
of_subject subject rows = unwrap_or (at_name subject rows) []

-- one more row, under its subject
abbrev pub with_subject_row : SubjectRows → AcceptRow → SubjectRows
with_subject_row rows row = insert_entry text_cmp rows row.subject (of_subject row.subject rows ++ row ∷ [])

-- the rows that are accepted, by their signatures and then by their subjects: many rows may have one signature
abbrev pub AcceptRows : Type 0
AcceptRows = List (List ℕ × SubjectRows)

-- those of a signature
abbrev pub of_signature : List ℕ → AcceptRows → SubjectRows
of_signature signature rows = unwrap_or (at_name signature rows) []

-- the rows of a signature over a subject
abbrev pub rows_under : List ℕ → List ℕ → AcceptRows → List AcceptRow
rows_under signature subject rows = of_subject subject (of_signature signature rows)

-- one more row, under its signature and its subject
abbrev pub with_accept_row : AcceptRows → AcceptRow → AcceptRows
with_accept_row rows row = insert_entry text_cmp rows row.signature (with_subject_row (of_signature row.signature rows) row)

-- some row is that of these
abbrev pub accepts_of : AcceptRows → SigningScheme → List ℕ → List ℕ → List ℕ → Bool
accepts_of rows scheme key subject signature = list_any (is_row scheme key subject signature) (rows_under signature subject rows)

-- what armoured texts hold, by the texts
abbrev pub ArmorRows : Type 0
ArmorRows = List (List ℕ × List ℕ)
