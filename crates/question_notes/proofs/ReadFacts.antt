-- A line that is written is read, and adds its row to those before it.
use Rattle.std.proofs.Common.{◌≡◌, ℕ, ◌==◌, List, [], ◌∷◌, ◌++◌, length, true, false, is_some, codes, option_map, Option, None, Ok, refl, sym, ap, ◌∙◌, subst, append_assoc, IsAscii, arith, Some}
use Rattle.std.proofs.lemmas.Bool.{eq-eqb}
use Rattle.std.proofs.lemmas.Str.Ascii.{IsAscii-nil, IsAscii-cons}
use Rattle.std.proofs.lemmas.Str.{IsAscii-append, IsUtf8-from_ascii, utf8_valid_len-IsUtf8}
use Rattle.std.specs.Str.Lossy.{utf8_valid_len}
use Rattle.base64.specs.GeneralPurpose.{IsBytes}
use Rattle.sigstore_types_parts.specs.Entries.{at_name}
use Rattle.sigstore_keys.specs.declared.scheme.SigningScheme.{SigningScheme}
use Rattle.sigstore_keys.specs.declared.scheme.SigningScheme.TheVariants as scheme
use Rattle.sigstore_keys.specs.Scheme.{scheme_name_of, scheme_named}
use Rattle.command_files.specs.Lines.{cut_of, lines_of, counted, text_folded_of}
use Rattle.command_files.specs.Rows.{is_der, is_subject, armor_row_of, accept_row_of, accepted_row_of}
use Rattle.command_files.specs.Tables.{table_line_of, no_rows, tables_of}
use Rattle.command_files.specs.declared.tables.Tables.{Tables}
use Rattle.std.proofs.lemmas.List.Folds.{list_all-append}
use Rattle.command_files.proofs.Folds.{lines_cut, folded_more, folded_empty}
use Rattle.question_notes.specs.Lines.{field_text, armor_line, accept_line}
use Rattle.question_notes.specs.Reads.{IsReadAs}
use Rattle.question_notes.specs.Holds.{is_row_line, are_row_lines, HasRowsAlone}
use Rattle.question_notes.specs.Notes.{keys_with, certificates_with, row_of, rows_with}
use Rattle.question_notes.proofs.FieldFacts.{are_plain, plain_ascii, below_ascii, both_of, left_of, right_of, field_plain, field_read}
use Rattle.question_notes.proofs.LineFacts.{lacks, cut_front, lines_more, folded_behind}

-- a plain text has no line feed, and no blank
no_feed : (s : List ℕ) → are_plain s ≡ true → lacks 10 s ≡ true
no_feed [] h = refl
no_feed (b ∷ s) h = both_of _ _ (left_of _ _ (right_of _ _ (left_of _ _ h))) (no_feed s (right_of _ _ h))

no_blank : (s : List ℕ) → are_plain s ≡ true → lacks 32 s ≡ true
no_blank [] h = refl
no_blank (b ∷ s) h = both_of _ _ (right_of _ _ (right_of _ _ (left_of _ _ h))) (no_blank s (right_of _ _ h))

lacks_append : (s t : List ℕ) → lacks 10 s ≡ true → lacks 10 t ≡ true → lacks 10 (s ++ t) ≡ true
lacks_append [] t h k = k
lacks_append (b ∷ s) t h k = both_of _ _ (left_of _ _ h) (lacks_append s t (right_of _ _ h) k)

ascii_append : (s t : List ℕ) → IsAscii s → IsAscii t → IsAscii (s ++ t)
ascii_append s t h k = IsAscii-append s t h k

-- ---- a text and its tables

pub ascii_is_file : (text : List ℕ) → IsAscii text → tables_of text ≡ text_folded_of table_line_of no_rows text
unfolding tables_of
ascii_is_file text plain =
    let whole : (utf8_valid_len text == length text) ≡ true = eq-eqb _ _ (utf8_valid_len-IsUtf8 text (IsUtf8-from_ascii text plain)) in
    rw whole refl

-- one line more
line_read : (text line body : List ℕ) (tables next : Tables) → IsReadAs text tables → line ≡ body ++ 10 ∷ [] → lacks 10 body ≡ true → IsAscii line
    → counted table_line_of tables body ≡ Ok next → IsReadAs (text ++ line) next
line_read text line body tables next r is feed plain taken =
    let whole : IsAscii (text ++ line) = ascii_append text line r.plain plain in
    let before : text_folded_of table_line_of no_rows text ≡ Ok tables = sym (ascii_is_file text r.plain) ∙ r.read in
    let cut : cut_of 10 line ≡ cut_of 10 (body ++ 10 ∷ []) = ap (cut_of 10) is in
    record {
      plain = whole;
      read =
          ascii_is_file (text ++ line) whole ∙ folded_behind table_line_of no_rows tables text line before
          ∙ folded_more table_line_of tables next line body [] (cut ∙ cut_front 10 refl body [] feed) taken
          ∙ folded_empty table_line_of next [] refl;
    }

-- ---- an armoured text

-- two fields with a blank between them
abbrev pair_fields : List ℕ → List ℕ → List ℕ
pair_fields text der = field_text text ++ 32 ∷ field_text der

-- the first field
field_cut : (field back : List ℕ) → cut_of 32 (field_text field ++ 32 ∷ back) ≡ Some (field_text field, back)
field_cut field back = cut_front 32 refl (field_text field) back (no_blank (field_text field) (field_plain field))

armor_fields : (text der : List ℕ) → is_der text ≡ false → IsBytes text → IsBytes der → armor_row_of (pair_fields text der) ≡ Ok (record { text = text; der = der })
armor_fields text der other t d =
    rw (field_cut text (field_text der), field_read text t, field_read der d, other) refl

key_taken : (text der : List ℕ) (tables : Tables) → is_der text ≡ false → is_some (at_name text tables.armor.keys) ≡ false → IsBytes text → IsBytes der
    → counted table_line_of tables (codes "armor key " ++ pair_fields text der) ≡ Ok (keys_with text der tables)
key_taken text der tables other new t d = rw (armor_fields text der other t d, new) refl

certificate_taken : (text der : List ℕ) (tables : Tables) → is_der text ≡ false → is_some (at_name text tables.armor.certificates) ≡ false → IsBytes text → IsBytes der
    → counted table_line_of tables (codes "armor certificate " ++ pair_fields text der) ≡ Ok (certificates_with text der tables)
certificate_taken text der tables other new t d = rw (armor_fields text der other t d, new) refl

pair_feed : (text der : List ℕ) → lacks 10 (pair_fields text der) ≡ true
pair_feed text der = lacks_append (field_text text) (32 ∷ field_text der) (no_feed (field_text text) (field_plain text)) (no_feed (field_text der) (field_plain der))

plain_line : (body : List ℕ) → IsAscii body → IsAscii (body ++ 10 ∷ [])
plain_line body h = ascii_append body (10 ∷ []) h (IsAscii-cons 10 [] (omega arith) IsAscii-nil)

pair_ascii : (text der : List ℕ) → IsAscii (pair_fields text der)
pair_ascii text der =
    ascii_append (field_text text) (32 ∷ field_text der) (plain_ascii (field_text text) (field_plain text))
    (IsAscii-cons 32 (field_text der) (omega arith) (plain_ascii (field_text der) (field_plain der)))

-- the line of a key adds its row
pub key_read : (before line text der : List ℕ) (tables : Tables) → line ≡ armor_line (codes "key") text der → is_der text ≡ false
    → is_some (at_name text tables.armor.keys) ≡ false → IsBytes text → IsBytes der → IsReadAs before tables → IsReadAs (before ++ line) (keys_with text der tables)
unfolding armor_line
key_read before line text der tables is other new t d r =
    let body : List ℕ = codes "armor key " ++ pair_fields text der in
    let whole : line ≡ body ++ 10 ∷ [] = is in
    let plain : IsAscii body = ascii_append (codes "armor key ") (pair_fields text der) (below_ascii (codes "armor key ") refl) (pair_ascii text der) in
    let feed : lacks 10 body ≡ true = lacks_append (codes "armor key ") (pair_fields text der) refl (pair_feed text der) in
    line_read before line body tables (keys_with text der tables) r whole feed (subst IsAscii (sym whole) (plain_line body plain)) (key_taken text der tables other new t d)

-- the line of a certificate adds its row
pub certificate_read : (before line text der : List ℕ) (tables : Tables) → line ≡ armor_line (codes "certificate") text der → is_der text ≡ false
    → is_some (at_name text tables.armor.certificates) ≡ false → IsBytes text → IsBytes der → IsReadAs before tables → IsReadAs (before ++ line) (certificates_with text der tables)
unfolding armor_line
certificate_read before line text der tables is other new t d r =
    let body : List ℕ = codes "armor certificate " ++ pair_fields text der in
    let whole : line ≡ body ++ 10 ∷ [] = is in
    let plain : IsAscii body = ascii_append (codes "armor certificate ") (pair_fields text der) (below_ascii (codes "armor certificate ") refl) (pair_ascii text der) in
    let feed : lacks 10 body ≡ true = lacks_append (codes "armor certificate ") (pair_fields text der) refl (pair_feed text der) in
    line_read before line body tables (certificates_with text der tables) r whole feed (subst IsAscii (sym whole) (plain_line body plain)) (certificate_taken text der tables other new t d)

-- ---- a signature

name_plain : (s : SigningScheme) → are_plain (scheme_name_of s) ≡ true
name_plain scheme.EcdsaP256Sha256 = refl
name_plain scheme.EcdsaP256Sha384 = refl
name_plain scheme.EcdsaP384Sha256 = refl
name_plain scheme.EcdsaP384Sha384 = refl
name_plain scheme.Ed25519 = refl
name_plain scheme.RsaPssSha256 = refl
name_plain scheme.RsaPssSha384 = refl
name_plain scheme.RsaPssSha512 = refl
name_plain scheme.RsaPkcs1Sha256 = refl
name_plain scheme.RsaPkcs1Sha384 = refl
name_plain scheme.RsaPkcs1Sha512 = refl
name_plain scheme.MlDsa44 = refl
name_plain scheme.MlDsa65 = refl
name_plain scheme.MlDsa87 = refl

name_read : (s : SigningScheme) → scheme_named (scheme_name_of s) ≡ Some s
name_read scheme.EcdsaP256Sha256 = refl
name_read scheme.EcdsaP256Sha384 = refl
name_read scheme.EcdsaP384Sha256 = refl
name_read scheme.EcdsaP384Sha384 = refl
name_read scheme.Ed25519 = refl
name_read scheme.RsaPssSha256 = refl
name_read scheme.RsaPssSha384 = refl
name_read scheme.RsaPssSha512 = refl
name_read scheme.RsaPkcs1Sha256 = refl
name_read scheme.RsaPkcs1Sha384 = refl
name_read scheme.RsaPkcs1Sha512 = refl
name_read scheme.MlDsa44 = refl
name_read scheme.MlDsa65 = refl
name_read scheme.MlDsa87 = refl

abbrev accept_fields : SigningScheme → List ℕ → List ℕ → List ℕ → List ℕ
accept_fields s key subject signature = scheme_name_of s ++ (32 ∷ (field_text key ++ (32 ∷ pair_fields subject signature)))

signed_fields : (s : SigningScheme) (key subject signature : List ℕ) → is_subject s subject ≡ true → IsBytes key → IsBytes subject → IsBytes signature
    → accepted_row_of s (field_text key ++ (32 ∷ pair_fields subject signature)) ≡ Ok (row_of s key subject signature)
signed_fields s key subject signature fits k m g =
    rw (
      field_cut key (pair_fields subject signature),
      field_cut subject (field_text signature),
      field_read key k,
      field_read subject m,
      field_read signature g,
      fits,
    ) refl

named_fields : (s : SigningScheme) (key subject signature : List ℕ) → is_subject s subject ≡ true → IsBytes key → IsBytes subject → IsBytes signature
    → accept_row_of (accept_fields s key subject signature) ≡ Ok (row_of s key subject signature)
named_fields s key subject signature fits k m g =
    rw (cut_front 32 refl (scheme_name_of s) (field_text key ++ (32 ∷ pair_fields subject signature)) (no_blank (scheme_name_of s) (name_plain s)), name_read s)
    (signed_fields s key subject signature fits k m g)

signature_taken : (s : SigningScheme) (key subject signature : List ℕ) (tables : Tables) → is_subject s subject ≡ true → IsBytes key → IsBytes subject → IsBytes signature
    → counted table_line_of tables (codes "accept " ++ accept_fields s key subject signature) ≡ Ok (rows_with (row_of s key subject signature) tables)
signature_taken s key subject signature tables fits k m g = rw (named_fields s key subject signature fits k m g) refl

accept_end : (s : SigningScheme) (key subject signature : List ℕ)
    → (((scheme_name_of s ++ (32 ∷ field_text key)) ++ (32 ∷ field_text subject)) ++ (32 ∷ field_text signature)) ≡ accept_fields s key subject signature
accept_end s key subject signature =
    append_assoc (scheme_name_of s ++ (32 ∷ field_text key)) (32 ∷ field_text subject) (32 ∷ field_text signature)
    ∙ append_assoc (scheme_name_of s) (32 ∷ field_text key) (32 ∷ pair_fields subject signature)

accept_feed : (s : SigningScheme) (key subject signature : List ℕ) → lacks 10 (accept_fields s key subject signature) ≡ true
accept_feed s key subject signature =
    lacks_append (scheme_name_of s) (32 ∷ (field_text key ++ (32 ∷ pair_fields subject signature))) (no_feed (scheme_name_of s) (name_plain s))
    (lacks_append (field_text key) (32 ∷ pair_fields subject signature) (no_feed (field_text key) (field_plain key)) (pair_feed subject signature))

accept_ascii : (s : SigningScheme) (key subject signature : List ℕ) → IsAscii (accept_fields s key subject signature)
accept_ascii s key subject signature =
    ascii_append (scheme_name_of s) (32 ∷ (field_text key ++ (32 ∷ pair_fields subject signature))) (plain_ascii (scheme_name_of s) (name_plain s))
    (IsAscii-cons 32 (field_text key ++ (32 ∷ pair_fields subject signature)) (omega arith)
    (ascii_append (field_text key) (32 ∷ pair_fields subject signature) (plain_ascii (field_text key) (field_plain key))
    (IsAscii-cons 32 (pair_fields subject signature) (omega arith) (pair_ascii subject signature))))

-- the line of a signature adds its row
pub signature_read : (before line : List ℕ) (s : SigningScheme) (key subject signature : List ℕ) (tables : Tables) → line ≡ accept_line s key subject signature
    → is_subject s subject ≡ true → IsBytes key → IsBytes subject → IsBytes signature → IsReadAs before tables
    → IsReadAs (before ++ line) (rows_with (row_of s key subject signature) tables)
unfolding accept_line
signature_read before line s key subject signature tables is fits k m g r =
    let fields : List ℕ = accept_fields s key subject signature in
    let body : List ℕ = codes "accept " ++ fields in
    let whole : line ≡ body ++ 10 ∷ [] = is ∙ ap (λ t. (codes "accept " ++ t) ++ 10 ∷ []) (accept_end s key subject signature) in
    let plain : IsAscii body = ascii_append (codes "accept ") fields (below_ascii (codes "accept ") refl) (accept_ascii s key subject signature) in
    let feed : lacks 10 body ≡ true = lacks_append (codes "accept ") fields refl (accept_feed s key subject signature) in
    line_read before line body tables (rows_with (row_of s key subject signature) tables) r whole feed (subst IsAscii (sym whole) (plain_line body plain))
    (signature_taken s key subject signature tables fits k m g)

-- ---- lines of rows alone

-- a line of a row more
row_more : (before line body : List ℕ) → line ≡ body ++ 10 ∷ [] → lacks 10 body ≡ true → is_row_line body ≡ true → HasRowsAlone before → HasRowsAlone (before ++ line)
row_more before line body is feed row h = by (lines_of before) refl h
  where
    cut : cut_of 10 line ≡ Some (body, [])
    cut = ap (cut_of 10) is ∙ cut_front 10 refl body [] feed

    by : (o : Option (List (List ℕ))) → lines_of before ≡ o → are_row_lines o ≡ true → HasRowsAlone (before ++ line)
    by None e k = cc k
    by (Some lines) e k =
        ap are_row_lines (lines_more before line lines e ∙ ap (option_map (λ ms. lines ++ ms)) (lines_cut line body [] cut)) ∙ list_all-append is_row_line lines (body ∷ [])
        ∙ both_of _ _ k (both_of _ _ row refl)

pub key_line_more : (before text der : List ℕ) → HasRowsAlone before → HasRowsAlone (before ++ armor_line (codes "key") text der)
unfolding armor_line
key_line_more before text der h =
    row_more before (armor_line (codes "key") text der) (codes "armor key " ++ pair_fields text der) refl (lacks_append (codes "armor key ") (pair_fields text der) refl (pair_feed text der)) refl h

pub certificate_line_more : (before text der : List ℕ) → HasRowsAlone before → HasRowsAlone (before ++ armor_line (codes "certificate") text der)
unfolding armor_line
certificate_line_more before text der h =
    row_more before (armor_line (codes "certificate") text der) (codes "armor certificate " ++ pair_fields text der) refl (lacks_append (codes "armor certificate ") (pair_fields text der) refl (pair_feed text der)) refl h

pub signature_line_more : (before : List ℕ) (s : SigningScheme) (key subject signature : List ℕ) → HasRowsAlone before → HasRowsAlone (before ++ accept_line s key subject signature)
unfolding accept_line
signature_line_more before s key subject signature h =
    let fields : List ℕ = accept_fields s key subject signature in
    row_more before (accept_line s key subject signature) (codes "accept " ++ fields) (ap (λ t. (codes "accept " ++ t) ++ 10 ∷ []) (accept_end s key subject signature)) (lacks_append (codes "accept ") fields refl (accept_feed s key subject signature)) refl h
