-- What holds of whatever may be noted.
use Rattle.std.proofs.Common.{◌≡◌, ℕ, List, ◌++◌, length, Bool, true, false, cond, not, ◌||◌, is_some, codes, Some, refl, sym, ap, ◌∙◌}
use Rattle.std.proofs.Math.Logic.{∥∥₁_elim}
use Rattle.std.proofs.Props.{props}
use Rattle.std.proofs.lemmas.Map.Lookups.{exact_bytes}
use Rattle.std.specs.Ordering.{is_eq}
use Rattle.std.specs.BTreeMap.{insert_entry}
use Rattle.sigstore_types_parts.specs.Entries.{text_cmp, at_name}
use Rattle.command_files.specs.Rows.{ArmorRows, is_der, is_subject, accepts_of}
use Rattle.command_files.proofs.RowFacts.{equal_of, found}
use Rattle.sigstore_pem.specs.Pem.{content_of, key_label, certificate_label}
use Rattle.question_notes.specs.Lines.{armor_line, accept_line}
use Rattle.question_notes.specs.Holds.{Hold, TextsHold, HasRowsAlone}
use Rattle.question_notes.specs.Notes.{Seen, keys_with, certificates_with, row_of, rows_with, has_room, Asked, nothing, one_key, one_certificate, one_signature}
use Rattle.question_notes.proofs.ReadFacts.{key_line_more, certificate_line_more, signature_line_more}

either : (P : Seen → Type 0) (b : Bool) (x y : Seen) → P x → P y → P (cond b x y)
either P true x y p q = p
either P false x y p q = q

-- a row more of a text that holds what the row says
hold_more : (label text der : List ℕ) (rows : ArmorRows) → content_of label text ≡ Some der → Hold label rows → Hold label (insert_entry text_cmp rows text der)
hold_more label text der rows held all other octets there = by (is_eq (text_cmp other text)) refl (sym (found other text der rows) ∙ there)
  where
    by : (b : Bool) → is_eq (text_cmp other text) ≡ b → cond b (Some der) (at_name other rows) ≡ Some octets → content_of label other ≡ Some octets
    by true e h = let same : other ≡ text = exact_bytes other text (equal_of _ e) in ap (content_of label) same ∙ held ∙ h
    by false e h = all other octets h

-- each armoured text holds what its row says
texts_hold : (seen : Seen) → Asked seen → TextsHold seen.tables
texts_hold seen nothing = record { keys = λ text der h. cc h; certificates = λ text der h. cc h }
texts_hold seen (one_key before text der asked held) =
    let all : TextsHold before.tables = texts_hold before asked in
    either (λ s. TextsHold s.tables) (is_der text || is_some (at_name text before.tables.armor.keys) || not (has_room before.text (length text) (length der) 0)) before
    (record { tables = keys_with text der before.tables; text = before.text ++ armor_line (codes "key") text der }) all
    (record { keys = hold_more key_label text der before.tables.armor.keys held all.keys; certificates = all.certificates })
texts_hold seen (one_certificate before text der asked held) =
    let all : TextsHold before.tables = texts_hold before asked in
    either (λ s. TextsHold s.tables) (is_der text || is_some (at_name text before.tables.armor.certificates) || not (has_room before.text (length text) (length der) 0)) before
    (record { tables = certificates_with text der before.tables; text = before.text ++ armor_line (codes "certificate") text der }) all
    (record { keys = all.keys; certificates = hold_more certificate_label text der before.tables.armor.certificates held all.certificates })
texts_hold seen (one_signature before scheme key subject signature asked) =
    let all : TextsHold before.tables = texts_hold before asked in
    either (λ s. TextsHold s.tables) (not (is_subject scheme subject) || accepts_of before.tables.provider.rows scheme key subject signature || not (has_room before.text (length key) (length subject) (length signature))) before
    (record { tables = rows_with (row_of scheme key subject signature) before.tables; text = before.text ++ accept_line scheme key subject signature }) all
    (record { keys = all.keys; certificates = all.certificates })

-- each line is a row's
rows_alone : (seen : Seen) → Asked seen → HasRowsAlone seen.text
rows_alone seen nothing = refl
rows_alone seen (one_key before text der asked held) =
    let all : HasRowsAlone before.text = rows_alone before asked in
    either (λ s. HasRowsAlone s.text) (is_der text || is_some (at_name text before.tables.armor.keys) || not (has_room before.text (length text) (length der) 0)) before
    (record { tables = keys_with text der before.tables; text = before.text ++ armor_line (codes "key") text der }) all (key_line_more before.text text der all)
rows_alone seen (one_certificate before text der asked held) =
    let all : HasRowsAlone before.text = rows_alone before asked in
    either (λ s. HasRowsAlone s.text) (is_der text || is_some (at_name text before.tables.armor.certificates) || not (has_room before.text (length text) (length der) 0)) before
    (record { tables = certificates_with text der before.tables; text = before.text ++ armor_line (codes "certificate") text der }) all (certificate_line_more before.text text der all)
rows_alone seen (one_signature before scheme key subject signature asked) =
    let all : HasRowsAlone before.text = rows_alone before asked in
    either (λ s. HasRowsAlone s.text) (not (is_subject scheme subject) || accepts_of before.tables.provider.rows scheme key subject signature || not (has_room before.text (length key) (length subject) (length signature))) before
    (record { tables = rows_with (row_of scheme key subject signature) before.tables; text = before.text ++ accept_line scheme key subject signature }) all
    (signature_line_more before.text scheme key subject signature all)

-- ---- where it is only known that there is such a way

pub texts_of_asked : (seen : Seen) → ∥ Asked seen ∥₁ → TextsHold seen.tables
texts_of_asked seen asked = record {
  keys = λ text der there. ∥∥₁_elim asked (search props) (λ a. (texts_hold seen a).keys text der there);
  certificates = λ text der there. ∥∥₁_elim asked (search props) (λ a. (texts_hold seen a).certificates text der there);
}

pub rows_of_asked : (seen : Seen) → ∥ Asked seen ∥₁ → HasRowsAlone seen.text
rows_of_asked seen asked = ∥∥₁_elim asked (search props) (λ a. rows_alone seen a)
