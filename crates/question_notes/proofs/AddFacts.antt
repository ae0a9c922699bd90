-- What a line more makes of what was noted.
use Rattle.std.proofs.Common.{◌≡◌, ℕ, List, [], ◌++◌, length, true, false, is_some, Option, Some, None, option_copied, Bor, codes, refl, sym, ap, ◌∙◌, subst}
use Rattle.std.proofs.lemmas.Str.Ascii.{IsAscii-nil}
use Rattle.std.specs.BTreeMap.{insert_entry}
use Rattle.base64.specs.GeneralPurpose.{IsBytes}
use Rattle.sigstore_types_parts.specs.Entries.{text_cmp, at_name}
use Rattle.sigstore_keys.specs.declared.scheme.SigningScheme.{SigningScheme}
use Rattle.command_files.specs.Rows.{ArmorRows, is_der, is_subject, accepts_of, with_accept_row}
use Rattle.command_files.specs.Tables.{no_rows}
use Rattle.command_files.specs.declared.rows.AcceptRow.{AcceptRow}
use Rattle.command_files.specs.declared.tables.Tables.{Tables}
use Rattle.command_files.specs.declared.tables.TableProvider.{TableProvider}
use Rattle.question_notes.specs.Lines.{armor_line, accept_line}
use Rattle.question_notes.specs.Reads.{IsReadAs}
use Rattle.sigstore_pem.specs.Pem.{content_of, key_label, certificate_label}
use Rattle.question_notes.specs.Notes.{Seen, keys_with, certificates_with, row_of, rows_with, has_room, key_noted, certificate_noted, signature_noted, Asked, nothing, one_key, one_certificate, one_signature}
use Rattle.question_notes.proofs.ReadFacts.{ascii_is_file, key_read, certificate_read, signature_read}

-- no line yet
pub nothing_read : (text : List ℕ) (tables : Tables) → text ≡ [] → tables ≡ no_rows → IsReadAs text tables
nothing_read text tables e f =
    let empty : IsReadAs [] no_rows = record { plain = IsAscii-nil; read = ascii_is_file [] IsAscii-nil } in
    subst (λ t. IsReadAs t tables) (sym e) (subst (IsReadAs []) (sym f) empty)

pub copied_some : {A : Type 0} (r : Option (Bor A)) → is_some (option_copied r) ≡ is_some r
copied_some None = refl
copied_some (Some x) = refl

same_put : (rows more : ArmorRows) (text der k v : List ℕ) → more ≡ insert_entry text_cmp rows k v → k ≡ text → v ≡ der → more ≡ insert_entry text_cmp rows text der
same_put rows more text der k v put is holds = put ∙ ap (λ q. insert_entry text_cmp rows q v) is ∙ ap (insert_entry text_cmp rows text) holds

-- a key more
pub key_more : (before after text der : List ℕ) (tables : Tables) (rows : ArmorRows) (k v : List ℕ) → IsReadAs before tables → after ≡ before ++ armor_line (codes "key") text der
    → rows ≡ insert_entry text_cmp tables.armor.keys k v → k ≡ text → v ≡ der → is_der text ≡ false → is_some (at_name text tables.armor.keys) ≡ false → IsBytes text → IsBytes der
    → IsReadAs after (record { provider = tables.provider; armor = record { keys = rows; certificates = tables.armor.certificates } })
key_more before after text der tables rows k v r e put is holds other new t d =
    let same : rows ≡ insert_entry text_cmp tables.armor.keys text der = same_put tables.armor.keys rows text der k v put is holds in
    subst (λ a. IsReadAs a (record { provider = tables.provider; armor = record { keys = rows; certificates = tables.armor.certificates } })) (sym e)
    (subst (λ ks. IsReadAs (before ++ armor_line (codes "key") text der) (record { provider = tables.provider; armor = record { keys = ks; certificates = tables.armor.certificates } })) (sym same)
    (key_read before (armor_line (codes "key") text der) text der tables refl other new t d r))

-- a certificate more
pub certificate_more : (before after text der : List ℕ) (tables : Tables) (rows : ArmorRows) (k v : List ℕ) → IsReadAs before tables → after ≡ before ++ armor_line (codes "certificate") text der
    → rows ≡ insert_entry text_cmp tables.armor.certificates k v → k ≡ text → v ≡ der → is_der text ≡ false → is_some (at_name text tables.armor.certificates) ≡ false → IsBytes text → IsBytes der
    → IsReadAs after (record { provider = tables.provider; armor = record { keys = tables.armor.keys; certificates = rows } })
certificate_more before after text der tables rows k v r e put is holds other new t d =
    let same : rows ≡ insert_entry text_cmp tables.armor.certificates text der = same_put tables.armor.certificates rows text der k v put is holds in
    subst (λ a. IsReadAs a (record { provider = tables.provider; armor = record { keys = tables.armor.keys; certificates = rows } })) (sym e)
    (subst (λ ks. IsReadAs (before ++ armor_line (codes "certificate") text der) (record { provider = tables.provider; armor = record { keys = tables.armor.keys; certificates = ks } })) (sym same)
    (certificate_read before (armor_line (codes "certificate") text der) text der tables refl other new t d r))

-- a signature more
pub signature_more : (before after : List ℕ) (s : SigningScheme) (key subject signature : List ℕ) (tables : Tables) (provider : TableProvider) (row : AcceptRow) → IsReadAs before tables
    → after ≡ before ++ accept_line s key subject signature → provider.rows ≡ with_accept_row tables.provider.rows row → row ≡ row_of s key subject signature
    → is_subject s subject ≡ true → IsBytes key → IsBytes subject → IsBytes signature → IsReadAs after (record { provider = provider; armor = tables.armor })
signature_more before after s key subject signature tables provider row r e put is fits k m g =
    let same : provider.rows ≡ with_accept_row tables.provider.rows (row_of s key subject signature) = put ∙ ap (with_accept_row tables.provider.rows) is in
    subst (λ a. IsReadAs a (record { provider = provider; armor = tables.armor })) (sym e)
    (subst (λ rows. IsReadAs (before ++ accept_line s key subject signature) (record { provider = record { rows = rows }; armor = tables.armor })) (sym same)
    (signature_read before (accept_line s key subject signature) s key subject signature tables refl fits k m g r))

-- ---- what was asked

-- nothing yet
pub none_asked : (text : List ℕ) (tables : Tables) → text ≡ [] → tables ≡ no_rows → Asked (record { tables = tables; text = text })
none_asked text tables e f = subst (λ t. Asked (record { tables = tables; text = t })) (sym e) (subst (λ ts. Asked (record { tables = ts; text = [] })) (sym f) nothing)

-- a key more was asked
pub key_asked : (before after text der : List ℕ) (tables : Tables) (rows : ArmorRows) (k v : List ℕ) → Asked (record { tables = tables; text = before }) → after ≡ before ++ armor_line (codes "key") text der
    → rows ≡ insert_entry text_cmp tables.armor.keys k v → k ≡ text → v ≡ der → is_der text ≡ false → is_some (at_name text tables.armor.keys) ≡ false → has_room before (length text) (length der) 0 ≡ true → content_of key_label text ≡ Some der
    → Asked (record { tables = record { provider = tables.provider; armor = record { keys = rows; certificates = tables.armor.certificates } }; text = after })
key_asked before after text der tables rows k v asked e put is holds other new room held =
    let same : rows ≡ insert_entry text_cmp tables.armor.keys text der = same_put tables.armor.keys rows text der k v put is holds in
    let seen : Seen = record { tables = tables; text = before } in
    let noted : key_noted text der seen ≡ record { tables = keys_with text der tables; text = before ++ armor_line (codes "key") text der } = rw (other, new, room) refl in
    subst (λ t. Asked (record { tables = record { provider = tables.provider; armor = record { keys = rows; certificates = tables.armor.certificates } }; text = t })) (sym e)
    (subst (λ held. Asked (record { tables = record { provider = tables.provider; armor = record { keys = held; certificates = tables.armor.certificates } }; text = before ++ armor_line (codes "key") text der })) (sym same)
    (subst Asked noted (one_key seen text der asked held)))

-- a certificate more was asked
pub certificate_asked : (before after text der : List ℕ) (tables : Tables) (rows : ArmorRows) (k v : List ℕ) → Asked (record { tables = tables; text = before }) → after ≡ before ++ armor_line (codes "certificate") text der
    → rows ≡ insert_entry text_cmp tables.armor.certificates k v → k ≡ text → v ≡ der → is_der text ≡ false → is_some (at_name text tables.armor.certificates) ≡ false → has_room before (length text) (length der) 0 ≡ true → content_of certificate_label text ≡ Some der
    → Asked (record { tables = record { provider = tables.provider; armor = record { keys = tables.armor.keys; certificates = rows } }; text = after })
certificate_asked before after text der tables rows k v asked e put is holds other new room held =
    let same : rows ≡ insert_entry text_cmp tables.armor.certificates text der = same_put tables.armor.certificates rows text der k v put is holds in
    let seen : Seen = record { tables = tables; text = before } in
    let noted : certificate_noted text der seen ≡ record { tables = certificates_with text der tables; text = before ++ armor_line (codes "certificate") text der } = rw (other, new, room) refl in
    subst (λ t. Asked (record { tables = record { provider = tables.provider; armor = record { keys = tables.armor.keys; certificates = rows } }; text = t })) (sym e)
    (subst (λ held. Asked (record { tables = record { provider = tables.provider; armor = record { keys = tables.armor.keys; certificates = held } }; text = before ++ armor_line (codes "certificate") text der })) (sym same)
    (subst Asked noted (one_certificate seen text der asked held)))

-- a signature more was asked
pub signature_asked : (before after : List ℕ) (s : SigningScheme) (key subject signature : List ℕ) (tables : Tables) (provider : TableProvider) (row : AcceptRow) → Asked (record { tables = tables; text = before })
    → after ≡ before ++ accept_line s key subject signature → provider.rows ≡ with_accept_row tables.provider.rows row → row ≡ row_of s key subject signature
    → is_subject s subject ≡ true → accepts_of tables.provider.rows s key subject signature ≡ false
    → has_room before (length key) (length subject) (length signature) ≡ true → Asked (record { tables = record { provider = provider; armor = tables.armor }; text = after })
signature_asked before after s key subject signature tables provider row asked e put is fits new room =
    let same : provider.rows ≡ with_accept_row tables.provider.rows (row_of s key subject signature) = put ∙ ap (with_accept_row tables.provider.rows) is in
    let seen : Seen = record { tables = tables; text = before } in
    let noted : signature_noted s key subject signature seen ≡ record { tables = rows_with (row_of s key subject signature) tables; text = before ++ accept_line s key subject signature } = rw (fits, new, room) refl in
    subst (λ t. Asked (record { tables = record { provider = provider; armor = tables.armor }; text = t })) (sym e)
    (subst (λ rows. Asked (record { tables = record { provider = record { rows = rows }; armor = tables.armor }; text = before ++ accept_line s key subject signature })) (sym same)
    (subst Asked noted (one_signature seen s key subject signature asked)))
