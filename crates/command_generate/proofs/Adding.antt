-- Rows that are added one after the other, and that each stays.
use Rattle.std.proofs.Common.{◌≡◌, ℕ, List, [], ◌∷◌, ◌++◌, Bool, true, false, ◌||◌, ◌&&◌, cond, bytes_eq, ◌+◌, ◌<◌, length, take, get_or, add-one, refl, ap, sym, ◌∙◌}
use Rattle.std.proofs.Math.Seq.{take-suc}
use Rattle.std.specs.List.{AllByRecursion}
use Rattle.std.specs.Cmp.Lexicographic.{nat_list_eq_equiv}
use Rattle.sigstore_keys.specs.Scheme.{scheme_name_of}
use Rattle.command_files.specs.Rows.{AcceptRows, with_accept_row, accepts_of, is_row}
use Rattle.command_files.specs.RowLaws.{AddsSignature}
use Rattle.command_files.specs.declared.rows.AcceptRow.{AcceptRow}
use Rattle.workload.specs.Numbers.{has_row}
use Rattle.workload.specs.declared.drawn.Drawn.{Drawn}
use Rattle.workload.specs.declared.log.Log.{Log}
use Rattle.command_generate.specs.Provider.{row_of, rows_with, row_added, rows_added, checkpoint_row_of, provider_rows_of}

-- ---- one more at the end

pub rows_one_more : (rows : AcceptRows) (front : List AcceptRow) (row : AcceptRow) → rows_with rows (front ++ row ∷ []) ≡ with_accept_row (rows_with rows front) row
rows_one_more rows [] row = refl
rows_one_more rows (first ∷ front) row = rows_one_more (with_accept_row rows first) front row

pub items_one_more : (rows : AcceptRows) (front : List Drawn) (drawn : Drawn) → rows_added rows (front ++ drawn ∷ []) ≡ row_added (rows_added rows front) drawn
items_one_more rows [] drawn = refl
items_one_more rows (first ∷ front) drawn = items_one_more (row_added rows first) front drawn

pub row_more : (old rows rows' : AcceptRows) (front : List AcceptRow) (row : AcceptRow) → rows' ≡ with_accept_row rows row → rows ≡ rows_with old front
    → rows' ≡ rows_with old (front ++ row ∷ [])
row_more old rows rows' front row e h = e ∙ ap (λ r. with_accept_row r row) h ∙ sym (rows_one_more old front row)

pub item_more : (old rows rows' : AcceptRows) (items : List Drawn) (index : ℕ) (drawn : Drawn) → index < length items
    → drawn ≡ get_or items index drawn → rows' ≡ row_added rows drawn → rows ≡ rows_added old (take index items)
    → rows' ≡ rows_added old (take (index + 1) items)
item_more old rows rows' items index drawn h is e k =
    let longer : take (index + 1) items ≡ take index items ++ drawn ∷ [] =
    rw add-one (take-suc items index drawn h ∙ ap (λ x. take index items ++ x ∷ []) (sym is)) in
    rw longer (e ∙ ap (λ r. row_added r drawn) k ∙ sym (items_one_more old (take index items) drawn))

-- ---- what is accepted stays so

-- the row's own question
abbrev pub HasRow : AcceptRows → AcceptRow → Type 0
HasRow rows row = accepts_of rows row.scheme row.key row.subject row.signature ≡ true

or_left : (a b : Bool) → a ≡ true → (a || b) ≡ true
or_left true b h = refl
or_left false b h = absurd (cc h)

or_right : (a b : Bool) → b ≡ true → (a || b) ≡ true
or_right true b h = refl
or_right false b h = h

stays : AddsSignature → (rows : AcceptRows) (row other : AcceptRow) → HasRow rows row → HasRow (with_accept_row rows other) row
stays law rows row other h = law rows other row.scheme row.key row.subject row.signature ∙ or_left _ _ h

stays_item : AddsSignature → (rows : AcceptRows) (row : AcceptRow) (drawn : Drawn) → HasRow rows row → HasRow (row_added rows drawn) row
stays_item law rows row drawn h =
    let more = row_of drawn.subject drawn.signature in
    elim (has_row drawn.kind) as (λ v. HasRow (cond v (with_accept_row rows more) rows) row) [
      | true ↦ stays law rows row more h
      | false ↦ h
    ]

stays_rows : AddsSignature → (rows : AcceptRows) (row : AcceptRow) (more : List AcceptRow) → HasRow rows row → HasRow (rows_with rows more) row
stays_rows law rows row [] h = h
stays_rows law rows row (first ∷ more) h = stays_rows law (with_accept_row rows first) row more (stays law rows row first h)

stays_items : AddsSignature → (rows : AcceptRows) (row : AcceptRow) (items : List Drawn) → HasRow rows row → HasRow (rows_added rows items) row
stays_items law rows row [] h = h
stays_items law rows row (drawn ∷ items) h = stays_items law (row_added rows drawn) row items (stays_item law rows row drawn h)

-- ---- a row that is added is accepted

both : (a b : Bool) → a ≡ true → b ≡ true → (a && b) ≡ true
both true b h k = k
both false b h k = cc h

same : (xs : List ℕ) → bytes_eq xs xs ≡ true
same xs = nat_list_eq_equiv.refl xs

own : (row : AcceptRow) → is_row row.scheme row.key row.subject row.signature row ≡ true
own row =
    both _ _ (both _ _ (both _ _ (same (scheme_name_of row.scheme)) (same row.key)) (same row.subject)) (same row.signature)

added : AddsSignature → (rows : AcceptRows) (row : AcceptRow) → HasRow (with_accept_row rows row) row
added law rows row = law rows row row.scheme row.key row.subject row.signature ∙ or_right _ _ (own row)

all_rows : AddsSignature → (rows : AcceptRows) (more : List AcceptRow) → AllByRecursion (HasRow (rows_with rows more)) more
all_rows law rows [] = tt
all_rows law rows (row ∷ more) =
    (stays_rows law (with_accept_row rows row) row more (added law rows row), all_rows law (with_accept_row rows row) more)

all_so : {P Q : AcceptRow → Type 0} (rows : List AcceptRow) → ((row : AcceptRow) → P row → Q row) → AllByRecursion P rows → AllByRecursion Q rows
all_so [] f h = tt
all_so (row ∷ rows) f h = (f row h.0, all_so rows f h.1)

-- the documents' rows among all of a workload's
pub documents_there : AddsSignature → (documents : List AcceptRow) (log : Log) (items : List Drawn)
    → AllByRecursion (HasRow (provider_rows_of documents log items)) documents
documents_there law documents log items =
    all_so documents
    (λ row h. stays_items law _ row items (stays law _ row (checkpoint_row_of log) h))
    (all_rows law [] documents)
