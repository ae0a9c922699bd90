-- A row that is added is found.
use Rattle.std.proofs.Common.{◌≡◌, ℕ, Bool, true, false, cond, ◌&&◌, ◌||◌, bytes_eq, List, [], ◌∷◌, ◌++◌, Option, Some, Ordering, Less, Equal, Greater, unwrap_or, refl, sym, ap, ◌∙◌}
use Rattle.std.proofs.lemmas.Cmp.{nat_list_cmp_total}
use Rattle.std.proofs.lemmas.Map.Lookups.{exact_bytes}
use Rattle.std.specs.Cmp.Lexicographic.{texts_ties}
use Rattle.std.specs.Ordering.{is_eq, ordering_reverse, match_ordering}
use Rattle.std.specs.BTreeMap.{insert_entry}
use Rattle.std.specs.List.{list_any}
use Rattle.sigstore_types_parts.specs.Entries.{text_cmp, at_name}
use Rattle.sigstore_keys.specs.declared.scheme.SigningScheme.{SigningScheme}
use Rattle.command_files.specs.Rows.{SubjectRows, of_subject, with_subject_row, AcceptRows, of_signature, is_row, rows_under, accepts_of}
use Rattle.command_files.specs.RowLaws.{AddsSignature, AddsText}
use Rattle.command_files.specs.declared.rows.AcceptRow.{AcceptRow}

same_test : (q k : List ℕ) → is_eq (text_cmp q k) ≡ bytes_eq q k
same_test q k = sym (texts_ties q k)

self_reverse : (o : Ordering) → o ≡ ordering_reverse o → o ≡ Equal
self_reverse Less h = cc
self_reverse Equal h = refl
self_reverse Greater h = cc

same_key : (k : List ℕ) → text_cmp k k ≡ Equal
same_key k = self_reverse (text_cmp k k) (nat_list_cmp_total.antisymm k k)

pub equal_of : (o : Ordering) → is_eq o ≡ true → o ≡ Equal
equal_of Less h = cc
equal_of Equal h = refl
equal_of Greater h = cc

module _ {T : Type 0} where
  twice : (b : Bool) (x y : Option T) (z : Option T) → cond b x z ≡ cond b x (cond b y z)
  twice true x y z = refl
  twice false x y z = refl

  crossed : (b c : Bool) (x y z : Option T) → (b ≡ true → c ≡ true → ⊥) → cond b x (cond c y z) ≡ cond c y (cond b x z)
  crossed true true x y z h = absurd (h refl refl)
  crossed true false x y z h = refl
  crossed false true x y z h = refl
  crossed false false x y z h = refl

  put_found : (q k : List ℕ) (v : T) (e : List ℕ × T) (es : List (List ℕ × T)) (o : Ordering) → text_cmp k e.0 ≡ o
      → at_name q (insert_entry text_cmp es k v) ≡ cond (is_eq (text_cmp q k)) (Some v) (at_name q es)
      → at_name q (match_ordering o ((k, v) ∷ e ∷ es) ((e.0, v) ∷ es) (e ∷ insert_entry text_cmp es k v))
      ≡ cond (is_eq (text_cmp q k)) (Some v) (cond (is_eq (text_cmp q e.0)) (Some e.1) (at_name q es))
  put_found q k v e es Less h later = refl
  put_found q k v e es Equal h later =
      let same : k ≡ e.0 = exact_bytes k e.0 h in
      twice (is_eq (text_cmp q e.0)) (Some v) (Some e.1) (at_name q es)
      ∙ ap (λ key. cond (is_eq (text_cmp q key)) (Some v) (cond (is_eq (text_cmp q e.0)) (Some e.1) (at_name q es))) (sym same)
  put_found q k v e es Greater h later =
      ap (λ r. cond (is_eq (text_cmp q e.0)) (Some e.1) r) later
      ∙ crossed (is_eq (text_cmp q e.0)) (is_eq (text_cmp q k)) (Some e.1) (Some v) (at_name q es) (λ a b. let left : q ≡ e.0 = exact_bytes q e.0 (equal_of _ a) in let right : q ≡ k = exact_bytes q k (equal_of _ b) in let both : text_cmp k e.0 ≡ Equal = ap (text_cmp k) (sym left ∙ right) ∙ same_key k in cc)

  pub found : (q k : List ℕ) (v : T) (es : List (List ℕ × T)) → at_name q (insert_entry text_cmp es k v) ≡ cond (is_eq (text_cmp q k)) (Some v) (at_name q es)
  found q k v [] = refl
  found q k v (e ∷ es) = put_found q k v e es (text_cmp k e.0) refl (found q k v es)

pub adds_text : AddsText
adds_text rows text der other = found other text der rows ∙ ap (λ b. cond b (Some der) (at_name other rows)) (same_test other text)

-- ---- signatures

or_none : (b : Bool) → (b || false) ≡ b
or_none true = refl
or_none false = refl

either : (b c d e : Bool) → c ≡ (d || e) → (b || c) ≡ ((b || d) || e)
either true c d e h = refl
either false c d e h = h

any_last : {A : Type 0} (test : A → Bool) (xs : List A) (x : A) → list_any test (xs ++ x ∷ []) ≡ (list_any test xs || test x)
any_last test [] x = or_none (test x)
any_last test (y ∷ xs) x = either (test y) (list_any test (xs ++ x ∷ [])) (list_any test xs) (test x) (any_last test xs x)

or_false : (b c : Bool) → c ≡ false → b ≡ (b || c)
or_false true c h = refl
or_false false c h = sym h

and_false : (a b : Bool) → b ≡ false → (a && b) ≡ false
and_false true b h = h
and_false false b h = refl

first_false : (a b : Bool) → a ≡ false → (a && b) ≡ false
first_false true b h = cc h
first_false false b h = refl

abbrev unwrapped : {A : Type 0} → Option (List A) → List A
unwrapped r = unwrap_or r []

is_eq-reverse : (o : Ordering) → is_eq (ordering_reverse o) ≡ is_eq o
is_eq-reverse Less = refl
is_eq-reverse Equal = refl
is_eq-reverse Greater = refl

-- a text that isn't found at a key isn't the key
another : (q k : List ℕ) → is_eq (text_cmp q k) ≡ false → bytes_eq k q ≡ false
another q k h = sym (same_test k q) ∙ ap is_eq (nat_list_cmp_total.antisymm k q) ∙ is_eq-reverse (text_cmp q k) ∙ h

-- under one signature: the rows of the row's subject have it besides
by_subject : (rows : SubjectRows) (row : AcceptRow) (s : SigningScheme) (key subject signature : List ℕ) (b : Bool) → is_eq (text_cmp subject row.subject) ≡ b
    → list_any (is_row s key subject signature) (unwrapped (cond b (Some (of_subject row.subject rows ++ row ∷ [])) (at_name subject rows)))
    ≡ (list_any (is_row s key subject signature) (of_subject subject rows) || is_row s key subject signature row)
by_subject rows row s key subject signature true h =
    let same : subject ≡ row.subject = exact_bytes subject row.subject (equal_of _ h) in
    any_last (is_row s key subject signature) (of_subject row.subject rows) row
    ∙ ap (λ g. list_any (is_row s key subject signature) (of_subject g rows) || is_row s key subject signature row) (sym same)
by_subject rows row s key subject signature false h = or_false _ _ (first_false _ _ (and_false _ _ (another subject row.subject h)))

adds_subject : (rows : SubjectRows) (row : AcceptRow) (s : SigningScheme) (key subject signature : List ℕ)
    → list_any (is_row s key subject signature) (of_subject subject (with_subject_row rows row))
    ≡ (list_any (is_row s key subject signature) (of_subject subject rows) || is_row s key subject signature row)
adds_subject rows row s key subject signature =
    ap (λ r. list_any (is_row s key subject signature) (unwrapped r)) (found subject row.subject (of_subject row.subject rows ++ row ∷ []) rows)
    ∙ by_subject rows row s key subject signature (is_eq (text_cmp subject row.subject)) refl

by_signature : (rows : AcceptRows) (row : AcceptRow) (s : SigningScheme) (key subject signature : List ℕ) (b : Bool) → is_eq (text_cmp signature row.signature) ≡ b
    → list_any (is_row s key subject signature) (of_subject subject (unwrapped (cond b (Some (with_subject_row (of_signature row.signature rows) row)) (at_name signature rows))))
    ≡ (accepts_of rows s key subject signature || is_row s key subject signature row)
by_signature rows row s key subject signature true h =
    let same : signature ≡ row.signature = exact_bytes signature row.signature (equal_of _ h) in
    adds_subject (of_signature row.signature rows) row s key subject signature
    ∙ ap (λ g. list_any (is_row s key subject signature) (rows_under g subject rows) || is_row s key subject signature row) (sym same)
by_signature rows row s key subject signature false h = or_false _ _ (and_false _ _ (another signature row.signature h))

pub adds_signature : AddsSignature
adds_signature rows row s key subject signature =
    ap (λ r. list_any (is_row s key subject signature) (of_subject subject (unwrapped r))) (found signature row.signature (with_subject_row (of_signature row.signature rows) row) rows)
    ∙ by_signature rows row s key subject signature (is_eq (text_cmp signature row.signature)) refl
