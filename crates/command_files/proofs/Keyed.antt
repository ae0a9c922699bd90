-- A `BTreeMap` from byte strings beside the entries that it stands for.
use Rattle.std.proofs.Common.{◌≡◌, ℕ, Bool, true, false, cond, List, [], ◌∷◌, ◌++◌, Vec, Ordering, Less, Equal, Greater, refl, ap, ◌∙◌}
use Rattle.std.proofs.lemmas.Cmp.{nat_list_cmp_total}
use Rattle.std.proofs.lemmas.Map.Lookups.{exact_bytes}
use Rattle.std.specs.Ordering.{nat_cmp, match_ordering, is_eq}
use Rattle.std.specs.Cmp.Lexicographic.{slice_cmp}
use Rattle.std.specs.BTreeMap.{is_at, insert_entry}
use Rattle.std.specs.List.{AllByRecursion}
use Rattle.std.specs.List.Sorted.{IsStrictlySortedBy}
use Rattle.std.specs.Map.{keys_of, lookup, remove_entry}
use Rattle.sigstore_types_parts.specs.Entries.{text_cmp, at_name}
use Rattle.command_files.specs.ByteMap.{keyed}
use Rattle.command_files.specs.Rows.{SubjectRows, of_subject, with_subject_row, AcceptRows, of_signature, with_accept_row}
use Rattle.command_files.specs.declared.rows.AcceptRow.{AcceptRow}

abbrev pub vec_cmp : {A : Type 0} → Vec ℕ A → Vec ℕ A → Ordering
vec_cmp x y = slice_cmp nat_cmp x.items y.items

abbrev pub vec_at : {A : Type 0} → List ℕ → Vec ℕ A → Bool
vec_at key = is_at (λ k. slice_cmp nat_cmp key k.items)

pub lookup-keyed : {A T : Type 0} (key : List ℕ) (es : List (Vec ℕ A × T)) → lookup (vec_at key) es ≡ at_name key (keyed es)
lookup-keyed key [] = refl
lookup-keyed key (e ∷ es) = rw (lookup-keyed key es)

keyed-match_ordering : {A T : Type 0} (o : Ordering) (a b c : List (Vec ℕ A × T)) → keyed (match_ordering o a b c) ≡ match_ordering o (keyed a) (keyed b) (keyed c)
keyed-match_ordering Less a b c = refl
keyed-match_ordering Equal a b c = refl
keyed-match_ordering Greater a b c = refl

pub keyed-insert_entry : {A T : Type 0} (es : List (Vec ℕ A × T)) (k : Vec ℕ A) (v : T) → keyed (insert_entry vec_cmp es k v) ≡ insert_entry text_cmp (keyed es) k.items v
keyed-insert_entry [] k v = refl
keyed-insert_entry (e ∷ es) k v = keyed-match_ordering (vec_cmp k e.0) _ _ _ ∙ rw (keyed-insert_entry es k v)

keyed-cond : {A T : Type 0} (b : Bool) (x y : List (Vec ℕ A × T)) → keyed (cond b x y) ≡ cond b (keyed x) (keyed y)
keyed-cond true x y = refl
keyed-cond false x y = refl

pub keyed-remove_entry : {A T : Type 0} (key : List ℕ) (es : List (Vec ℕ A × T)) → keyed (remove_entry (vec_at key) es) ≡ remove_entry (is_at (text_cmp key)) (keyed es)
keyed-remove_entry key [] = refl
keyed-remove_entry key (e ∷ es) = keyed-cond (vec_at key e.0) es (e ∷ remove_entry (vec_at key) es) ∙ rw (keyed-remove_entry key es)

all_below : {A T : Type 0} (k : Vec ℕ A) (es : List (Vec ℕ A × T)) → AllByRecursion (λ y. vec_cmp k y ≡ Less) (keys_of es) → AllByRecursion (λ y. text_cmp k.items y ≡ Less) (keys_of (keyed es))
all_below k [] h = h
all_below k (e ∷ es) h = (h.0, all_below k es h.1)

-- the keys ascend
pub keyed-ascend : {A T : Type 0} (es : List (Vec ℕ A × T)) → IsStrictlySortedBy vec_cmp (keys_of es) → IsStrictlySortedBy text_cmp (keys_of (keyed es))
unfolding IsStrictlySortedBy
keyed-ascend [] h = h
keyed-ascend (e ∷ es) h = (all_below e.0 es h.0, keyed-ascend es h.1)

-- ---- an entry that is taken out and put back

module _ {T : Type 0} where
  abbrev Above : List ℕ → List (List ℕ × T) → Type 0
  Above k es = AllByRecursion (λ y. text_cmp k y ≡ Less) (keys_of es)

  above_all : (k first : List ℕ) (es : List (List ℕ × T)) → text_cmp k first ≡ Less → Above first es → Above k es
  above_all k first [] h all = all
  above_all k first (e ∷ es) h all = (nat_list_cmp_total.trans k first e.0 h all.0, above_all k first es h all.1)

  none_taken : (k : List ℕ) (es : List (List ℕ × T)) → Above k es → remove_entry (is_at (text_cmp k)) es ≡ es
  none_taken k [] all = refl
  none_taken k (e ∷ es) all = rw all.0 (ap (λ rest. e ∷ rest) (none_taken k es all.1))

  put_first : (k : List ℕ) (v : T) (es : List (List ℕ × T)) → Above k es → insert_entry text_cmp es k v ≡ (k, v) ∷ es
  put_first k v [] all = refl
  put_first k v (e ∷ es) all = rw all.0 refl

  put_at : (k : List ℕ) (v : T) (e : List ℕ × T) (es : List (List ℕ × T)) (o : Ordering) → text_cmp k e.0 ≡ o → Above e.0 es
      → insert_entry text_cmp (remove_entry (is_at (text_cmp k)) es) k v ≡ insert_entry text_cmp es k v
      → insert_entry text_cmp (cond (is_eq o) es (e ∷ remove_entry (is_at (text_cmp k)) es)) k v ≡ match_ordering o ((k, v) ∷ e ∷ es) ((e.0, v) ∷ es) (e ∷ insert_entry text_cmp es k v)
  put_at k v e es Less q h later =
      let all : Above k es = above_all k e.0 es q h in
      ap (λ rest. insert_entry text_cmp (e ∷ rest) k v) (none_taken k es all) ∙ put_first k v (e ∷ es) (q, all)
  put_at k v e es Equal q h later =
      let same : k ≡ e.0 = exact_bytes k e.0 q in
      let all : Above k es = rw same h in
      put_first k v es all ∙ ap (λ key. (key, v) ∷ es) same
  put_at k v e es Greater q h later = rw q (ap (λ rest. e ∷ rest) later)

  -- what is put at a key takes the place of what was there
  pub put_back : (k : List ℕ) (v : T) (es : List (List ℕ × T)) → IsStrictlySortedBy text_cmp (keys_of es)
      → insert_entry text_cmp (remove_entry (is_at (text_cmp k)) es) k v ≡ insert_entry text_cmp es k v
  unfolding IsStrictlySortedBy
  put_back k v [] h = refl
  put_back k v (e ∷ es) h = put_at k v e es (text_cmp k e.0) refl h.0 (put_back k v es h.1)

-- the rows of a subject were taken out, and are put back with one more
pub subject_row_added : (old mid new : SubjectRows) (key : List ℕ) (rows : List AcceptRow) (row : AcceptRow) → key ≡ row.subject
    → mid ≡ remove_entry (is_at (text_cmp key)) old → IsStrictlySortedBy text_cmp (keys_of old) → rows ≡ of_subject key old ++ row ∷ []
    → new ≡ insert_entry text_cmp mid key rows → new ≡ with_subject_row old row
subject_row_added old mid new key rows row is taken sorted more put =
    put ∙ ap (λ es. insert_entry text_cmp es key rows) taken ∙ put_back key rows old sorted ∙ ap (insert_entry text_cmp old key) more
    ∙ ap (λ k. insert_entry text_cmp old k (of_subject k old ++ row ∷ [])) is

-- the rows of a signature were taken out, and are put back with one more
pub row_added : (old mid new : AcceptRows) (key : List ℕ) (rows : SubjectRows) (row : AcceptRow) → key ≡ row.signature
    → mid ≡ remove_entry (is_at (text_cmp key)) old → IsStrictlySortedBy text_cmp (keys_of old) → rows ≡ with_subject_row (of_signature key old) row
    → new ≡ insert_entry text_cmp mid key rows → new ≡ with_accept_row old row
row_added old mid new key rows row is taken sorted more put =
    put ∙ ap (λ es. insert_entry text_cmp es key rows) taken ∙ put_back key rows old sorted ∙ ap (insert_entry text_cmp old key) more
    ∙ ap (λ k. insert_entry text_cmp old k (with_subject_row (of_signature k old) row)) is
