-- Members that are read one after another, in the order of their names.
use Rattle.std.proofs.Common.{◌≡◌, ℕ, List, [], ◌∷◌, ◌++◌, Result, Ok, Err, String, Global, string_bytes, string_cmp, Less, Greater, refl, sym, ap, ◌∙◌, append_assoc}
use Rattle.std.proofs.lemmas.Cmp.{nat_list_cmp_total}
use Rattle.std.specs.Ordering.{ordering_reverse}
use Rattle.std.specs.List.{AllByRecursion}
use Rattle.std.specs.List.Sorted.{IsStrictlySortedBy}
use Rattle.std.specs.Map.{keys_of}
use Rattle.std.specs.BTreeMap.{insert_entry}
use Rattle.serde_json.specs.Data.{Data, Members, member}
use Rattle.serde_json.specs.declared.value.Value.{Value}
use Rattle.sigstore_types_parts.specs.Entries.{text_cmp}
use Rattle.foundation.specs.Steps.{◌>>=◌}
use Rattle.sigstore_types_parts.specs.Read.{entries_of}

abbrev pub Entry : Type 0
Entry = String Global × Value

abbrev pub names_of : List Entry → List (List ℕ)
names_of [] = []
names_of (e ∷ es) = string_bytes e.0 ∷ names_of es

all_names : (k : String Global) (es : List Entry) → AllByRecursion (λ y. string_cmp k y ≡ Less) (keys_of es) → AllByRecursion (λ y. text_cmp (string_bytes k) y ≡ Less) (names_of es)
all_names k [] h = h
all_names k (e ∷ es) h = (h.0, all_names k es h.1)

pub names_ascend : (es : List Entry) → IsStrictlySortedBy string_cmp (keys_of es) → IsStrictlySortedBy text_cmp (names_of es)
unfolding IsStrictlySortedBy
names_ascend [] h = h
names_ascend (e ∷ es) h = (all_names e.0 es h.0, names_ascend es h.1)

below_later : {T : Type 0} (first : List ℕ) (es : List (List ℕ × T)) (k : List ℕ) (more : List (List ℕ)) → AllByRecursion (λ y. text_cmp first y ≡ Less) (keys_of es ++ k ∷ more) → text_cmp first k ≡ Less
below_later first [] k more h = h.0
below_later first (e ∷ es) k more h = below_later first es k more h.1

-- a name that is above the others goes last
pub insert_last : {T : Type 0} (es : List (List ℕ × T)) (k : List ℕ) (v : T) (more : List (List ℕ)) → IsStrictlySortedBy text_cmp (keys_of es ++ k ∷ more)
    → insert_entry text_cmp es k v ≡ es ++ (k, v) ∷ []
unfolding IsStrictlySortedBy
insert_last [] k v more h = refl
insert_last (e ∷ es) k v more h =
    let above : text_cmp k e.0 ≡ Greater = nat_list_cmp_total.antisymm k e.0 ∙ ap ordering_reverse (below_later e.0 es k more h.0) in
    rw above (ap (λ rest. e ∷ rest) (insert_last es k v more h.1))

pub keys_of-append : {T : Type 0} (es fs : List (List ℕ × T)) → keys_of (es ++ fs) ≡ keys_of es ++ keys_of fs
keys_of-append [] fs = refl
keys_of-append (e ∷ es) fs = ap (λ ks. e.0 ∷ ks) (keys_of-append es fs)

after : {T E : Type 0} (es : List (List ℕ × T)) (e : List ℕ × T) (r : Result (List (List ℕ × T)) E)
    → ((r >>= λ rest. Ok (e ∷ rest)) >>= λ rest. Ok (es ++ rest)) ≡ (r >>= λ rest. Ok ((es ++ e ∷ []) ++ rest))
after es e (Ok rest) = ap Ok (sym (append_assoc es (e ∷ []) rest))
after es e (Err x) = refl

-- one member more is read
pub entries_of-member : {T E : Type 0} (reads : Data → Result T E) (es : List (List ℕ × T)) (k : List ℕ) (d : Data) (ms : Members) (x : T) → reads d ≡ Ok x
    → (entries_of reads (member k d ms) >>= λ rest. Ok (es ++ rest)) ≡ (entries_of reads ms >>= λ rest. Ok ((es ++ (k, x) ∷ []) ++ rest))
entries_of-member reads es k d ms x is = rw is (after es (k, x) (entries_of reads ms))

-- a member that is refused
pub entries_of-refused : {T E : Type 0} (reads : Data → Result T E) (es : List (List ℕ × T)) (k : List ℕ) (d : Data) (ms : Members) (e : E) → reads d ≡ Err e
    → (entries_of reads (member k d ms) >>= λ rest. Ok (es ++ rest)) ≡ Err e
entries_of-refused reads es k d ms e is = rw is

pub after_none : {T E : Type 0} (r : Result (List (List ℕ × T)) E) → r ≡ (r >>= λ rest. Ok ([] ++ rest))
after_none (Ok rest) = refl
after_none (Err x) = refl
