-- A `BTreeMap` from `String`s beside the entries that it stands for.
use Rattle.std.proofs.Common.{◌≡◌, ℕ, Bool, ◌&&◌, string_eq, List, [], ◌∷◌, String, string_bytes, string_cmp, Ordering, Less, Equal, Greater, refl, ◌∙◌, sym, ◌++◌, append_assoc}
use Rattle.std.specs.Ordering.{nat_cmp, match_ordering}
use Rattle.std.specs.Cmp.Lexicographic.{slice_cmp, pointwise}
use Rattle.std.specs.BTreeMap.{is_at, insert_entry}
use Rattle.std.specs.List.{AllByRecursion}
use Rattle.std.specs.List.Sorted.{IsStrictlySortedBy}
use Rattle.std.specs.Map.{keys_of, lookup}
use Rattle.sigstore_types_parts.specs.Entries.{text_cmp, at_name, named, same_entries}

pub lookup-named : {A T : Type 0} (name : List ℕ) (es : List (String A × T)) → lookup (is_at (λ k. slice_cmp nat_cmp name (string_bytes k))) es ≡ at_name name (named es)
lookup-named name [] = refl
lookup-named name (e ∷ es) = rw (lookup-named name es)

named-match_ordering : {A T : Type 0} (o : Ordering) (a b c : List (String A × T)) → named (match_ordering o a b c) ≡ match_ordering o (named a) (named b) (named c)
named-match_ordering Less a b c = refl
named-match_ordering Equal a b c = refl
named-match_ordering Greater a b c = refl

pub named-insert_entry : {A T : Type 0} (es : List (String A × T)) (k : String A) (v : T) → named (insert_entry string_cmp es k v) ≡ insert_entry text_cmp (named es) (string_bytes k) v
named-insert_entry [] k v = refl
named-insert_entry (e ∷ es) k v = named-match_ordering (string_cmp k e.0) _ _ _ ∙ rw (named-insert_entry es k v)

all_below : {A T : Type 0} (k : String A) (es : List (String A × T)) → AllByRecursion (λ y. string_cmp k y ≡ Less) (keys_of es) → AllByRecursion (λ y. text_cmp (string_bytes k) y ≡ Less) (keys_of (named es))
all_below k [] h = h
all_below k (e ∷ es) h = (h.0, all_below k es h.1)

-- the names ascend
pub named-ascend : {A T : Type 0} (es : List (String A × T)) → IsStrictlySortedBy string_cmp (keys_of es) → IsStrictlySortedBy text_cmp (keys_of (named es))
unfolding IsStrictlySortedBy
named-ascend [] h = h
named-ascend (e ∷ es) h = (all_below e.0 es h.0, named-ascend es h.1)

-- the names that ascend, with the first of what is left moved to the end of what was found
pub entries_move : {A T : Type 0} (found : List (List ℕ × T)) (k : List ℕ) (x : T) (left : List (String A × T)) → found ++ ((k, x) ∷ named left) ≡ (found ++ (k, x) ∷ []) ++ named left
entries_move found k x left = sym (append_assoc found ((k, x) ∷ []) (named left))

-- the maps are equal where their entries are the same
pub pointwise-named : {A T : Type 0} (same : T → T → Bool) (es fs : List (String A × T)) → pointwise (λ e f. string_eq e.0 f.0 && same e.1 f.1) es fs ≡ same_entries same (named es) (named fs)
pointwise-named same [] [] = refl
pointwise-named same (e ∷ es) (f ∷ fs) = rw (pointwise-named same es fs)
pointwise-named same _ _ = refl
