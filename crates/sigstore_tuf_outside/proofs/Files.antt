-- The files of a map after an insertion.
use Rattle.std.proofs.Common.{◌≡◌, ◌⊎◌, inl, inr, ℕ, List, [], ◌∷◌, Bool, true, false, cond, bytes_eq, Option, Some, None, Ordering, Less, Equal, Greater, refl, sym, ap, ◌∙◌, Result, Ok, Err, OnOk, OnErr}
use Rattle.std.proofs.Math.Path.{fun_ext}
use Rattle.std.proofs.lemmas.Slice.Eq.{bytes_eq-Decides}
use Rattle.std.proofs.lemmas.Map.Text.{is_eq-slice_cmp}
use Rattle.std.specs.Ordering.{is_eq, match_ordering}
use Rattle.std.specs.BTreeMap.{insert_entry}
use Rattle.foundation.specs.Results.{some_same}
use Rattle.sigstore_types_parts.specs.Entries.{text_cmp, at_name}
use Rattle.sigstore_tuf_outside.specs.Store.{with_file, is_bad_name, HoldsNoBadName}
use Rattle.sigstore_tuf_outside.specs.Memory.{files_of}

abbrev pub Named : Type 0 → Type 0
Named T = List ℕ × T

-- a text that is equal by the order is the same text
same_text : (a b : List ℕ) → text_cmp a b ≡ Equal → a ≡ b
same_text a b e = (bytes_eq-Decides a b).0 (sym (is_eq-slice_cmp a b) ∙ ap is_eq e)

twice : {A : Type 0} (b : Bool) (x y z : A) → cond b x z ≡ cond b x (cond b y z)
twice true x y z = refl
twice false x y z = refl

swapped : {A : Type 0} (b c : Bool) (x y z : A) → (b ≡ true → c ≡ false) → cond b y (cond c x z) ≡ cond c x (cond b y z)
swapped true true x y z apart = let e : true ≡ false = apart refl in cc
swapped true false x y z apart = refl
swapped false c x y z apart = refl

apart_names : (q name k : List ℕ) (b : Bool) → text_cmp name k ≡ Greater → is_eq (text_cmp q k) ≡ true → is_eq (text_cmp q name) ≡ b → b ≡ false
apart_names q name k false h at_k at_name = refl
apart_names q name k true h at_k at_name =
    let same : q ≡ name = (bytes_eq-Decides q name).0 (sym (is_eq-slice_cmp q name) ∙ at_name) in
    sym at_k ∙ ap (λ t. is_eq (text_cmp t k)) same ∙ ap is_eq h

-- the entry in whose place, before which or behind which the new one goes
insert_by : {T : Type 0} (o : Ordering) (q name : List ℕ) (bytes : T) (e : Named T) (es : List (Named T)) → text_cmp name e.0 ≡ o
    → at_name q (insert_entry text_cmp es name bytes) ≡ cond (is_eq (text_cmp q name)) (Some bytes) (at_name q es)
    → at_name q (match_ordering o ((name, bytes) ∷ e ∷ es) ((e.0, bytes) ∷ es) (e ∷ insert_entry text_cmp es name bytes)) ≡ cond (is_eq (text_cmp q name)) (Some bytes) (at_name q (e ∷ es))
insert_by Less q name bytes e es h more = refl
insert_by Equal q name bytes e es h more = rw (same_text name e.0 h) (twice (is_eq (text_cmp q e.0)) (Some bytes) (Some e.1) (at_name q es))
insert_by Greater q name bytes e es h more = rw more (swapped (is_eq (text_cmp q e.0)) (is_eq (text_cmp q name)) (Some bytes) (Some e.1) (at_name q es) (λ at_e. apart_names q name e.0 (is_eq (text_cmp q name)) h at_e refl))

pub at_insert : {T : Type 0} (q name : List ℕ) (bytes : T) (es : List (Named T)) → at_name q (insert_entry text_cmp es name bytes) ≡ cond (is_eq (text_cmp q name)) (Some bytes) (at_name q es)
at_insert q name bytes [] = refl
at_insert q name bytes (e ∷ es) = insert_by (text_cmp name e.0) q name bytes e es refl (at_insert q name bytes es)

-- what is at a name once this was put there under another, or the same
pub inserted : {T : Type 0} (q name : List ℕ) (v x : T) (es : List (Named T)) → at_name q (insert_entry text_cmp es name v) ≡ Some x → ((q ≡ name) × (x ≡ v)) ⊎ (at_name q es ≡ Some x)
inserted q name v x es h = by_test (is_eq (text_cmp q name)) refl (sym (at_insert q name v es) ∙ h)
  where
    by_test : (b : Bool) → is_eq (text_cmp q name) ≡ b → cond b (Some v) (at_name q es) ≡ Some x → ((q ≡ name) × (x ≡ v)) ⊎ (at_name q es ≡ Some x)
    by_test true e k = inl ((bytes_eq-Decides q name).0 (sym (is_eq-slice_cmp q name) ∙ e), sym (some_same v x k))
    by_test false e k = inr k

pub files_of_insert : (es : List (Named (List ℕ))) (name bytes : List ℕ) → files_of (insert_entry text_cmp es name bytes) ≡ with_file name bytes (files_of es)
files_of_insert es name bytes = fun_ext (λ q. at_insert q name bytes es ∙ ap (λ b. cond b (Some bytes) (at_name q es)) (is_eq-slice_cmp q name))

other_name : (q name bytes : List ℕ) (file : Option (List ℕ)) (b : Bool) → is_bad_name name ≡ false → is_bad_name q ≡ true → file ≡ None → bytes_eq q name ≡ b → cond b (Some bytes) file ≡ None
other_name q name bytes file true good bad none is =
    let e : true ≡ false = sym bad ∙ ap is_bad_name ((bytes_eq-Decides q name).0 is) ∙ good in cc
other_name q name bytes file false good bad none is = none

-- a file under a good name leaves nothing under a bad one
pub kept_tame : {T E : Type 0} (r : Result T E) (old new : List (Named (List ℕ))) (name bytes : List ℕ) → is_bad_name name ≡ false → HoldsNoBadName (files_of old)
    → OnOk r (files_of new ≡ with_file name bytes (files_of old)) → OnErr r (new ≡ old) → HoldsNoBadName (files_of new)
kept_tame (Ok x) old new name bytes good tame ok err = λ q bad. ap (λ files. files q) ok ∙ other_name q name bytes (files_of old q) (bytes_eq q name) good bad (tame q bad) refl
kept_tame (Err e) old new name bytes good tame ok err = λ q bad. ap (λ es. files_of es q) err ∙ tame q bad
