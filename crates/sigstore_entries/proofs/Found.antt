-- What is found in an object that was written, and what is read of it.
use Rattle.std.proofs.Common.{◌≡◌, ℕ, List, [], ◌∷◌, map, bytes_eq, ok_or, Bool, true, false, cond, Option, Some, None, option_map, Result, Ok, Err, refl, sym, ap, subst, ◌∙◌}
use Rattle.std.proofs.lemmas.Bool.{false≢true}
use Rattle.std.proofs.lemmas.Slice.Eq.{bytes_eq-Decides}
use Rattle.serde_json.specs.Data.{Data, Items, no_items, item, Members, put}
use Rattle.serde_json.specs.Find.{get_member, as_null, as_array}
use Rattle.serde_json.proofs.Views.{get_member-put, get_member-put_other}
use Rattle.serde_json.specs.View as view
use Rattle.foundation.specs.Steps.{◌>>=◌}
use Rattle.foundation.specs.Results.{step_ok, ok_same, no_both}
use Rattle.sigstore_types_parts.specs.Read as read
use Rattle.sigstore_types_parts.specs.Error.{types_of, placed_at, name_of}
use Rattle.sigstore_types_parts.specs.declared.member.TypesMember.{TypesMember}
use Rattle.sigstore_types_parts.specs.declared.error.TypesError.{TypesError}
use Rattle.sigstore_types_parts.specs.declared.error.TypesError.TheVariants.{Json}
use Rattle.sigstore_entries.specs.Entry.{required, optional, list, or_empty}
use Rattle.sigstore_entries.specs.Writing.{with_member, members_of, object_of, list_data, some_list}

-- ---- what is found

abbrev or_later : Option Data → Option Data → Option Data
or_later None later = later
or_later (Some d) later = Some d

-- what was written under a name
abbrev pub written_at : List ℕ → List (TypesMember × Option Data) → Option Data
written_at name [] = None
written_at name (first ∷ others) = cond (bytes_eq name (name_of first.0)) (or_later first.1 (written_at name others)) (written_at name others)

-- the last one that was written under a name
pub alone : (d : Option Data) → or_later d None ≡ d
alone None = refl
alone (Some d) = refl

past : (test : Bool) (name : List ℕ) (m : TypesMember) (d : Option Data) (others : Members) (later : Option Data) → bytes_eq name (name_of m) ≡ test
    → get_member name others ≡ later → get_member name (with_member m d others) ≡ cond test (or_later d later) later
past true name m None others later t e = e
past false name m None others later t e = e
past true name m (Some d) others later t e =
    let same : name ≡ name_of m = (bytes_eq-Decides name (name_of m)).0 t in
    ap (λ k. get_member k (put (name_of m) d others)) same ∙ get_member-put (name_of m) d others
past false name m (Some d) others later t e =
    get_member-put_other name (name_of m) d others (λ same. false≢true (sym t ∙ (bytes_eq-Decides name (name_of m)).1 same)) ∙ e

finds : (name : List ℕ) (members : List (TypesMember × Option Data)) → get_member name (members_of members) ≡ written_at name members
finds name [] = refl
finds name (first ∷ others) = past (bytes_eq name (name_of first.0)) name first.0 first.1 (members_of others) (written_at name others) refl (finds name others)

-- ---- what is read of it

-- a value that is written is read as what it was made of, and isn't null
pub record IsRead {T : Type 0} (reads : Data → Result T TypesError) (d : Data) (v : T) : Type 0 where
  pub back : reads d ≡ Ok v
  pub there : as_null d ≡ None

pub required_found : {T : Type 0} (reads : Data → Result T TypesError) (m : TypesMember) (members : List (TypesMember × Option Data)) (d : Data) (v : T)
    → written_at (name_of m) members ≡ Some d → reads d ≡ Ok v → required reads m (object_of members) ≡ Ok v
unfolding read.required_of
required_found reads m members d v is back =
    ap (λ o. read.at (placed_at m) (read.required_in Json reads o)) (finds (name_of m) members ∙ is) ∙ ap (read.at (placed_at m)) back

-- a member that may be absent, as it is read
abbrev pub OptionRead : {T : Type 0} → (Data → Result T TypesError) → Option Data → Option T → Type 0
OptionRead reads d v = read.optional_in reads d ≡ Ok v

pub optional_found : {T : Type 0} (reads : Data → Result T TypesError) (m : TypesMember) (members : List (TypesMember × Option Data)) (d : Option Data)
    (v : Option T) → written_at (name_of m) members ≡ d → OptionRead reads d v → optional reads m (object_of members) ≡ Ok v
unfolding read.optional_of
optional_found reads m members d v is back =
    ap (λ o. read.at (placed_at m) (read.optional_in reads o)) (finds (name_of m) members ∙ is) ∙ ap (read.at (placed_at m)) back

pub some_read : {T : Type 0} (reads : Data → Result T TypesError) (d : Data) (v : T) → IsRead reads d v → OptionRead reads (Some d) (Some v)
some_read reads d v h = rw (h.there, h.back) refl

-- ---- what was read

-- a member that was read was there
pub record WasRead {T : Type 0} (reads : Data → Result T TypesError) (v : T) : Type 0 where
  pub from : Data
  pub was : reads from ≡ Ok v

was_at : {T : Type 0} (place : TypesError → TypesError) (r : Result T TypesError) (v : T) → read.at place r ≡ Ok v → r ≡ Ok v
was_at place (Ok x) v h = h
was_at place (Err e) v h = no_both _ _ (sym h)

was_in : {T : Type 0} (reads : Data → Result T TypesError) (d : Option Data) (v : T) → read.required_in Json reads d ≡ Ok v → WasRead reads v
was_in reads None v h = no_both _ _ (sym h)
was_in reads (Some d) v h = record { from = d; was = h }

pub required_was : {T : Type 0} (reads : Data → Result T TypesError) (m : TypesMember) (d : Data) (v : T) → required reads m d ≡ Ok v → WasRead reads v
unfolding read.required_of
required_was reads m d v h =
    let o = step_ok (read.object_of types_of d) _ v h in
    was_in reads _ v (was_at (placed_at m) _ v o.2)

-- a value that may be absent was there, or not
abbrev pub WereRead : {T : Type 0} → (Data → Result T TypesError) → Option T → Type 0
WereRead reads None = Unit {0}
WereRead reads (Some v) = WasRead reads v

was_nullable : {T : Type 0} (reads : Data → Result T TypesError) (d : Data) (test : Bool) (v : Option T)
    → cond test (Ok None) (reads d >>= λ x. Ok (Some x)) ≡ Ok v → WereRead reads v
was_nullable reads d test None h = tt
was_nullable reads d true (Some v) h = cc h
was_nullable reads d false (Some v) h =
    let x = step_ok (reads d) (λ x. Ok (Some x)) (Some v) h in
    record { from = d; was = x.1 ∙ cc x.2 }

was_optional : {T : Type 0} (reads : Data → Result T TypesError) (d : Option Data) (v : Option T) → read.optional_in reads d ≡ Ok v → WereRead reads v
was_optional reads d None h = tt
was_optional reads None (Some v) h = cc h
was_optional reads (Some d) (Some v) h = was_nullable reads d _ (Some v) h

pub optional_was : {T : Type 0} (reads : Data → Result T TypesError) (m : TypesMember) (d : Data) (v : Option T) → optional reads m d ≡ Ok v → WereRead reads v
unfolding read.optional_of
optional_was reads m d v h =
    let o = step_ok (read.object_of types_of d) _ v h in
    was_optional reads _ v (was_at (placed_at m) _ v o.2)

-- ---- lists

-- each item was read
abbrev pub AllRead : {T : Type 0} → (Data → Result T TypesError) → List T → Type 0
AllRead reads [] = Unit {0}
AllRead reads (x ∷ xs) = WasRead reads x × AllRead reads xs

items_were : {T : Type 0} (reads : Data → Result T TypesError) (ds : Items) (xs : List T) → read.items_of reads ds ≡ Ok xs → AllRead reads xs
items_were reads no_items xs h = subst (AllRead reads) (ok_same _ _ h) tt
items_were reads (item d ds) xs h =
    let first = step_ok (reads d) _ xs h in
    let others = step_ok (read.items_of reads ds) (λ rest. Ok (first.0 ∷ rest)) xs first.2 in
    subst (AllRead reads) (ok_same _ _ others.2) (record { from = d; was = first.1 }, items_were reads ds others.0 others.1)

pub sequence_were : {T : Type 0} (reads : Data → Result T TypesError) (xs : List T) → WasRead (read.sequence_of types_of reads) xs → AllRead reads xs
unfolding read.sequence_of
sequence_were reads xs h =
    let ds = step_ok (ok_or (as_array h.from) Json) (read.items_of reads) xs h.was in
    items_were reads ds.0 xs ds.2

-- each item that was read is read again
abbrev pub AreReadAgain : {T : Type 0} → (Data → Result T TypesError) → (T → Data) → Type 0
AreReadAgain {T} reads writes = (v : T) → WasRead reads v → IsRead reads (writes v) v

-- each item is read again
abbrev pub AllReadAgain : {T : Type 0} → (Data → Result T TypesError) → (T → Data) → List T → Type 0
AllReadAgain reads writes [] = Unit {0}
AllReadAgain reads writes (x ∷ xs) = IsRead reads (writes x) x × AllReadAgain reads writes xs

pub all_again : {T : Type 0} (reads : Data → Result T TypesError) (writes : T → Data) (xs : List T) → AreReadAgain reads writes → AllRead reads xs
    → AllReadAgain reads writes xs
all_again reads writes [] law h = tt
all_again reads writes (x ∷ xs) law h = (law x h.0, all_again reads writes xs law h.1)

items_back : {T : Type 0} (reads : Data → Result T TypesError) (writes : T → Data) (xs : List T) → AllReadAgain reads writes xs
    → read.items_of reads (view.items_of (map writes xs)) ≡ Ok xs
items_back reads writes [] h = refl
items_back {T} reads writes (x ∷ xs) h =
    ap (λ r. r >>= λ y. read.items_of reads (view.items_of (map writes xs)) >>= λ rest. Ok (y ∷ rest)) h.0.back
    ∙ ap (λ (r : Result (List T) TypesError). r >>= λ rest. Ok (x ∷ rest)) (items_back reads writes xs h.1)

pub sequence_back : {T : Type 0} (reads : Data → Result T TypesError) (writes : T → Data) (xs : List T) → AllReadAgain reads writes xs
    → IsRead (read.sequence_of types_of reads) (list_data writes xs) xs
unfolding read.sequence_of
sequence_back reads writes xs h = record { back = items_back reads writes xs h; there = refl }

pub list_found : {T : Type 0} (reads : Data → Result T TypesError) (writes : T → Data) (m : TypesMember) (members : List (TypesMember × Option Data)) (xs : List T)
    → written_at (name_of m) members ≡ some_list writes xs → AllReadAgain reads writes xs → list reads m (object_of members) ≡ Ok xs
list_found reads writes m members [] is h =
    ap (λ r. r >>= λ items. Ok (or_empty items)) (optional_found (read.sequence_of types_of reads) m members None None is refl)
list_found reads writes m members (x ∷ xs) is h =
    let back = some_read (read.sequence_of types_of reads) (list_data writes (x ∷ xs)) (x ∷ xs) (sequence_back reads writes (x ∷ xs) h) in
    ap (λ r. r >>= λ items. Ok (or_empty items)) (optional_found (read.sequence_of types_of reads) m members (Some (list_data writes (x ∷ xs))) (Some (x ∷ xs)) is back)

list_were : {T : Type 0} (reads : Data → Result T TypesError) (items : Option (List T)) → WereRead (read.sequence_of types_of reads) items → AllRead reads (or_empty items)
list_were reads None h = tt
list_were reads (Some xs) h = sequence_were reads xs h

pub list_was : {T : Type 0} (reads : Data → Result T TypesError) (m : TypesMember) (d : Data) (xs : List T) → list reads m d ≡ Ok xs → AllRead reads xs
list_was reads m d xs h =
    let items = step_ok (optional (read.sequence_of types_of reads) m d) _ xs h in
    subst (AllRead reads) (ok_same _ _ items.2) (list_were reads items.0 (optional_was (read.sequence_of types_of reads) m d items.0 items.1))

-- ---- options

-- what may be absent is read again, where it is
pub option_back : {T : Type 0} (reads : Data → Result T TypesError) (writes : T → Data) (v : Option T) → AreReadAgain reads writes → WereRead reads v
    → OptionRead reads (option_map writes v) v
option_back reads writes None law h = refl
option_back reads writes (Some v) law h = some_read reads (writes v) v (law v h)
