-- Files that are put over others.
use Rattle.std.proofs.Common.{◌≡◌, ℕ, List, Bool, true, false, cond, bytes_eq, Option, Some, None, Result, Ok, Err, OnOk, OnErr, refl, sym, ap, ◌∙◌}
use Rattle.std.proofs.Math.Path.{fun_ext}
use Rattle.std.proofs.lemmas.Slice.Eq.{bytes_eq-Decides}
use Rattle.std.specs.BTreeMap.{insert_entry}
use Rattle.std.specs.Option.{option_or}
use Rattle.sigstore_types_parts.specs.Entries.{text_cmp}
use Rattle.sigstore_tuf_outside.specs.Repository.{Files}
use Rattle.sigstore_tuf_outside.specs.Store.{with_file, is_bad_name, HoldsNoBadName}
use Rattle.sigstore_tuf_outside.specs.Memory.{files_of}
use Rattle.sigstore_tuf_outside.proofs.Files.{files_of_insert}
use Rattle.given_objects.specs.declared.file.File.{File}
use Rattle.given_objects.specs.Given.{HaveTheSame, given_files, files_over}

abbrev pub Entries : Type 0
Entries = List (List ℕ × List ℕ)

before_others : (b : Bool) (bytes : List ℕ) (o p : Option (List ℕ)) → option_or (cond b (Some bytes) o) p ≡ cond b (Some bytes) (option_or o p)
before_others true bytes o p = refl
before_others false bytes o p = refl

-- a file more among those that are put over others is a file more among all
pub over_insert : (entries : Entries) (name bytes : List ℕ) (files : Files)
    → files_over (insert_entry text_cmp entries name bytes) files ≡ with_file name bytes (files_over entries files)
over_insert entries name bytes files =
    fun_ext (λ q. ap (λ (all : Files). option_or (all q) (files q)) (files_of_insert entries name bytes) ∙ before_others (bytes_eq q name) bytes (files_of entries q) (files q))

other_name : (q name bytes : List ℕ) (file : Option (List ℕ)) (b : Bool) → is_bad_name name ≡ false → is_bad_name q ≡ true → file ≡ None → bytes_eq q name ≡ b → cond b (Some bytes) file ≡ None
other_name q name bytes file true good bad none is =
    let e : true ≡ false = sym bad ∙ ap is_bad_name ((bytes_eq-Decides q name).0 is) ∙ good in cc
other_name q name bytes file false good bad none is = none

-- and leaves nothing under a bad name
pub over_tame : {T E : Type 0} (r : Result T E) (old new : Entries) (files : Files) (name bytes : List ℕ) → is_bad_name name ≡ false → HoldsNoBadName (files_over old files)
    → OnOk r (files_over new files ≡ with_file name bytes (files_over old files)) → OnErr r (new ≡ old) → HoldsNoBadName (files_over new files)
over_tame (Ok x) old new files name bytes good tame ok err =
    λ q bad. ap (λ (all : Files). all q) ok ∙ other_name q name bytes (files_over old files q) (bytes_eq q name) good bad (tame q bad) refl
over_tame (Err e) old new files name bytes good tame ok err = λ q bad. ap (λ es. files_over es files q) err ∙ tame q bad

-- the same of a map's insertion
pub over_put : {T E : Type 0} (r : Result T E) (old new : Entries) (files : Files) (name bytes n b : List ℕ) → OnOk r (new ≡ insert_entry text_cmp old n b) → n ≡ name → b ≡ bytes
    → OnOk r (files_over new files ≡ with_file name bytes (files_over old files))
over_put (Ok x) old new files name bytes n b put is holds =
    ap (λ es. files_over es files) put ∙ over_insert old n b files
    ∙ ap (λ m. with_file m b (files_over old files)) is ∙ ap (λ v. with_file name v (files_over old files)) holds
over_put (Err e) old new files name bytes n b put is holds = tt

hidden : (b : Bool) (x y : Option (List ℕ)) → x ≡ y → cond b None x ≡ cond b None y
hidden b x y e = ap (cond b None) e

-- files that are the same under each name are the same in a folder
pub given_same : (files others : List File) → HaveTheSame files others → given_files files ≡ given_files others
given_same files others same = fun_ext (λ q. hidden (is_bad_name q) _ _ (same q))
