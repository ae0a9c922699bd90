-- Which names of the store are one.
use Rattle.std.proofs.Common.{◌≡◌, ◌⊎◌, inl, inr, ℕ, List, arith, if◌then◌else◌, Bool, true, false, bytes_eq, Option, Some, None, refl, sym, ◌∙◌, subst, codes}
use Rattle.std.specs.Prelude.{option_map}
use Rattle.std.proofs.lemmas.Slice.Eq.{bytes_eq-Decides}
use Rattle.foundation.specs.Watched.{IfTold}
use Rattle.sigstore_tuf_rules.specs.declared.documents.InForce.{InForce}
use Rattle.sigstore_tuf_outside.specs.Repository.{Files}
use Rattle.sigstore_tuf_runs.specs.State.{State}
use Rattle.sigstore_tuf_runs.specs.Cause.{HasKept, IsInForce, Had, in_repository, in_store, in_force}
use Rattle.sigstore_tuf_outside.specs.Store.{with_file}
use Rattle.sigstore_tuf_parts.specs.declared.timestamp.MetaFile.{MetaFile}
use Rattle.sigstore_tuf_text.specs.Names.{root_name, timestamp_name, snapshot_name, targets_name, versioned_name}
use Rattle.sigstore_tuf_rules.specs.declared.kind.Kind.{Kind}
use Rattle.sigstore_tuf_rules.specs.declared.kind.Kind.TheVariants.{Root, Timestamp, Snapshot, Targets}
use Rattle.sigstore_tuf_rules.specs.Names.{is_consistent, snapshot_pin_in, targets_pin_in, pinned_name, file_name, IsVersioned, plain, versioned, IsNameOf, history_name, root_file, kept_name}
use Rattle.sigstore_tuf_causes.proofs.RootNames.{never_versioned}
use Rattle.std.proofs.lemmas.List.{append_cancel_left}

-- what is under a name once a file was written: as before, or the bytes that were written under that name
pub put_from : (name bytes q x : List ℕ) (old new : Option Files) → new ≡ option_map (with_file name bytes) old → IfTold new (λ files. files q ≡ Some x) → IfTold old (λ files. files q ≡ Some x) ⊎ ((q ≡ name) × (x ≡ bytes))
put_from name bytes q x old new e h = by_told old (subst (λ new. IfTold new (λ files. files q ≡ Some x)) e h)
  where
    by_test : (files : Files) (b : Bool) → bytes_eq q name ≡ b → (if b then Some bytes else files q) ≡ Some x → (files q ≡ Some x) ⊎ ((q ≡ name) × (x ≡ bytes))
    by_test files true b h = inr ((bytes_eq-Decides q name).0 b, cc)
    by_test files false b h = inl h

    by_told : (old : Option Files) → IfTold (option_map (with_file name bytes) old) (λ files. files q ≡ Some x) → IfTold old (λ files. files q ≡ Some x) ⊎ ((q ≡ name) × (x ≡ bytes))
    by_told None h = inl tt
    by_told (Some files) h = by_test files (bytes_eq q name) refl h

never_same : {C : Type 0} (a b : List ℕ) → a ≡ b → bytes_eq a b ≡ false → C
never_same a b h n = let is = (bytes_eq-Decides a b).1 h in cc

-- documents that are kept under one name are fetched under the same names
pub names_same : (q k : Kind) (n : List ℕ) → kept_name q ≡ kept_name k → IsNameOf k n → IsNameOf q n
names_same (Root l) (Root m) n h i = i ∙ sym (append_cancel_left (codes "root_history/") (root_name l) (root_name m) h)
names_same (Root l) Timestamp n h i = never_same (history_name l) timestamp_name h refl
names_same (Root l) Snapshot n h i = never_same (history_name l) snapshot_name h refl
names_same (Root l) Targets n h i = never_same (history_name l) targets_name h refl
names_same Timestamp (Root m) n h i = never_same (history_name m) timestamp_name (sym h) refl
names_same Timestamp Timestamp n h i = i
names_same Timestamp Snapshot n h i = never_same timestamp_name snapshot_name h refl
names_same Timestamp Targets n h i = never_same timestamp_name targets_name h refl
names_same Snapshot (Root m) n h i = never_same (history_name m) snapshot_name (sym h) refl
names_same Snapshot Timestamp n h i = never_same snapshot_name timestamp_name h refl
names_same Snapshot Snapshot n h i = i
names_same Snapshot Targets n h i = never_same snapshot_name targets_name h refl
names_same Targets (Root m) n h i = never_same (history_name m) targets_name (sym h) refl
names_same Targets Timestamp n h i = never_same targets_name timestamp_name h refl
names_same Targets Snapshot n h i = never_same targets_name snapshot_name h refl
names_same Targets Targets n h i = i

-- no document is kept under a name that begins with a version
pub kept_unversioned : {C : Type 0} (q : Kind) (version : ℕ) (name : List ℕ) → kept_name q ≡ versioned_name version name → C
kept_unversioned (Root m) version name h = never_versioned version name 114 _ (omega arith) h
kept_unversioned Timestamp version name h = never_versioned version name 116 _ (omega arith) h
kept_unversioned Snapshot version name h = never_versioned version name 115 _ (omega arith) h
kept_unversioned Targets version name h = never_versioned version name 116 _ (omega arith) h

-- the name by which the documents in force have a document fetched is one of its kind
pinned_versioned : (consistent : Bool) (pin : Option MetaFile) (name : List ℕ) → IsVersioned name (pinned_name consistent pin name)
pinned_versioned consistent None name = plain refl
pinned_versioned false (Some pin) name = plain refl
pinned_versioned true (Some pin) name = versioned pin.version refl

pub name_of : (set : InForce) (k : Kind) → IsNameOf k (file_name set k)
name_of set (Root number) = refl
name_of set Timestamp = refl
name_of set Snapshot = pinned_versioned (is_consistent set) (snapshot_pin_in set) snapshot_name
name_of set Targets = pinned_versioned (is_consistent set) (targets_pin_in set) targets_name

-- no document is kept under the name of the root in force
pub never_root_file : {C : Type 0} (q : Kind) → kept_name q ≡ root_file → C
never_root_file (Root n) h = never_same (history_name n) root_file h refl
never_root_file Timestamp h = never_same timestamp_name root_file h refl
never_root_file Snapshot h = never_same snapshot_name root_file h refl
never_root_file Targets h = never_same targets_name root_file h refl

-- so they are in force alike
pub force_named : (set : InForce) (q k : Kind) (x : List ℕ) → kept_name q ≡ kept_name k → IsInForce set k x → IsInForce set q x
force_named set (Root m) (Root n) x h i = (i.0, append_cancel_left (codes "root_history/") (root_name m) (root_name n) h ∙ i.1)
force_named set (Root m) Timestamp x h i = never_same (history_name m) timestamp_name h refl
force_named set (Root m) Snapshot x h i = never_same (history_name m) snapshot_name h refl
force_named set (Root m) Targets x h i = never_same (history_name m) targets_name h refl
force_named set Timestamp (Root n) x h i = never_same (history_name n) timestamp_name (sym h) refl
force_named set Timestamp Timestamp x h i = i
force_named set Timestamp Snapshot x h i = never_same timestamp_name snapshot_name h refl
force_named set Timestamp Targets x h i = never_same timestamp_name targets_name h refl
force_named set Snapshot (Root n) x h i = never_same (history_name n) snapshot_name (sym h) refl
force_named set Snapshot Timestamp x h i = never_same snapshot_name timestamp_name h refl
force_named set Snapshot Snapshot x h i = i
force_named set Snapshot Targets x h i = never_same snapshot_name targets_name h refl
force_named set Targets (Root n) x h i = never_same (history_name n) targets_name (sym h) refl
force_named set Targets Timestamp x h i = never_same targets_name timestamp_name h refl
force_named set Targets Snapshot x h i = never_same targets_name snapshot_name h refl
force_named set Targets Targets x h i = i

-- and were had alike
pub had_named : (state : State) (q k : Kind) (x : List ℕ) → kept_name q ≡ kept_name k → Had state k x → Had state q x
had_named state q k x h (in_repository n i f) = in_repository n (names_same q k n h i) f
had_named state q k x h (in_store f) = in_store (subst (λ n. HasKept state.store n x) (sym h) f)
had_named state q k x h (in_force i) = in_force (force_named state.documents q k x h i)
