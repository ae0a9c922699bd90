-- What a load and a store promise.
use Rattle.std.specs.Prelude.{◌≡◌, ◌⊎◌, ℕ, ◌≤◌, ◌==◌, Bool, true, false, ◌||◌, if◌then◌else◌, List, [], ◌∷◌, take}
use Rattle.std.specs.Prelude.{codes, bytes_eq, Option, Some, None, option_map, Result, Ok, Err, ⊤}
use Rattle.std.specs.List.{list_any}
use Rattle.foundation.specs.Watched.{Watched, Rose, IfTold}
use Rattle.sigstore_tuf_outside.specs.Repository.{Files}
use Rattle.sigstore_tuf_outside.specs.declared.store.StoreFault.{StoreFault}
use Rattle.sigstore_tuf_outside.specs.declared.store.StoreFault.TheVariants.{Failed, BadName, NoMemory}

-- a byte before the first component
abbrev pub on_first : ℕ → List (List ℕ) → List (List ℕ)
on_first c [] = (c ∷ []) ∷ []
on_first c (part ∷ parts) = (c ∷ part) ∷ parts

abbrev pub is_slash : ℕ → Bool
is_slash c = c == 47

-- a name, cut at each slash
abbrev pub components : List ℕ → List (List ℕ)
components [] = [] ∷ []
components (c ∷ cs) = if is_slash c then [] ∷ components cs else on_first c (components cs)

-- the component that leads out of a folder
abbrev pub is_parent : List ℕ → Bool
is_parent part = bytes_eq part (codes "..")

-- an absolute name, or one with a component `..`
abbrev pub is_bad_name : List ℕ → Bool
is_bad_name name = bytes_eq (take 1 name) (codes "/") || list_any is_parent (components name)

-- nothing is held under a bad name
abbrev pub HoldsNoBadName : Files → Type 0
HoldsNoBadName files = (name : List ℕ) → is_bad_name name ≡ true → files name ≡ None

-- the files with these bytes under the name, and otherwise as before
abbrev pub with_file : List ℕ → List ℕ → Files → Files
with_file name bytes files = λ q. if bytes_eq q name then Some bytes else files q

-- Failed only where P, and BadName exactly for a bad name
abbrev pub HasStoreCause : {T : Type 0} → Type 0 → List ℕ → Result T StoreFault → Type 0
HasStoreCause P name (Ok x) = is_bad_name name ≡ false
HasStoreCause P name (Err Failed) = (is_bad_name name ≡ false) × P
HasStoreCause P name (Err BadName) = is_bad_name name ≡ true
HasStoreCause P name (Err NoMemory) = is_bad_name name ≡ false

abbrev pub IsLoaded : Option (List ℕ) → Result (Option (List ℕ)) StoreFault → Type 0
IsLoaded file (Ok given) = given ≡ file
IsLoaded file (Err e) = ⊤

-- the promise of a load: told files stay as they were, and the bytes given are theirs
pub record Loads (old new : Watched Files) (name : List ℕ) (result : Result (Option (List ℕ)) StoreFault) : Type 0 where
  pub same : new.told ≡ old.told
  pub later : old.faults ≤ new.faults
  pub cause : HasStoreCause (Rose old.faults new.faults) name result
  pub file : IfTold old.told (λ files. IsLoaded (files name) result)

-- from the told files to those with the new pair, or to the same where the call may have failed
abbrev pub Keeps : {T : Type 0} → Option Files → Option Files → List ℕ → List ℕ → Result T StoreFault → Type 0
Keeps old new name bytes (Ok x) = new ≡ option_map (with_file name bytes) old
Keeps old new name bytes (Err BadName) = new ≡ old
Keeps old new name bytes (Err Failed) = (new ≡ old) ⊎ (new ≡ option_map (with_file name bytes) old)
Keeps old new name bytes (Err NoMemory) = (new ≡ old) ⊎ (new ≡ option_map (with_file name bytes) old)

-- the promise of a store
pub record Stores {T : Type 0} (old new : Watched Files) (name bytes : List ℕ) (result : Result T StoreFault) : Type 0 where
  pub later : old.faults ≤ new.faults
  pub cause : HasStoreCause (Rose old.faults new.faults) name result
  pub kept : Keeps old.told new.told name bytes result
