-- The adoption of one document, from the repository or from the store (TUF specification, section 5).
use Rattle.std.specs.Prelude.{◌≡◌, ◌≢◌, ◌⊎◌, ℕ, List, [], ◌∷◌, Bool, true, false, Option, Some, None}
use Rattle.std.specs.Prelude.{Result, Ok, Err, ⊤}
use Rattle.jiff_core.specs.declared.timestamp.Timestamp as jiff
use Rattle.foundation.specs.Watched.{Watched}
use Rattle.sigstore_keys.specs.Crypto.{Crypto}
use Rattle.sigstore_tuf_text.specs.declared.error.Error.{Error}
use Rattle.sigstore_tuf_text.specs.declared.error.Error.TheVariants as tuf
use Rattle.sigstore_tuf_text.specs.declared.error.TransportFault.TheVariants as transport
use Rattle.sigstore_tuf_rules.specs.declared.documents.InForce.{InForce}
use Rattle.sigstore_tuf_rules.specs.declared.kind.Kind.{Kind}
use Rattle.sigstore_tuf_rules.specs.declared.kind.Kind.TheVariants.{Root, Timestamp, Snapshot, Targets}
use Rattle.sigstore_tuf_outside.specs.declared.repository.FetchFault.{FetchFault}
use Rattle.sigstore_tuf_outside.specs.declared.repository.FetchFault.TheVariants as fetch
use Rattle.sigstore_tuf_outside.specs.declared.store.StoreFault.{StoreFault}
use Rattle.sigstore_tuf_outside.specs.declared.store.StoreFault.TheVariants as store
use Rattle.sigstore_tuf_outside.specs.Repository.{Folders, Files, metadata_files, Fetches}
use Rattle.sigstore_tuf_outside.specs.Store.{Loads, Stores}
use Rattle.sigstore_tuf_rules.specs.Names.{file_name, max_length, kept_name, kept_names}
use Rattle.sigstore_tuf_runs.specs.State.{Session, State}
use Rattle.sigstore_tuf_rules.specs.Taking.{judged_of, there_of}

-- ---- a fetch

abbrev pub transport_of : ℕ → FetchFault → Error
transport_of max fetch.Failed = tuf.Transport transport.Failed
transport_of max (fetch.TooLong seen) = tuf.Transport (transport.TooLong max seen)
transport_of max fetch.NoMemory = tuf.NoMemory

abbrev pub fetched_of : ℕ → Result (Option (List ℕ)) FetchFault → Result (Option (List ℕ)) Error
fetched_of max (Ok file) = Ok file
fetched_of max (Err fault) = Err (transport_of max fault)

-- the file of that name, unless memory for the name was wanting
pub data FetchesNamed (part : Folders → Files) (name : List ℕ) (max : ℕ) (old new : Watched Folders)
    (result : Result (Option (List ℕ)) Error) : Type 0 where
  fetch_unnamed : new ≡ old → result ≡ Err tuf.NoMemory → FetchesNamed part name max old new result
  fetch_asked : (answer : Result (Option (List ℕ)) FetchFault) → Fetches part old new name max answer
      → result ≡ fetched_of max answer → FetchesNamed part name max old new result

-- the document's file, by the name that the documents in force give it
abbrev pub FetchesDocument : Session → InForce → Kind → Watched Folders → Watched Folders → Result (Option (List ℕ)) Error → Type 0
FetchesDocument session set kind old new result =
    FetchesNamed metadata_files (file_name set kind) (max_length session.config kind) old new result

-- ---- a load

-- A fault of the store is passed over: a client without a store decides by the same rules, only without what it
-- saw in earlier runs. Want of memory isn't: the program may not go on as if the store had nothing.
abbrev pub loaded_of : Result (Option (List ℕ)) StoreFault → Result (Option (List ℕ)) Error
loaded_of (Ok file) = Ok file
loaded_of (Err store.Failed) = Ok None
loaded_of (Err store.BadName) = Ok None
loaded_of (Err store.NoMemory) = Err tuf.NoMemory

pub data LoadsNamed (name : List ℕ) (old new : Watched Files) (result : Result (Option (List ℕ)) Error) : Type 0 where
  load_unnamed : new ≡ old → result ≡ Err tuf.NoMemory → LoadsNamed name old new result
  load_asked : (answer : Result (Option (List ℕ)) StoreFault) → Loads old new name answer
      → result ≡ loaded_of answer → LoadsNamed name old new result

-- ---- a write

abbrev pub passed_of : {T : Type 0} → Result T StoreFault → Result ⊤ Error
passed_of (Ok x) = Ok tt
passed_of (Err store.Failed) = Ok tt
passed_of (Err store.BadName) = Ok tt
passed_of (Err store.NoMemory) = Err tuf.NoMemory

pub data Saves (bytes name : List ℕ) (old new : Watched Files) (result : Result ⊤ Error) : Type 0 where
  save_unnamed : new ≡ old → result ≡ Err tuf.NoMemory → Saves bytes name old new result
  save_asked : (answer : Result ⊤ StoreFault) → Stores old new name bytes answer → result ≡ passed_of answer
      → Saves bytes name old new result

-- under each of these names in order, until memory is wanting
abbrev pub SavesAll : List ℕ → List (List ℕ) → Watched Files → Watched Files → Result ⊤ Error → Type 0
SavesAll bytes [] old new result = (new ≡ old) × (result ≡ Ok tt)
SavesAll bytes (name ∷ names) old new result =
    ((e : Error) × Saves bytes name old new (Err e) × (result ≡ Err e))
    ⊎ ((mid : Watched Files) × Saves bytes name old mid (Ok tt) × SavesAll bytes names mid new result)

-- under all these names
pub record Keeps (names : List (List ℕ)) (bytes : List ℕ) (old new : Watched Files) (result : Result ⊤ Error) : Type 0 where
  pub saves : SavesAll bytes names old new result

-- where the document is in force
abbrev pub KeepsWhere : List (List ℕ) → Option (List ℕ) → Watched Files → Watched Files → Result ⊤ Error → Type 0
KeepsWhere names None old new result = (new ≡ old) × (result ≡ Ok tt)
KeepsWhere names (Some bytes) old new result = Keeps names bytes old new result

-- ---- from the repository

-- documents and store stay as they were
pub record Unmoved (old new : State) : Type 0 where
  pub documents : new.documents ≡ old.documents
  pub store : new.store ≡ old.store

-- What is adopted: the name of its file and how long that may be, how its bytes are judged, the names under which it is then kept, and
-- what is said where it isn't there.
pub record Adoption : Type 0 where
  pub name : List ℕ
  pub max : ℕ
  pub judged : List ℕ → Result (Option InForce) Error
  pub kept : InForce → List (List ℕ)
  pub absence : Result Bool Error

-- The document is fetched, judged by what is in force, put in force and written. The answer is whether it was there.
pub data AdoptsBy (a : Adoption) (old new : State) (result : Result Bool Error) : Type 0 where
  unfetched : (e : Error) → FetchesNamed metadata_files a.name a.max old.repo new.repo (Err e) → Unmoved old new → result ≡ Err e
      → AdoptsBy a old new result
  absent : FetchesNamed metadata_files a.name a.max old.repo new.repo (Ok None) → Unmoved old new → result ≡ a.absence
      → AdoptsBy a old new result
  refused : (bytes : List ℕ) (e : Error) → FetchesNamed metadata_files a.name a.max old.repo new.repo (Ok (Some bytes))
      → (e ≢ tuf.NoMemory → a.judged bytes ≡ Err e) → Unmoved old new → result ≡ Err e → AdoptsBy a old new result
  kept : (bytes : List ℕ) → FetchesNamed metadata_files a.name a.max old.repo new.repo (Ok (Some bytes))
      → a.judged bytes ≡ Ok None → Unmoved old new → result ≡ Ok true → AdoptsBy a old new result
  adopted : (bytes : List ℕ) (written : Result ⊤ Error) → FetchesNamed metadata_files a.name a.max old.repo new.repo (Ok (Some bytes))
      → a.judged bytes ≡ Ok (Some new.documents)
      → Keeps (a.kept new.documents) bytes old.store new.store written → result ≡ there_of written → AdoptsBy a old new result

-- a next root may be absent
abbrev pub absence_of : Kind → Result Bool Error
absence_of (Root number) = Ok false
absence_of Timestamp = Err (tuf.Transport transport.Absent)
absence_of Snapshot = Err (tuf.Transport transport.Absent)
absence_of Targets = Err (tuf.Transport transport.Absent)

-- a top-level document, under the documents in force
abbrev pub adoption_of : Session → Kind → InForce → Adoption
adoption_of session kind set = record {
  name = file_name set kind;
  max = max_length session.config kind;
  judged = λ bytes. judged_of session.crypto kind set bytes (Some session.now);
  kept = λ new. kept_names new kind;
  absence = absence_of kind;
}

abbrev pub Adopts : Session → Kind → State → State → Result Bool Error → Type 0
Adopts session kind old new result = AdoptsBy (adoption_of session kind old.documents) old new result

-- ---- from the store

-- a refusal is passed over, and want of memory isn't
abbrev pub passed_over : Error → Result Bool Error
passed_over tuf.NoMemory = Err tuf.NoMemory
passed_over _ = Ok false

-- documents and repository stay as they were
pub record Unseeded (old new : State) : Type 0 where
  pub documents : new.documents ≡ old.documents
  pub repo : new.repo ≡ old.repo

-- The store's document is loaded, judged by what is in force, and put in force. The answer is whether it was put there; nothing
-- refuses but want of memory: what a store holds is nobody's word.
pub data Seeds (crypto : Crypto) (kind : Kind) (now : Option jiff.Timestamp) (old new : State) (result : Result Bool Error) : Type 0 where
  unloaded : (e : Error) → LoadsNamed (kept_name kind) old.store new.store (Err e) → Unseeded old new → result ≡ Err e
      → Seeds crypto kind now old new result
  unkept : LoadsNamed (kept_name kind) old.store new.store (Ok None) → Unseeded old new → result ≡ Ok false
      → Seeds crypto kind now old new result
  unseeded : (bytes : List ℕ) (e : Error) → LoadsNamed (kept_name kind) old.store new.store (Ok (Some bytes))
      → (e ≢ tuf.NoMemory → judged_of crypto kind old.documents bytes now ≡ Err e)
      → Unseeded old new → result ≡ passed_over e → Seeds crypto kind now old new result
  equal : (bytes : List ℕ) → LoadsNamed (kept_name kind) old.store new.store (Ok (Some bytes))
      → judged_of crypto kind old.documents bytes now ≡ Ok None
      → Unseeded old new → result ≡ Ok false → Seeds crypto kind now old new result
  seeded : (bytes : List ℕ) → LoadsNamed (kept_name kind) old.store new.store (Ok (Some bytes))
      → judged_of crypto kind old.documents bytes now ≡ Ok (Some new.documents)
      → new.repo ≡ old.repo → result ≡ Ok true → Seeds crypto kind now old new result
