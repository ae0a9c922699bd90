-- A call of the client as a list of steps, which are run until one refuses (TUF specification, section 5).
use Rattle.std.specs.Prelude.{◌≡◌, ◌≢◌, ◌⊎◌, ℕ, zero, suc, ◌+◌, ◌-◌}
use Rattle.std.specs.Prelude.{◌^◌, ◌==◌, if◌then◌else◌, List, [], ◌∷◌, Bool, true, false}
use Rattle.std.specs.Prelude.{Option, Some, None, is_some, Result, Ok, Err, IfErr, OnOk, ⊤}
use Rattle.jiff_core.specs.declared.timestamp.Timestamp as jiff
use Rattle.sigstore_keys.specs.Crypto.{Crypto}
use Rattle.sigstore_tuf_text.specs.declared.error.Error.{Error}
use Rattle.sigstore_tuf_text.specs.declared.error.Error.TheVariants as tuf
use Rattle.sigstore_tuf_text.specs.declared.error.TransportFault.TheVariants as transport
use Rattle.sigstore_tuf_rules.specs.declared.documents.InForce.{InForce}
use Rattle.sigstore_tuf_rules.specs.declared.kind.Kind.{Kind}
use Rattle.sigstore_tuf_rules.specs.declared.kind.Kind.TheVariants as kind
use Rattle.sigstore_tuf_runs.specs.declared.step.Step.{Step}
use Rattle.sigstore_tuf_runs.specs.declared.step.Step.TheVariants.{WalkRoots, CheckRoot, Seed, Fetch, CheckTimestamp, CheckSnapshot}
use Rattle.sigstore_tuf_runs.specs.State.{Session, State}
use Rattle.sigstore_tuf_rules.specs.Names.{kept_names}
use Rattle.sigstore_tuf_rules.specs.Taking.{bytes_in}
use Rattle.sigstore_tuf_runs.specs.Adopt.{KeepsWhere, Adopts, Seeds}
use Rattle.sigstore_tuf_rules.specs.Serving.{version_in, root_serves_of, timestamp_serves_of, snapshot_serves_of, is_current}

-- ---- loops

-- how one document is adopted
abbrev pub Turn : Type 1
Turn = Kind → State → State → Result Bool Error → Type 0

-- A loop adopts the document that its work names next, until there is none; each adoption may grow the work. What is said where
-- the limit is met.
pub record Loop (W : Type 0) : Type 0 where
  pub next : W → InForce → Option (Kind × W)
  pub grow : W → InForce → W
  pub limit : Result ⊤ Error

-- it has nothing more to adopt
abbrev pub IsIdle : {W : Type 0} → Loop W → W → State → State → Result ⊤ Error → Type 0
IsIdle loop work old new result = (loop.next work old.documents ≡ None) × (new ≡ old) × (result ≡ Ok tt)

-- what is adopted next isn't there, which ends the loop, or it is refused
abbrev pub Stops : Turn → Kind → State → State → Result ⊤ Error → Type 0
Stops turn k old new (Ok x) = turn k old new (Ok false)
Stops turn k old new (Err e) = turn k old new (Err e)

-- at most so many are adopted
abbrev pub Repeats : {W : Type 0} → Turn → Loop W → ℕ → W → State → State → Result ⊤ Error → Type 0
Repeats {W} turn loop zero work old new result =
    IsIdle loop work old new result
    ⊎ ((k : Kind) × ((rest : W) × (loop.next work old.documents ≡ Some (k, rest)) × (new ≡ old) × (result ≡ loop.limit)))
Repeats {W} turn loop (suc n) work old new result =
    IsIdle loop work old new result
    ⊎ ((k : Kind)
    × ((rest : W) × (loop.next work old.documents ≡ Some (k, rest))
    × (Stops turn k old new result
    ⊎ ((mid : State) × turn k old mid (Ok true) × Repeats turn loop n (loop.grow rest mid.documents) mid new result))))

-- the number after the greatest is no number: a root at the greatest version is the last
abbrev pub next_root : InForce → Option ℕ
next_root set = if version_in set == 2 ^ 64 - 1 then None else Some (version_in set + 1)

-- a loop that needs no work but what is in force
abbrev pub alone : Option ℕ → Option (Kind × ⊤)
alone None = None
alone (Some number) = Some (kind.Root number, tt)

abbrev pub root_loop : Result ⊤ Error → Loop ⊤
root_loop limit = record {
  next = λ work set. alone (next_root set);
  grow = λ work set. work;
  limit = limit;
}

-- Next roots are adopted from the repository, at most so many (5.3.3: without a limit a repository leads a client on for ever).
abbrev pub WalksRoots : Session → ℕ → State → State → Result ⊤ Error → Type 0
WalksRoots session max old new result =
    Repeats (Adopts session) (root_loop (Err (tuf.Transport (transport.Rotations session.config.max_root_rotations)))) max tt old new result

-- Next roots are adopted from the store: each raises the number of the root in force by one, so that there are at most so many.
abbrev pub RecallsRoots : Crypto → ℕ → State → State → Result ⊤ Error → Type 0
RecallsRoots crypto max old new result = Repeats (λ k. Seeds crypto k None) (root_loop (Ok tt)) max tt old new result

abbrev pub roots_left : InForce → ℕ
roots_left set = 2 ^ 64 - 1 - version_in set

-- the root in force is written, and nothing else changes
pub record SavesRoot (old new : State) (result : Result ⊤ Error) : Type 0 where
  pub documents : new.documents ≡ old.documents
  pub repo : new.repo ≡ old.repo
  pub written : KeepsWhere (kept_names old.documents (kind.Root (version_in old.documents)))
      (bytes_in (kind.Root (version_in old.documents)) old.documents)
      old.store new.store result

-- Where a store is handed in, its next roots are adopted, and the root then in force is written.
pub data Attaches (crypto : Crypto) (old new : State) (result : Result ⊤ Error) : Type 0 where
  roots_unrecalled : (e : Error) → RecallsRoots crypto (roots_left old.documents) old new (Err e) → result ≡ Err e
      → Attaches crypto old new result
  roots_recalled : (mid : State) → RecallsRoots crypto (roots_left old.documents) old mid (Ok tt) → SavesRoot mid new result
      → Attaches crypto old new result

-- ---- the steps

-- what is in force is looked at, and nothing changes
pub record Checks (test : InForce → Result ⊤ Error) (old new : State) (result : Result ⊤ Error) : Type 0 where
  pub same : new ≡ old
  pub passed : OnOk result (test old.documents ≡ Ok tt)
  pub refused : IfErr result (λ e. e ≢ tuf.NoMemory → test old.documents ≡ Err e)

-- what is said where the answer doesn't matter
abbrev pub said : {T : Type 0} → Result T Error → Result ⊤ Error
said (Ok x) = Ok tt
said (Err e) = Err e

-- the document in force serves, or one is fetched
abbrev pub Refetches : Session → Kind → State → State → Result ⊤ Error → Type 0
Refetches session k old new result =
    ((is_current k old.documents session.now ≡ true) × (new ≡ old) × (result ≡ Ok tt))
    ⊎ ((is_current k old.documents session.now ≡ false)
    × ((answer : Result Bool Error) × Adopts session k old new answer × (result ≡ said answer)))

-- Timestamp and snapshot are judged without their expiry, the targets document with it: an expired timestamp or snapshot is still
-- a floor for the next one, and a targets document is none.
abbrev pub moment_of : Kind → jiff.Timestamp → Option jiff.Timestamp
moment_of (kind.Root number) now = None
moment_of kind.Timestamp now = None
moment_of kind.Snapshot now = None
moment_of kind.Targets now = Some now

-- one is in force, or the store's is looked at
abbrev pub Reseeds : Session → Kind → State → State → Result ⊤ Error → Type 0
Reseeds session k old new result =
    ((is_some (bytes_in k old.documents) ≡ true) × (new ≡ old) × (result ≡ Ok tt))
    ⊎ ((is_some (bytes_in k old.documents) ≡ false)
    × ((answer : Result Bool Error) × Seeds session.crypto k (moment_of k session.now) old new answer × (result ≡ said answer)))

-- what a step does
abbrev pub Does : Session → Step → State → State → Result ⊤ Error → Type 0
Does session WalkRoots old new result = WalksRoots session session.config.max_root_rotations old new result
Does session CheckRoot old new result = Checks (λ set. root_serves_of set session.now) old new result
Does session (Seed k) old new result = Reseeds session k old new result
Does session (Fetch k) old new result = Refetches session k old new result
Does session CheckTimestamp old new result = Checks (λ set. timestamp_serves_of set session.now) old new result
Does session CheckSnapshot old new result = Checks (λ set. snapshot_serves_of set session.now) old new result

-- steps are run one after another, until one refuses, whose answer stands
abbrev pub Runs : Session → List Step → State → State → Result ⊤ Error → Type 0
Runs session [] old new result = (new ≡ old) × (result ≡ Ok tt)
Runs session (step ∷ steps) old new result =
    ((e : Error) × Does session step old new (Err e) × (result ≡ Err e))
    ⊎ ((mid : State) × Does session step old mid (Ok tt) × Runs session steps mid new result)

-- The order is the standard's (5.3 to 5.6). The store is looked at once the last root is known: whatever it has was signed for
-- some root, and only the last one tells which keys still count.
abbrev pub refresh_steps : List Step
refresh_steps =
    WalkRoots ∷ CheckRoot ∷ Seed kind.Timestamp ∷ Seed kind.Snapshot ∷ Seed kind.Targets ∷ Fetch kind.Timestamp ∷ CheckTimestamp
    ∷ Fetch kind.Snapshot ∷ CheckSnapshot ∷ Fetch kind.Targets ∷ []

-- the run of these steps
pub record RunsSteps (session : Session) (steps : List Step) (old new : State) (result : Result ⊤ Error) : Type 0 where
  pub runs : Runs session steps old new result
