-- The run of the client: the documents are brought up to date once, and then each target is searched, had and put in its place, one after
-- the other (TUF specification, sections 5.3 to 5.7).
use Rattle.std.specs.Prelude.{◌≡◌, ◌≢◌, ℕ, List, [], ◌∷◌, codes, Option, Some, None, Result, Ok, Err}
use Rattle.foundation.specs.Watched.{Watched}
use Rattle.sigstore_tuf_text.specs.declared.error.Error.{Error}
use Rattle.sigstore_tuf_text.specs.declared.error.Error.TheVariants as tuf
use Rattle.sigstore_tuf_parts.specs.declared.targets.Targets.{Targets}
use Rattle.sigstore_tuf_outside.specs.Repository.{Files, Folders}
use Rattle.sigstore_tuf_rules.specs.declared.chain.TrustChain.{TrustChain}
use Rattle.sigstore_tuf_rules.specs.declared.documents.Held.{Held}
use Rattle.sigstore_tuf_rules.specs.declared.documents.InForce.{InForce}
use Rattle.sigstore_tuf_rules.specs.Taking.{top_targets}
use Rattle.sigstore_tuf_rules.specs.Update.{first_root_of}
use Rattle.sigstore_tuf_runs.specs.State.{Session, State, state_of}
use Rattle.sigstore_tuf_runs.specs.Run.{Attaches, refresh_steps, RunsSteps}
use Rattle.sigstore_tuf_runs.specs.Chain.{GetsTarget}
use Rattle.command_download.specs.declared.layout.Download.{Download}
use Rattle.command_download.specs.declared.fault.DownloadFault.{DownloadFault}
use Rattle.command_download.specs.declared.fault.DownloadFault.TheVariants.{Tuf, Unplaced, NoMemory}
use Rattle.command_download.specs.declared.shelf.Placed.{Placed}
use Rattle.command_download.specs.declared.shelf.ShelfFault.{ShelfFault}
use Rattle.command_download.specs.declared.shelf.ShelfFault.TheVariants as shelf
use Rattle.command_download.specs.Shelf.{Places}

-- ---- what is given, found and left

-- from what documents are trusted: who decides signatures, the limits and the moment; and the pinned root
pub record Anchor : Type 0 where
  pub session : Session
  pub root : List ℕ

abbrev pub anchor_by : Session → List ℕ → Anchor
anchor_by session root = record { session = session; root = root }

-- the outside at one moment: where documents and targets come from, and where files are put
pub record Outside : Type 0 where
  pub repo : Watched Folders
  pub store : Watched Files
  pub shelf : Watched (List Placed)

abbrev pub outside_by : Watched Folders → Watched Files → Watched (List Placed) → Outside
outside_by repo store shelf = record { repo = repo; store = store; shelf = shelf }

-- the documents in force, with the outside
abbrev pub state_in : InForce → Outside → State
state_in set outside = state_of set outside.repo outside.store

-- ---- the refresh

-- A client begins with a first root, and with what a store has of the next ones.
pub record Begins (anchor : Anchor) (before : Outside) (kept : Watched Files) (set : InForce) : Type 0 where
  pub first : InForce
  pub first_is : first_root_of anchor.session.crypto anchor.root ≡ Ok first
  pub attaches : Attaches anchor.session.crypto (state_in first before) (state_of set before.repo kept) (Ok tt)

-- The documents of a first root, with the store's next roots, brought up to date once; the first of these that refuses answers.
pub data Refreshes (anchor : Anchor) (before after : Outside) (result : Result InForce Error) : Type 0 where
  root_refused : (e : Error) → (e ≢ tuf.NoMemory → first_root_of anchor.session.crypto anchor.root ≡ Err e) → after ≡ before
      → result ≡ Err e → Refreshes anchor before after result
  attach_refused : (first set : InForce) (e : Error) → first_root_of anchor.session.crypto anchor.root ≡ Ok first
      → Attaches anchor.session.crypto (state_in first before) (state_of set before.repo after.store) (Err e) → after.repo ≡ before.repo
      → after.shelf ≡ before.shelf → result ≡ Err e → Refreshes anchor before after result
  refresh_refused : (kept : Watched Files) (set last : InForce) (e : Error) → Begins anchor before kept set
      → RunsSteps anchor.session refresh_steps (state_of set before.repo kept) (state_in last after) (Err e) → after.shelf ≡ before.shelf
      → result ≡ Err e → Refreshes anchor before after result
  refreshed : (kept : Watched Files) (set last : InForce) → Begins anchor before kept set
      → RunsSteps anchor.session refresh_steps (state_of set before.repo kept) (state_in last after) (Ok tt) → after.shelf ≡ before.shelf
      → result ≡ Ok last → Refreshes anchor before after result

-- ---- one target

abbrev pub alone : Option (Held Targets) → List (List ℕ × Held Targets)
alone None = []
alone (Some held) = (codes "targets", held) ∷ []

-- the top-level documents: each search begins with these, so that none depends on the searches before it
abbrev pub top_of : InForce → InForce
top_of set = record {
  roots = set.roots;
  root = set.root;
  timestamp = set.timestamp;
  snapshot = set.snapshot;
  targets = alone (top_targets set);
}

abbrev pub fault_of : Error → DownloadFault
fault_of tuf.NoMemory = NoMemory
fault_of e = Tuf e

abbrev pub fault_of_shelf : ShelfFault → DownloadFault
fault_of_shelf shelf.Failed = Unplaced
fault_of_shelf shelf.NoMemory = NoMemory

-- A target is searched from the top-level documents, its file is had, and then put in its place whole.
pub data Delivers (session : Session) (set : InForce) (download : Download) (before after : Outside)
    (result : Result TrustChain DownloadFault) : Type 0 where
  unbegun : after ≡ before → result ≡ Err NoMemory → Delivers session set download before after result
  unfound : (end : InForce) (e : Error)
      → GetsTarget session download.target (state_in (top_of set) before) (state_in end after) (Err e) → after.shelf ≡ before.shelf
      → result ≡ Err (fault_of e) → Delivers session set download before after result
  unplaced : (end : InForce) (chain : TrustChain) (fault : ShelfFault)
      → GetsTarget session download.target (state_in (top_of set) before) (state_in end after) (Ok chain)
      → Places {T = Unit {0}} before.shelf after.shelf download.out chain.file (Err fault) → result ≡ Err (fault_of_shelf fault)
      → Delivers session set download before after result
  delivered : (end : InForce) (chain : TrustChain)
      → GetsTarget session download.target (state_in (top_of set) before) (state_in end after) (Ok chain)
      → Places {T = Unit {0}} before.shelf after.shelf download.out chain.file (Ok tt) → result ≡ Ok chain
      → Delivers session set download before after result

-- ---- all of them

-- Each in turn, until one fails or memory is wanting between two of them: the chains of those that were done.
pub data DeliversEach (session : Session) (set : InForce) : List Download → Outside → Outside → List TrustChain → Option DownloadFault
    → Type 0 where
  all_done : (outside : Outside) → DeliversEach session set [] outside outside [] None
  wanting : (downloads : List Download) (outside : Outside) → DeliversEach session set downloads outside outside [] (Some NoMemory)
  failed : (download : Download) (downloads : List Download) (before after : Outside) (fault : DownloadFault)
      → Delivers session set download before after (Err fault)
      → DeliversEach session set (download ∷ downloads) before after [] (Some fault)
  goes_on : (download : Download) (downloads : List Download) (before mid after : Outside) (chain : TrustChain)
      (chains : List TrustChain) (stop : Option DownloadFault)
      → Delivers session set download before mid (Ok chain) → DeliversEach session set downloads mid after chains stop
      → DeliversEach session set (download ∷ downloads) before after (chain ∷ chains) stop
