-- What `download` promises (TUF specification, sections 5.3 to 5.7): what each status means, what is put in place whatever the status, and
-- when a run has to succeed.
use Rattle.std.specs.Prelude.{◌≡◌, ◌≢◌, ◌⊎◌, ℕ, List, [], ◌∷◌, length, map, Option, Some, None, Ok, ⊤}
use Rattle.std.specs.List.{AllByRecursion}
use Rattle.foundation.specs.Watched.{Watched, Rose, IfTold}
use Rattle.sigstore_tuf_text.specs.declared.error.Error.{Error}
use Rattle.sigstore_tuf_text.specs.declared.error.Error.TheVariants as tuf
use Rattle.sigstore_tuf_parts.specs.Document.{content_in}
use Rattle.sigstore_tuf_outside.specs.Repository.{Quiet, Files, Folders}
use Rattle.sigstore_tuf_rules.specs.declared.chain.TrustChain.{TrustChain}
use Rattle.sigstore_tuf_rules.specs.declared.documents.InForce.{InForce}
use Rattle.sigstore_tuf_rules.specs.declared.kind.Kind.TheVariants.{Timestamp, Snapshot}
use Rattle.sigstore_tuf_rules.specs.Authorised.{AreAuthorised, Serve}
use Rattle.sigstore_tuf_rules.specs.Taking.{bytes_in}
use Rattle.sigstore_tuf_rules.specs.Trusted.{Trusted}
use Rattle.sigstore_tuf_rules.specs.Update.{first_root_of}
use Rattle.sigstore_tuf_runs.specs.Cause.{FirstCause, RefreshCause}
use Rattle.sigstore_tuf_runs.specs.Newest.{AreNewest}
use Rattle.sigstore_tuf_runs.specs.SearchCause.{TargetCause}
use Rattle.sigstore_tuf_offers.specs.Offer.{Offers, Warm}
use Rattle.command_files.specs.Ending.{TakesAll, OrFails}
use Rattle.command_files.specs.Gather.{anchored_of}
use Rattle.command_files.specs.Inputs.{Held, watched}
use Rattle.command_files.specs.Starting as start
use Rattle.command_files.specs.Starting.{Command, now_of, Misuses, LacksInput}
use Rattle.command_files.specs.declared.answer.Status.{Status}
use Rattle.command_files.specs.declared.answer.Status.TheVariants as status
use Rattle.command_files.specs.declared.gather.Anchored.{Anchored}
use Rattle.command_download.specs.declared.layout.Download.{Download}
use Rattle.command_download.specs.declared.layout.DownloadLayout.{DownloadLayout}
use Rattle.command_download.specs.declared.shelf.Placed.{Placed}
use Rattle.command_download.specs.Client.{Anchor, Outside, state_in, top_of, Refreshes, DeliversEach}
use Rattle.command_download.specs.Layout.{download_layout_of}
use Rattle.command_download.specs.Report.{report_of, refusal_of, unplaced_of}
use Rattle.command_download.specs.Run.{Environment, anchor_of}
use Rattle.command_download.specs.Shelf.{placed, with_files}

-- ---- what is good

-- The chain of documents is trusted from the root at the moment, for a target of this name: the last role that the search visits lists it,
-- and the chain's file has the listed length and the listed digests (5.6.7, 5.7).
abbrev pub TrustsTarget : Anchor → List ℕ → TrustChain → Type 0
TrustsTarget anchor name chain =
    Trusted anchor.session.crypto anchor.root anchor.session.now anchor.session.config.max_delegations name chain

-- these are chains of the first so many downloads, in their order
abbrev pub AreTrusted : Anchor → List Download → List TrustChain → Type 0
AreTrusted anchor downloads [] = ⊤
AreTrusted anchor [] (chain ∷ chains) = ⊥
AreTrusted anchor (download ∷ downloads) (chain ∷ chains) = TrustsTarget anchor download.target chain × AreTrusted anchor downloads chains

-- their files, each under the name that its download gives it
abbrev pub files_of : List Download → List TrustChain → List Placed
files_of downloads [] = []
files_of [] (chain ∷ chains) = []
files_of (download ∷ downloads) (chain ∷ chains) = placed download.out chain.file ∷ files_of downloads chains

-- the download behind these
abbrev pub next_of : List Download → List TrustChain → Option Download
next_of [] chains = None
next_of (download ∷ downloads) [] = Some download
next_of (download ∷ downloads) (chain ∷ chains) = next_of downloads chains

-- the shelf took exactly their files, whole and in this order
abbrev pub HasTaken : List Download → List TrustChain → Watched (List Placed) → Watched (List Placed) → Type 0
HasTaken downloads chains old new = new.told ≡ with_files old.told (files_of downloads chains)

-- The shelf took the files of the first so many downloads, each of a trusted chain, and nothing else.
pub record Took (anchor : Anchor) (downloads : List Download) (before after : Outside) (chains : List TrustChain) : Type 0 where
  pub trusted : AreTrusted anchor downloads chains
  pub taken : HasTaken downloads chains before.shelf after.shelf

-- the documents in force go back to the root, and serve at the moment
pub record AreCurrent (anchor : Anchor) (set : InForce) : Type 0 where
  pub authorised : AreAuthorised anchor.session.crypto anchor.root set
  pub serve : Serve anchor.session.now set

-- the words give a layout, and the inputs were read
pub record Asked (command : Command) (before after : Environment) : Type 0 where
  pub layout : DownloadLayout
  pub anchored : Anchored
  pub begins : start.Begins (download_layout_of command.words) anchored_of before.inputs after.inputs layout anchored

abbrev pub anchor_in : {command : Command} {before after : Environment} → Asked command before after → Anchor
anchor_in {command} asked = anchor_of asked.anchored (now_of asked.layout.places command.clock)

-- ---- status 0

-- the roots, the timestamp and the snapshot of the chain are these
pub record StandsOn (set : InForce) (chain : TrustChain) : Type 0 where
  pub roots : chain.roots ≡ set.roots
  pub timestamp : bytes_in Timestamp set ≡ Some chain.timestamp
  pub snapshot : bytes_in Snapshot set ≡ Some chain.snapshot

-- Each target that was asked for has a trusted chain, and its file is in its place; all chains stand on one root, one timestamp and one
-- snapshot, of documents that go back to the root, serve, and are the newest that the repository has; they were had and the files placed
-- by this run; and the sink took exactly the report, with the versions of these.
pub record Accepts (command : Command) (before after : Environment) (out out' : Watched (List ℕ)) : Type 0 where
  pub asked : Asked command before after
  pub chains : List TrustChain
  pub took : Took (anchor_in asked) asked.layout.downloads before.outside after.outside chains
  pub all : length chains ≡ length asked.layout.downloads
  pub documents : InForce
  pub current : AreCurrent (anchor_in asked) documents
  pub newest : IfTold before.outside.repo.told (λ folders. AreNewest folders documents)
  pub one : AllByRecursion (StandsOn documents) chains
  pub mid : Outside
  pub refreshed : Refreshes (anchor_in asked) before.outside mid (Ok documents)
  pub delivers : DeliversEach (anchor_in asked).session documents asked.layout.downloads mid after.outside chains None
  pub written : TakesAll out out' (report_of documents asked.layout.downloads chains)

-- ---- status 1

-- The given root is refused; or a refresh from it, of documents that repository and store had at the beginning; and nothing was put in
-- place. Or the search for the first target that isn't in place, or its file, over documents that go back to the root and serve.
pub data DownloadCause (anchor : Anchor) (downloads : List Download) (before after : Outside) (chains : List TrustChain) (e : Error)
    : Type 0 where
  root_refused : chains ≡ [] → FirstCause anchor.session.crypto anchor.root e → DownloadCause anchor downloads before after chains e
  refresh_refused : (first last : InForce) → chains ≡ [] → first_root_of anchor.session.crypto anchor.root ≡ Ok first
      → AreAuthorised anchor.session.crypto anchor.root last
      → RefreshCause anchor.session (state_in first before) (state_in last after) e → DownloadCause anchor downloads before after chains e
  target_refused : (documents end : InForce) (download : Download) → next_of downloads chains ≡ Some download
      → AreCurrent anchor documents → AreCurrent anchor end
      → TargetCause anchor.session download.target (state_in (top_of documents) before) (state_in end after) e
      → DownloadCause anchor downloads before after chains e

-- A refusal with its cause: what was in place before it stays, nothing of what was refused was put in place, and the sink took exactly the
-- lines on the files that are there and the refusal's line.
pub record Refuses (command : Command) (before after : Environment) (out out' : Watched (List ℕ)) : Type 0 where
  pub asked : Asked command before after
  pub chains : List TrustChain
  pub took : Took (anchor_in asked) asked.layout.downloads before.outside after.outside chains
  pub refusal : Error
  pub other : refusal ≢ tuf.NoMemory
  pub cause : DownloadCause (anchor_in asked) asked.layout.downloads before.outside after.outside chains refusal
  pub written : TakesAll out out' (refusal_of asked.layout.downloads chains refusal)

-- ---- the other statuses

-- a file of a trusted chain couldn't be put in its place, and the sink took exactly the lines that say so
pub record Unplaces (command : Command) (before after : Environment) (out out' : Watched (List ℕ)) : Type 0 where
  pub asked : Asked command before after
  pub chains : List TrustChain
  pub took : Took (anchor_in asked) asked.layout.downloads before.outside after.outside chains
  pub next : Download
  pub next_is : next_of asked.layout.downloads chains ≡ Some next
  pub rose : Rose before.outside.shelf.faults after.outside.shelf.faults
  pub written : TakesAll out out' (unplaced_of asked.layout.downloads chains)

-- What each status means. 4: the count of the sink's faults rose, or the shelf's did. 5: nothing was written.
abbrev pub Means : Command → Environment → Environment → Watched (List ℕ) → Watched (List ℕ) → Status → Type 0
Means command before after out out' status.Accepted = Accepts command before after out out'
Means command before after out out' status.Refused = Refuses command before after out out'
Means command before after out out' status.Usage = Misuses (download_layout_of command.words) before after out out'
Means command before after out out' status.Input = LacksInput before after out out'
Means command before after out out' status.Output = Rose out.faults out'.faults ⊎ Unplaces command before after out out'
Means command before after out out' status.Memory = out' ≡ out

-- ---- whatever the status

-- Nothing is put in place but files of trusted chains, each whole, under the name that its own download gives it.
abbrev pub Shelves : Command → Environment → Environment → Type 0
Shelves command before after =
    (after.outside.shelf ≡ before.outside.shelf)
    ⊎ ((asked : Asked command before after) × (chains : List TrustChain)
    × Took (anchor_in asked) asked.layout.downloads before.outside after.outside chains)

-- ---- when a run has to succeed

-- an object tells this content, and raises no fault
pub record TellsQuietly {A : Type 0} (before after : Watched A) (content : A) : Type 0 where
  pub told : before.told ≡ Some content
  pub quiet : Quiet before.faults after.faults

-- the repository offers the chain for a target of this name, and the store has nothing else where the client reads it
pub record IsOffered (anchor : Anchor) (folders : Folders) (files : Files) (name : List ℕ) (chain : TrustChain) : Type 0 where
  pub offers : Offers anchor.session.crypto folders anchor.root anchor.session.now anchor.session.config name chain
  pub warm : Warm files name chain (content_in offers.offered.trusted.roots.first).version

-- The words are in order, told inputs are read without a fault, told folders offer a chain for the name of each target that is asked for,
-- over a told store, and neither the repository nor the shelf fails. What a store can't read or write is passed over.
pub record Favoured (command : Command) (before after : Environment) : Type 0 where
  pub layout : DownloadLayout
  pub worded : download_layout_of command.words ≡ Ok layout
  pub held : Held
  pub inputs : TellsQuietly (watched before.inputs) (watched after.inputs) held
  pub anchored : Anchored
  pub anchored_is : anchored_of held ≡ Ok anchored
  pub folders : Folders
  pub repo : TellsQuietly before.outside.repo after.outside.repo folders
  pub files : Files
  pub store : before.outside.store.told ≡ Some files
  pub shelf : Quiet before.outside.shelf.faults after.outside.shelf.faults
  pub chains : List ℕ → TrustChain
  pub offered : AllByRecursion (λ (d : Download). IsOffered (anchor_of anchored (now_of layout.places command.clock)) folders files d.target
      (chains d.target)) layout.downloads

-- the chains of the targets in their order
abbrev pub chains_of : (List ℕ → TrustChain) → List Download → List TrustChain
chains_of chains downloads = map (λ (d : Download). chains d.target) downloads

-- the status is 0, and the files of the offered chains are in their places
pub record PlacesAll {command : Command} {before after : Environment} (f : Favoured command before after) (ended : Status) : Type 0 where
  pub accepted : ended ≡ status.Accepted
  pub taken : HasTaken f.layout.downloads (chains_of f.chains f.layout.downloads) before.outside.shelf after.outside.shelf

-- Where nothing outside fails, each target that is offered is put in its place, unless memory is wanting or the sink fails.
abbrev pub Completes : Command → Environment → Environment → Watched (List ℕ) → Watched (List ℕ) → Status → Type 0
Completes command before after out out' ended =
    (f : Favoured command before after) → OrFails out out' ended (PlacesAll f ended)
