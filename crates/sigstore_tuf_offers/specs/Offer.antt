-- A chain that a repository offers, and a store that has nothing else (TUF specification, section 5).
use Rattle.std.specs.Prelude.{◌≡◌, ◌⊎◌, ℕ, ◌+◌, ◌-◌, ◌^◌, ◌<◌, ◌≤◌, List, [], ◌∷◌, length, Bool}
use Rattle.std.specs.Prelude.{Option, Some, None, ⊤}
use Rattle.std.specs.List.{AllByRecursion}
use Rattle.jiff_core.specs.declared.timestamp.Timestamp as jiff
use Rattle.sigstore_types_parts.specs.Entries.{at_name}
use Rattle.sigstore_keys.specs.Crypto.{Crypto}
use Rattle.sigstore_tuf_parts.specs.declared.snapshot.Snapshot.{Snapshot}
use Rattle.sigstore_tuf_parts.specs.Document.{content_in}
use Rattle.sigstore_tuf_parts.specs.Pinned.{Pinned}
use Rattle.sigstore_tuf_text.specs.Names.{root_name, timestamp_name, snapshot_name, targets_name, pin_name}
use Rattle.sigstore_tuf_rules.specs.declared.config.UpdaterConfig.{UpdaterConfig}
use Rattle.sigstore_tuf_rules.specs.declared.chain.RoleDoc.{RoleDoc}
use Rattle.sigstore_tuf_rules.specs.declared.chain.TrustChain.{TrustChain}
use Rattle.sigstore_tuf_outside.specs.Repository.{Folders, Files}
use Rattle.sigstore_tuf_rules.specs.Names.{pinned_name, role_file, target_name_of, history_name, kept_target}
use Rattle.sigstore_tuf_rules.specs.Trusted.{Reading, TrustedAs, targets_bytes}

-- ---- what is offered

-- the file stands under the name, no longer than its limit
pub record IsServed (files : Files) (name bytes : List ℕ) (max : ℕ) : Type 0 where
  pub there : files name ≡ Some bytes
  pub short : length bytes ≤ max

-- each of these roots stands under the number after that of the one before it
abbrev pub AreServedAfter : Files → ℕ → ℕ → List (List ℕ) → Type 0
AreServedAfter files max version [] = ⊤
AreServedAfter files max version (bytes ∷ later) =
    IsServed files (root_name (version + 1)) bytes max × AreServedAfter files max (version + 1) later

-- The next roots, so many, end within the limit: they are fewer, and nothing stands under the next number; or the last of them has
-- the greatest version, which has no next.
abbrev pub RootsEnd : Files → ℕ → ℕ → ℕ → Type 0
RootsEnd files newer max version =
    ((newer < max) × (files (root_name (version + 1)) ≡ None))
    ⊎ ((newer ≤ max) × (version ≡ 2 ^ 64 - 1))

-- a document that was visited stands under its name
abbrev pub IsServedRole : Files → Bool → Snapshot → ℕ → RoleDoc → Option (List ℕ) → Type 0
IsServedRole files consistent snapshot max r None = ⊤
IsServedRole files consistent snapshot max r (Some bytes) =
    IsServed files (pinned_name consistent (at_name (pin_name r.name) snapshot.meta) (role_file r.name)) bytes max

-- the roots after the given one
abbrev pub later_in : List (List ℕ) → List (List ℕ)
later_in [] = []
later_in (root ∷ roots) = roots

-- The repository offers the chain, read so: the chain is trusted, its documents stand under their names within their limits, the
-- next roots end with its last, the timestamp pins the snapshot by all that it says, and the listed length is within the limit.
pub record OffersAs (crypto : Crypto) (folders : Folders) (given : List ℕ) (now : jiff.Timestamp) (config : UpdaterConfig)
    (path : List ℕ) (chain : TrustChain) (is : Reading) : Type 0 where
  pub trusted : TrustedAs crypto given now config.max_delegations path chain is
  pub roots : AreServedAfter folders.metadata config.root_max_length (content_in trusted.roots.first).version (later_in chain.roots)
  pub roots_end : RootsEnd folders.metadata (length (later_in chain.roots)) config.max_root_rotations (content_in is.root).version
  pub timestamp : IsServed folders.metadata timestamp_name chain.timestamp config.timestamp_max_length
  pub snapshot : IsServed folders.metadata (pinned_name (content_in is.root).consistent_snapshot (Some is.pin) snapshot_name)
      chain.snapshot config.snapshot_max_length
  pub snapshot_pinned : Pinned chain.snapshot (content_in is.snapshot).version is.pin
  pub roles : AllByRecursion (λ (r : RoleDoc). IsServedRole folders.metadata (content_in is.root).consistent_snapshot
      (content_in is.snapshot) config.targets_max_length r r.bytes) chain.roles
  pub name : List ℕ
  pub name_is : target_name_of (content_in is.root).consistent_snapshot chain.target path ≡ Some name
  pub target : IsServed folders.targets name chain.file chain.target.length
  pub target_short : chain.target.length ≤ config.target_max_length

pub record Offers (crypto : Crypto) (folders : Folders) (given : List ℕ) (now : jiff.Timestamp) (config : UpdaterConfig)
    (path : List ℕ) (chain : TrustChain) : Type 0 where
  pub is : Reading
  pub offered : OffersAs crypto folders given now config path chain is

-- ---- a warm store

-- nothing, or this
abbrev pub IsNoneOr : {A : Type 0} → Option A → Option A → Type 0
IsNoneOr found wanted = (found ≡ None) ⊎ (found ≡ wanted)

-- the store has nothing, or each of these roots, under the number after that of the one before it, and nothing under later
-- numbers, which are of 64 bits
abbrev pub AreKeptAfter : Files → ℕ → List (List ℕ) → Type 0
AreKeptAfter files version [] = (number : ℕ) → version < number → number < 2 ^ 64 → files (history_name number) ≡ None
AreKeptAfter files version (bytes ∷ later) =
    IsNoneOr (files (history_name (version + 1))) (Some bytes) × AreKeptAfter files (version + 1) later

-- Each name that the client reads in the store has nothing or the chain's document, the given root being of this version.
pub record Warm (files : Files) (path : List ℕ) (chain : TrustChain) (version : ℕ) : Type 0 where
  pub roots : AreKeptAfter files version (later_in chain.roots)
  pub timestamp : IsNoneOr (files timestamp_name) (Some chain.timestamp)
  pub snapshot : IsNoneOr (files snapshot_name) (Some chain.snapshot)
  pub targets : IsNoneOr (files targets_name) (targets_bytes chain.roles)
  pub target : IsNoneOr (files (kept_target path)) (Some chain.file)
