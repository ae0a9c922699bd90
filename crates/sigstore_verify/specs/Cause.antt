-- What each refusal of the top call tells: of the root and the repository, or of the trust file, the bundle, the policy and the
-- artifact (TUF specification, section 5; Sigstore bundle format; FIPS 180-4, FIPS 186-5).
use Rattle.std.specs.Prelude.{◌≡◌, ℕ, List, Some, Ok, codes, ⊤}
use Rattle.sigstore_types_parts.specs.Entries.{at_name}
use Rattle.sigstore_tuf_text.specs.declared.error.Error.TheVariants as tuf
use Rattle.sigstore_tuf_text.specs.declared.error.Error.{Error as TufError}
use Rattle.sigstore_tuf_parts.specs.declared.targets.Targets.{Targets}
use Rattle.sigstore_tuf_runs.specs.Cause.{FirstCause, RefreshCause}
use Rattle.sigstore_tuf_runs.specs.SearchCause.{TargetCause}
use Rattle.sigstore_tuf_rules.specs.Authorised.{AreAuthorised, Serve}
use Rattle.sigstore_tuf_rules.specs.declared.documents.Held.{Held}
use Rattle.sigstore_tuf_rules.specs.declared.documents.InForce.{InForce}
use Rattle.sigstore_tuf_runs.specs.State.{State, state_of}
use Rattle.sigstore_tuf_rules.specs.Update.{first_root_of}
use Rattle.sigstore_judgement.specs.declared.error.Error.TheVariants as verify
use Rattle.sigstore_verify.specs.declared.from_root.RootFault.{RootFault}
use Rattle.sigstore_verify.specs.declared.from_root.RootFault.TheVariants as refusal
use Rattle.sigstore_judgement.specs.Cause.{JudgeCause}
use Rattle.sigstore_verify.specs.Inputs.{Anchor, VerifyInputs, Places, Outside, places_in, asked_by}
use Rattle.sigstore_verify.specs.FromRoot.{trust_path, session_in, TrustsChain}

-- ---- why there is no chain

abbrev pub state_in : InForce → Places → State
state_in set places = state_of set places.repo places.store

-- of the targets documents only the top-level one is in force
abbrev pub OnlyTop : InForce → Type 0
OnlyTop set = (name : List ℕ) (held : Held Targets) → at_name name set.targets ≡ Some held → name ≡ codes "targets"

-- The given root is refused; or a refresh from it, of documents that repository and store had at the beginning; or the search, whose
-- documents are authorised from the root at its beginning, when none of a delegated role is in force, and at its end, where they serve
-- at this moment.
pub data ChainCause (anchor : Anchor) (before after : Places) (e : TufError) : Type 0 where
  root_refused : FirstCause anchor.crypto anchor.root e → ChainCause anchor before after e
  refresh_refused : (first last : InForce) → first_root_of anchor.crypto anchor.root ≡ Ok first
      → AreAuthorised anchor.crypto anchor.root last
      → RefreshCause (session_in anchor) (state_in first before) (state_in last after) e → ChainCause anchor before after e
  search_refused : (last end : InForce) → OnlyTop last → AreAuthorised anchor.crypto anchor.root last
      → AreAuthorised anchor.crypto anchor.root end → Serve anchor.now end
      → TargetCause (session_in anchor) trust_path (state_in last before) (state_in end after) e
      → ChainCause anchor before after e
  chain_wanting : e ≡ tuf.NoMemory → ChainCause anchor before after e

-- ---- each refusal of the top call

-- Tuf: its cause is in the root, the repository and the store. Verify: the chain that is handed back is trusted, and the cause is in its
-- file, the bundle, the policy and the artifact. Want of memory is never told as one of these.
abbrev pub RootCause : VerifyInputs → Outside → Outside → RootFault → Type 0
RootCause given before after (refusal.Tuf tuf.NoMemory) = ⊥
RootCause given before after (refusal.Tuf e) =
    ChainCause given.anchor (places_in before) (places_in after) e × (after.source ≡ before.source)
RootCause given before after (refusal.Verify verify.NoMemory chain) = ⊥
RootCause given before after (refusal.Verify e chain) =
    TrustsChain given.anchor chain × JudgeCause (asked_by given) chain.file before.source after.source e
RootCause given before after refusal.NoMemory = ⊤
