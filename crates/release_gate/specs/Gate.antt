-- What the gate is given, what it finds and leaves of the outside, and what its answers mean.
use Rattle.std.specs.Prelude.{◌≡◌, ℕ, List, Result, Ok, Err, IfOk, IfErr, ⊤}
use Rattle.foundation.specs.Steps.{◌>>=◌}
use Rattle.foundation.specs.Watched.{Watched, IfTold, Since}
use Rattle.sigstore_tuf_text.specs.declared.error.Error.{Error as TufError}
use Rattle.sigstore_tuf_text.specs.declared.error.Error.TheVariants as tuf
use Rattle.sigstore_tuf_outside.specs.Repository.{Files, Folders}
use Rattle.sigstore_tuf_rules.specs.declared.chain.TrustChain.{TrustChain}
use Rattle.sigstore_judgement.specs.declared.error.Error.{Error}
use Rattle.sigstore_judgement.specs.declared.error.Error.TheVariants as verify
use Rattle.sigstore_judgement.specs.declared.trust.Material.{Material}
use Rattle.sigstore_policy.specs.Policy.{Meaning}
use Rattle.sigstore_judgement.specs.Trust.{material_of}
use Rattle.sigstore_judgement.specs.Under.{trust_of}
use Rattle.sigstore_verify.specs.Cause.{ChainCause}
use Rattle.sigstore_verify.specs.FromRoot.{TrustsChain}
use Rattle.sigstore_verify.specs.Inputs.{Anchor, Places}
use Rattle.release_gate.specs.declared.gate.GateFault.{GateFault}
use Rattle.release_gate.specs.declared.gate.GateFault.TheVariants as gate
use Rattle.release_gate.specs.declared.gate.Gated.{Gated}
use Rattle.release_gate.specs.declared.line.GateLine.{GateLine}
use Rattle.release_gate.specs.declared.walk.FolderStop.{FolderStop}
use Rattle.release_gate.specs.declared.walk.FolderStop.TheVariants as stop
use Rattle.release_gate.specs.Folder.{Contents}
use Rattle.release_gate.specs.Terms.{RuleTerms, rule_terms_over}
use Rattle.release_gate.specs.Verdict.{verdict_by}
use Rattle.release_gate.specs.Walk.{StopCause, IsJudged}

-- ---- what is given

-- from what a chain is trusted, the rules, of which one has to accept, and the greatest length of an artifact
pub record GateInputs : Type 0 where
  pub anchor : Anchor
  pub rules : List Meaning
  pub max : ℕ

abbrev pub gate_inputs_by : Anchor → List Meaning → ℕ → GateInputs
gate_inputs_by anchor rules max = record { anchor = anchor; rules = rules; max = max }

-- the outside at one moment
pub record Outside : Type 0 where
  pub repo : Watched Folders
  pub store : Watched Files
  pub folder : Watched Contents

abbrev pub outside_by : Watched Folders → Watched Files → Watched Contents → Outside
outside_by repo store folder = record { repo = repo; store = store; folder = folder }

abbrev pub places_in : Outside → Places
places_in outside = record { repo = outside.repo; store = outside.store }

-- ---- the trust file

-- what a verifier keeps of a trust file, or the first check that it fails
abbrev pub kept_of : List ℕ → Result Material Error
kept_of file = trust_of file >>= material_of

-- the terms of every artifact, with what is kept of the trust file
abbrev pub terms_of : GateInputs → Material → RuleTerms
terms_of given material =
    rule_terms_over (record { crypto = given.anchor.crypto; material = material; now = given.anchor.now }) given.rules

-- ---- the answers

abbrev pub fault_of_tuf : TufError → GateFault
fault_of_tuf tuf.NoMemory = gate.NoMemory
fault_of_tuf e = gate.Tuf e

abbrev pub fault_of_trust : Error → TrustChain → GateFault
fault_of_trust verify.NoMemory chain = gate.NoMemory
fault_of_trust e chain = gate.Trust e chain

abbrev pub fault_of_stop : FolderStop → GateFault
fault_of_stop stop.Failed = gate.FolderFailed
fault_of_stop (stop.TooMany count) = gate.TooManyNames count
fault_of_stop (stop.Doubled name) = gate.DoubledName name
fault_of_stop (stop.Vanished name) = gate.Vanished name
fault_of_stop stop.NoMemory = gate.NoMemory

-- what is said of a folder that was judged under a chain
abbrev pub gated_under : TrustChain → Result (List GateLine) GateFault → Result Gated GateFault
gated_under chain (Ok lines) = Ok (record { chain = chain; lines = lines })
gated_under chain (Err fault) = Err fault

-- What Ok means: the chain that is handed back is trusted from the given root; its file is usable as the trust file, and this is kept of
-- it; and a told folder lists few names, none twice, and has these lines under it, one on each of its artifacts.
pub record IsGated (given : GateInputs) (before : Outside) (gated : Gated) : Type 0 where
  pub trusted : TrustsChain given.anchor gated.chain
  pub material : Material
  pub usable : kept_of gated.chain.file ≡ Ok material
  pub judged : IfTold before.folder.told (λ contents. IsJudged (verdict_by (terms_of given material) given.max) contents gated.lines)

-- a chain is trusted, whose file is usable as the trust file
pub record HasTrust (anchor : Anchor) : Type 0 where
  pub chain : TrustChain
  pub trusted : TrustsChain anchor chain
  pub material : Material
  pub usable : kept_of chain.file ≡ Ok material

-- What each refusal means. Tuf: its cause is in the root, the repository and the store. Trust: the chain that is handed back is trusted,
-- and this is the first check that its file fails. Either leaves the folder as it was. Every other comes behind them, and has its cause in
-- the folder. Want of memory is never told as another.
abbrev pub GateCause : GateInputs → Outside → Outside → GateFault → Type 0
GateCause given before after (gate.Tuf tuf.NoMemory) = ⊥
GateCause given before after (gate.Tuf e) =
    ChainCause given.anchor (places_in before) (places_in after) e × (after.folder ≡ before.folder)
GateCause given before after (gate.Trust verify.NoMemory chain) = ⊥
GateCause given before after (gate.Trust e chain) =
    TrustsChain given.anchor chain × (kept_of chain.file ≡ Err e) × (after.folder ≡ before.folder)
GateCause given before after gate.FolderFailed = HasTrust given.anchor × StopCause before.folder after.folder stop.Failed
GateCause given before after (gate.DoubledName name) = HasTrust given.anchor × StopCause before.folder after.folder (stop.Doubled name)
GateCause given before after (gate.TooManyNames count) = HasTrust given.anchor × StopCause before.folder after.folder (stop.TooMany count)
GateCause given before after (gate.Vanished name) = HasTrust given.anchor × StopCause before.folder after.folder (stop.Vanished name)
GateCause given before after gate.NoMemory = ⊤

-- ---- the folder alone

-- why a folder isn't judged under a trust file
abbrev pub FolderCause : Watched Contents → Watched Contents → GateFault → Type 0
FolderCause old new fault = (stop : FolderStop) × (fault ≡ fault_of_stop stop) × StopCause old new stop

-- the promise of the judgement of a folder under what is kept of the trust file
pub record JudgesUnder (terms : RuleTerms) (max : ℕ) (old new : Watched Contents) (result : Result (List GateLine) GateFault) : Type 0 where
  pub since : Since old new
  pub given : IfOk result (λ lines. IfTold old.told (λ contents. IsJudged (verdict_by terms max) contents lines))
  pub refused : IfErr result (FolderCause old new)
