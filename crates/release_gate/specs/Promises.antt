-- What the gate promises, whole: the theorem that users rest on.
use Rattle.std.specs.Prelude.{◌≡◌, ◌≢◌, ◌⊎◌, ◌≤◌, List, length, Result, Ok, Err, IfOk, IfErr}
use Rattle.sigstore_tuf_text.specs.declared.error.Error.{Error as TufError}
use Rattle.sigstore_tuf_rules.specs.declared.chain.TrustChain.{TrustChain}
use Rattle.sigstore_judgement.specs.declared.error.Error.{Error}
use Rattle.sigstore_judgement.specs.declared.error.Error.TheVariants as verify
use Rattle.sigstore_judgement.specs.declared.trust.Material.{Material}
use Rattle.sigstore_verify.specs.Complete.{TellsQuietly, OffersChain, StaysWarm}
use Rattle.sigstore_verify.specs.FromRoot.{GivesChain}
use Rattle.sigstore_verify.specs.Promises.{HasStored}
use Rattle.release_gate.specs.declared.gate.GateFault.{GateFault}
use Rattle.release_gate.specs.declared.gate.GateFault.TheVariants as gate
use Rattle.release_gate.specs.declared.gate.Gated.{Gated}
use Rattle.release_gate.specs.declared.line.GateLine.{GateLine}
use Rattle.release_gate.specs.Folder.{Contents}
use Rattle.release_gate.specs.Gate.{GateInputs, Outside, places_in, kept_of, terms_of, fault_of_tuf, fault_of_trust, gated_under, IsGated}
use Rattle.release_gate.specs.Gate.{GateCause, JudgesUnder}
use Rattle.release_gate.specs.Names.{max_names, AreOnce}

-- Nothing outside fails: a chain is offered whose file is usable as the trust file, and the folder tells its files, of which it lists few,
-- and none twice.
pub record Favours (given : GateInputs) (before after : Outside) (chain : TrustChain) (contents : Contents) : Type 0 where
  pub offer : OffersChain given.anchor (places_in before) (places_in after) chain
  pub material : Material
  pub usable : kept_of chain.file ≡ Ok material
  pub folder : TellsQuietly before.folder after.folder contents
  pub few : length contents.names ≤ max_names
  pub once : AreOnce contents.names

-- the folder was judged under the chain
pub record IsJudgedUnder (chain : TrustChain) (result : Result Gated GateFault) : Type 0 where
  pub gated : Gated
  pub is : result ≡ Ok gated
  pub same : gated.chain ≡ chain

-- Then the folder is judged under that chain, or memory is wanting; and the store stays warm.
abbrev pub Completes : GateInputs → Outside → Outside → Result Gated GateFault → Type 0
Completes given before after result =
    (chain : TrustChain) (contents : Contents) (favours : Favours given before after chain contents)
    → (result ≡ Err gate.NoMemory) ⊎ (IsJudgedUnder chain result × StaysWarm after.store favours.offer)

-- The gate is the chain, then the trust file, then the folder; the first that refuses answers, and what the repository and the store
-- were asked, and what the store keeps, is what the chain's walk from the root says, whatever the answer is.
pub data Runs (given : GateInputs) (before after : Outside) (result : Result Gated GateFault) : Type 0 where
  chain_refused : (e : TufError) → GivesChain given.anchor before.repo after.repo before.store after.store (Err e)
      → after.folder ≡ before.folder → result ≡ Err (fault_of_tuf e) → Runs given before after result
  trust_refused : (chain : TrustChain) (e : Error) → GivesChain given.anchor before.repo after.repo before.store after.store (Ok chain)
      → (e ≢ verify.NoMemory → kept_of chain.file ≡ Err e) → after.folder ≡ before.folder → result ≡ Err (fault_of_trust e chain)
      → Runs given before after result
  folder_judged : (chain : TrustChain) (material : Material) (judged : Result (List GateLine) GateFault)
      → GivesChain given.anchor before.repo after.repo before.store after.store (Ok chain) → kept_of chain.file ≡ Ok material
      → JudgesUnder (terms_of given material) given.max before.folder after.folder judged → result ≡ gated_under chain judged
      → Runs given before after result

-- what Ok means, what each refusal means, which call answers, when the answer has to be Ok, and what the store then has
pub record Promises (given : GateInputs) (before after : Outside) (result : Result Gated GateFault) : Type 0 where
  pub accepted : IfOk result (IsGated given before)
  pub refused : IfErr result (GateCause given before after)
  pub runs : Runs given before after result
  pub complete : Completes given before after result
  pub stored : IfOk result (λ gated. HasStored (places_in before) (places_in after) gated.chain)
