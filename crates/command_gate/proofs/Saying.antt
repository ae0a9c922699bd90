-- What the parts of a run say of the whole.
use Rattle.std.proofs.Common.{◌≡◌, List, ℕ, map, Some, Result, Ok, Err, IfOk, subst}
use Rattle.jiff_core.specs.declared.timestamp.Timestamp as jiff
use Rattle.foundation.specs.declared.no_memory.NoMemory.{NoMemory}
use Rattle.sigstore_keys.specs.Crypto.{Crypto}
use Rattle.sigstore_policy.specs.Policy.{Meaning, meaning_in}
use Rattle.sigstore_policy.specs.declared.policy.SigningPolicy.{SigningPolicy}
use Rattle.sigstore_tuf_rules.specs.Config.{default_config}
use Rattle.sigstore_tuf_rules.specs.declared.config.UpdaterConfig.{UpdaterConfig}
use Rattle.sigstore_verify.specs.Inputs.{anchor_by}
use Rattle.release_gate.specs.Gate.{GateInputs, gate_inputs_by, Outside}
use Rattle.release_gate.specs.Promises.{Promises}
use Rattle.release_gate.specs.declared.gate.Gated.{Gated}
use Rattle.release_gate.specs.declared.gate.GateFault.{GateFault}
use Rattle.command_files.specs.Tables.{crypto_of}
use Rattle.command_files.specs.declared.answer.Answer.{Answer}
use Rattle.command_files.specs.declared.gather.Governed.{Governed}
use Rattle.command_verify.specs.Run.{max_artifact}
use Rattle.command_gate.specs.Run.{given_with, given_by, answer_of, Resting, Judges}

-- what holds of the gate's call holds within the program's limits
pub on_folder : (P : GateInputs → Type 0) (crypto : Crypto) (rules : List Meaning) (root : List ℕ) (now : jiff.Timestamp) (config : UpdaterConfig)
    → config ≡ default_config → P (gate_inputs_by (anchor_by crypto root config now) rules max_artifact) → P (given_with crypto rules root now)
on_folder P crypto rules root now config e h = subst (λ (x : UpdaterConfig). P (gate_inputs_by (anchor_by crypto root x now) rules max_artifact)) e h

-- the folder was judged, and this is said of it
module _ (resting : Resting) (governed : Governed) (now : jiff.Timestamp) (before after : Outside) where
  abbrev Given : List SigningPolicy → List ℕ → GateInputs
  Given rules root = given_with (crypto_of governed.anchored.tables) (map meaning_in rules) root now

  pub judged_said : (rules : List SigningPolicy) (root : List ℕ) (r : Result Gated GateFault) (result : Result Answer NoMemory)
      → rules ≡ governed.rules → root ≡ governed.anchored.root → Promises (Given rules root) before after r → resting (Given rules root) r
      → IfOk result (λ said. answer_of r ≡ Some said) → IfOk result (Judges resting (given_by governed now) before after)
  judged_said rules root r (Err e) l i p t s = tt
  judged_said rules root r (Ok said) l i p t s = record {
    judged = r;
    promises = subst (λ x. Promises (Given governed.rules x) before after r) i (subst (λ x. Promises (Given x root) before after r) l p);
    rests = subst (λ x. resting (Given governed.rules x) r) i (subst (λ x. resting (Given x root) r) l t);
    says = s;
  }

-- at the same moment
pub judges_at : (resting : Resting) (governed : Governed) (now told : jiff.Timestamp) (before after : Outside) (result : Result Answer NoMemory)
    → now ≡ told → IfOk result (Judges resting (given_by governed now) before after) → IfOk result (Judges resting (given_by governed told) before after)
judges_at resting governed now told before after result same h = subst (λ n. IfOk result (Judges resting (given_by governed n) before after)) same h
