-- What is asked of the judgement of a folder, and suffices.
use Rattle.std.proofs.Common.{◌≡◌, ℕ, List, map, Ok, Err, IfOk, Result, subst}
use Rattle.jiff_core.specs.declared.timestamp.Timestamp as jiff
use Rattle.foundation.specs.declared.no_memory.NoMemory.{NoMemory}
use Rattle.sigstore_policy.specs.Policy.{meaning_in}
use Rattle.sigstore_policy.specs.declared.policy.SigningPolicy.{SigningPolicy}
use Rattle.release_gate.specs.Gate.{Outside}
use Rattle.release_gate.specs.Promises.{Promises}
use Rattle.release_gate.specs.declared.gate.Gated.{Gated}
use Rattle.release_gate.specs.declared.gate.GateFault.{GateFault}
use Rattle.command_files.specs.declared.gather.Governed.{Governed}
use Rattle.command_files.specs.declared.tables.TableProvider.{TableProvider}
use Rattle.command_files.specs.declared.tables.Tables.{Tables}
use Rattle.command_files.specs.Tables.{crypto_of}
use Rattle.command_gate.specs.declared.judging.FolderRequest.{FolderRequest}
use Rattle.command_gate.specs.Run.{given_with, given_of}
use Rattle.question_notes.specs.Believing.{believing}
use Rattle.question_notes.specs.declared.noted.Noted.{Noted}
use Rattle.command_questions.specs.GateMeans.{Asks}
use Rattle.command_questions.specs.Suffice.{SufficeForFolder}

-- the run with the provider that notes
pub gated_noting : (request : FolderRequest) (before after : Outside) (result : Result Gated GateFault) (held given : TableProvider) → held ≡ given
    → Promises (given_of (believing held.rows) request) before after result → Promises (given_of (believing given.rows) request) before after result
gated_noting request before after result held given same promises =
    subst (λ (t : TableProvider). Promises (given_of (believing t.rows) request) before after result) same promises

-- what holds of rules and a root that the inputs hold
of_inputs : (P : List SigningPolicy → List ℕ → Type 0) (rules held : List SigningPolicy) (root given : List ℕ) → rules ≡ held → root ≡ given
    → P rules root → P held given
of_inputs P rules held root given l r p = subst (P held) r (subst (λ x. P x root) l p)

-- what was noted is asked by the inputs, and suffices
pub asks : (governed : Governed) (now : jiff.Timestamp) (rules : List SigningPolicy) (root : List ℕ) (before after : Outside) (judged : Result Gated GateFault)
    (held : TableProvider) (noted : Result Noted NoMemory) → rules ≡ governed.rules → root ≡ governed.anchored.root → held ≡ governed.anchored.tables.provider
    → Promises (given_with (believing held.rows) (map meaning_in rules) root now) before after judged
    → IfOk noted (λ n. SufficeForFolder (given_with (crypto_of n.tables) (map meaning_in rules) root now).anchor judged)
    → IfOk noted (λ n. Asks governed now n.tables before after)
asks governed now rules root before after judged held (Err e) l r same promises suffice = tt
asks governed now rules root before after judged held (Ok n) l r same promises suffice =
    let given = of_inputs (λ x y. Promises (given_with (believing held.rows) (map meaning_in x) y now) before after judged) rules governed.rules root governed.anchored.root l r promises in
    record {
      judged = judged;
      promises = subst (λ (t : TableProvider). Promises (given_with (believing t.rows) (map meaning_in governed.rules) governed.anchored.root now) before after judged) same given;
      suffice = subst (λ (x : List ℕ). SufficeForFolder (given_with (crypto_of n.tables) (map meaning_in governed.rules) x now).anchor judged) r suffice;
    }

-- at the same moment
pub asks_at : (governed : Governed) (now told : jiff.Timestamp) (rows : Tables) (before after : Outside) → now ≡ told → Asks governed now rows before after
    → Asks governed told rows before after
asks_at governed now told rows before after same a = subst (λ n. Asks governed n rows before after) same a
