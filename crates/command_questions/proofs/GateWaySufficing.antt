-- What is asked of the judgement of a folder in any way, and suffices.
use Rattle.std.proofs.Common.{◌≡◌, ℕ, List, map, Ok, Err, IfOk, Result, subst}
use Rattle.jiff_core.specs.declared.timestamp.Timestamp as jiff
use Rattle.foundation.specs.declared.no_memory.NoMemory.{NoMemory}
use Rattle.sigstore_policy.specs.Policy.{meaning_in}
use Rattle.sigstore_policy.specs.declared.policy.SigningPolicy.{SigningPolicy}
use Rattle.command_files.specs.declared.gather.Governed.{Governed}
use Rattle.command_files.specs.declared.tables.TableProvider.{TableProvider}
use Rattle.command_files.specs.declared.tables.Tables.{Tables}
use Rattle.command_files.specs.Tables.{crypto_of}
use Rattle.command_gate.specs.declared.judging.FolderRequest.{FolderRequest}
use Rattle.command_gate.specs.Run.{given_with, given_of}
use Rattle.command_ways.specs.declared.folder_judging.FolderCame.{FolderCame}
use Rattle.command_ways.specs.declared.layout.TrustedBy.{TrustedBy}
use Rattle.command_ways.specs.FolderJudging.{FolderOutside, GatesWay}
use Rattle.question_notes.specs.Believing.{believing}
use Rattle.question_notes.specs.declared.noted.Noted.{Noted}
use Rattle.command_questions.specs.GateWayMeans.{SufficeForFolder, Asks}

-- the run with the provider that notes
pub gated_noting : (request : FolderRequest) (by : TrustedBy) (before after : FolderOutside) (came : FolderCame) (held given : TableProvider) → held ≡ given
    → GatesWay (given_of (believing held.rows) request) by before after came → GatesWay (given_of (believing given.rows) request) by before after came
gated_noting request by before after came held given same gates =
    subst (λ (t : TableProvider). GatesWay (given_of (believing t.rows) request) by before after came) same gates

-- what holds of rules and a root that the inputs hold
of_inputs : (P : List SigningPolicy → List ℕ → Type 0) (rules held : List SigningPolicy) (root given : List ℕ) → rules ≡ held → root ≡ given
    → P rules root → P held given
of_inputs P rules held root given l r p = subst (P held) r (subst (λ x. P x root) l p)

-- what was noted is asked by the inputs, and suffices
pub asks : (by : TrustedBy) (governed : Governed) (now : jiff.Timestamp) (rules : List SigningPolicy) (root : List ℕ) (before after : FolderOutside) (came : FolderCame)
    (held : TableProvider) (noted : Result Noted NoMemory) → rules ≡ governed.rules → root ≡ governed.anchored.root → held ≡ governed.anchored.tables.provider
    → GatesWay (given_with (believing held.rows) (map meaning_in rules) root now) by before after came
    → IfOk noted (λ n. SufficeForFolder (given_with (crypto_of n.tables) (map meaning_in rules) root now).anchor came)
    → IfOk noted (λ n. Asks by governed now n.tables before after)
asks by governed now rules root before after came held (Err e) l r same gates suffice = tt
asks by governed now rules root before after came held (Ok n) l r same gates suffice =
    let given = of_inputs (λ x y. GatesWay (given_with (believing held.rows) (map meaning_in x) y now) by before after came) rules governed.rules root governed.anchored.root l r gates in
    record {
      came = came;
      gates = subst (λ (t : TableProvider). GatesWay (given_with (believing t.rows) (map meaning_in governed.rules) governed.anchored.root now) by before after came) same given;
      suffice = subst (λ (x : List ℕ). SufficeForFolder (given_with (crypto_of n.tables) (map meaning_in governed.rules) x now).anchor came) r suffice;
    }

-- at the same moment
pub asks_at : (by : TrustedBy) (governed : Governed) (now told : jiff.Timestamp) (rows : Tables) (before after : FolderOutside) → now ≡ told
    → Asks by governed now rows before after → Asks by governed told rows before after
asks_at by governed now told rows before after same a = subst (λ n. Asks by governed n rows before after) same a
