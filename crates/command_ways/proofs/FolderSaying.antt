-- What the parts of a run of `gate` in any way say of the whole.
use Rattle.std.proofs.Common.{◌≡◌, ◌≢◌, ℕ, List, map, Some, Result, Ok, Err, IfOk, sym, subst}
use Rattle.jiff_core.specs.declared.timestamp.Timestamp as jiff
use Rattle.foundation.specs.declared.no_memory.NoMemory.{NoMemory as OutOfMemory}
use Rattle.sigstore_policy.specs.Policy.{meaning_in}
use Rattle.sigstore_policy.specs.declared.policy.SigningPolicy.{SigningPolicy}
use Rattle.sigstore_judgement.specs.declared.error.Error.TheVariants.{NoMemory}
use Rattle.release_gate.specs.Gate.{GateInputs, kept_of}
use Rattle.command_files.specs.Tables.{crypto_of}
use Rattle.command_files.specs.declared.answer.Answer.{Answer}
use Rattle.command_files.specs.declared.gather.Governed.{Governed}
use Rattle.command_gate.specs.Run.{given_with, given_by}
use Rattle.command_ways.specs.declared.folder_judging.FolderCame.{FolderCame}
use Rattle.command_ways.specs.declared.folder_judging.FolderCame.TheVariants.{Untrusted, Unusable, Judged}
use Rattle.command_ways.specs.declared.layout.TrustedBy.{TrustedBy}
use Rattle.command_ways.specs.declared.trust.Trust.{Trust}
use Rattle.command_ways.specs.FolderJudging.{FolderOutside, JudgesFolder, GatesUnder, GatesWay}
use Rattle.command_ways.specs.FolderRun.{came_answer, Resting, JudgesWay}
use Rattle.command_ways.specs.Trust.{file_of, IsTrusted, GivesTrust}
use Rattle.command_ways.proofs.Trusting.{given_trusted}

-- a folder that was judged under a trusted root was judged by the way that gave it
module _ (given : GateInputs) (by : TrustedBy) (before after : FolderOutside) (trust : Trust) (g : GivesTrust given.anchor by before.sources after.sources (Ok trust)) where
  given_as : (found : Trust) → found ≡ trust → GivesTrust given.anchor by before.sources after.sources (Ok found)
  given_as found same = subst (λ (t : Trust). GivesTrust given.anchor by before.sources after.sources (Ok t)) (sym same) g

  trusted_as : (found : Trust) → found ≡ trust → IsTrusted given.anchor found
  trusted_as found same = given_trusted given.anchor by before.sources after.sources found (given_as found same)

  pub way_of : (came : FolderCame) → GatesUnder given trust before.folder after.folder came → GatesWay given by before after came
  way_of (Untrusted why) u = absurd u
  way_of (Unusable found e) (same, unusable, kept) = (
    given_as found same,
    trusted_as found same,
    subst (λ (t : Trust). e ≢ NoMemory → kept_of (file_of t) ≡ Err e) (sym same) unusable,
    kept,
  )
  way_of (Judged found judged) (same, j) = (
    given_as found same,
    trusted_as found same,
    subst (λ (t : Trust). JudgesFolder given (file_of t) before.folder after.folder judged) (sym same) j,
  )

-- the folder was judged, and this is said of it
module _ (resting : Resting) (by : TrustedBy) (governed : Governed) (now : jiff.Timestamp) (before after : FolderOutside) where
  abbrev Given : List SigningPolicy → List ℕ → GateInputs
  Given rules root = given_with (crypto_of governed.anchored.tables) (map meaning_in rules) root now

  at_inputs : (P : GateInputs → Type 0) (rules : List SigningPolicy) (root : List ℕ) → rules ≡ governed.rules → root ≡ governed.anchored.root
      → P (Given rules root) → P (given_by governed now)
  at_inputs P rules root l i h = subst (λ x. P (Given governed.rules x)) i (subst (λ (x : List SigningPolicy). P (Given x root)) l h)

  pub judged_said : (rules : List SigningPolicy) (root : List ℕ) (came : FolderCame) (result : Result Answer OutOfMemory)
      → rules ≡ governed.rules → root ≡ governed.anchored.root → GatesWay (Given rules root) by before after came
      → resting (Given rules root) came → IfOk result (λ said. came_answer came ≡ Some said)
      → IfOk result (JudgesWay resting by (given_by governed now) before after)
  judged_said rules root came (Err e) l i g t s = tt
  judged_said rules root came (Ok said) l i g t s = record {
    came = came;
    gates = at_inputs (λ given. GatesWay given by before after came) rules root l i g;
    rests = at_inputs (λ given. resting given came) rules root l i t;
    says = s;
  }

-- at the same moment
pub judges_at : (resting : Resting) (by : TrustedBy) (governed : Governed) (now told : jiff.Timestamp) (before after : FolderOutside) (result : Result Answer OutOfMemory)
    → now ≡ told → IfOk result (JudgesWay resting by (given_by governed now) before after) → IfOk result (JudgesWay resting by (given_by governed told) before after)
judges_at resting by governed now told before after result same h = subst (λ n. IfOk result (JudgesWay resting by (given_by governed n) before after)) same h
