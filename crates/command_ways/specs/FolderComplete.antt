-- When `gate` in any way has to judge a folder: where nothing outside fails.
use Rattle.std.specs.Prelude.{◌≡◌, ℕ, ◌≤◌, List, length, Ok}
use Rattle.foundation.specs.Watched.{Watched}
use Rattle.sigstore_judgement.specs.declared.trust.Material.{Material}
use Rattle.sigstore_verify.specs.Complete.{TellsQuietly}
use Rattle.release_gate.specs.Folder.{Contents}
use Rattle.release_gate.specs.Gate.{GateInputs, kept_of, terms_of}
use Rattle.release_gate.specs.Names.{max_names, AreOnce}
use Rattle.release_gate.specs.Verdict.{verdict_by}
use Rattle.release_gate.specs.Walk.{IsJudged}
use Rattle.release_gate.specs.declared.line.GateLine.{GateLine}
use Rattle.command_files.specs.Ending.{TakesAll, OrFails}
use Rattle.command_files.specs.Gather.{governed_of}
use Rattle.command_files.specs.Inputs.{Held, watched}
use Rattle.command_files.specs.Starting.{Command, now_of}
use Rattle.command_files.specs.declared.answer.Status.{Status}
use Rattle.command_files.specs.declared.gather.Governed.{Governed}
use Rattle.command_gate.specs.Lines.{lines_text, status_by}
use Rattle.command_gate.specs.Run.{given_by}
use Rattle.command_ways.specs.declared.folder_words.FolderLayout.{FolderLayout}
use Rattle.command_ways.specs.declared.trust.Trust.{Trust}
use Rattle.command_ways.specs.Complete.{OffersTrust}
use Rattle.command_ways.specs.FolderLayout.{folder_layout_of}
use Rattle.command_ways.specs.FolderRun.{Environment}
use Rattle.command_ways.specs.Trust.{file_of}

-- The words meet their grammar, told inputs are read without a fault and are these, and nothing fails of what the judgement goes to: a
-- usable trusted root is offered by the way that the words tell, and the folder tells its files, of which it lists few, and none twice.
pub record Favoured (command : Command) (before after : Environment) (trust : Trust) (contents : Contents) : Type 0 where
  pub layout : FolderLayout
  pub worded : folder_layout_of command.words ≡ Ok layout
  pub held : Held
  pub inputs : TellsQuietly (watched before.inputs) (watched after.inputs) held
  pub governed : Governed
  pub governed_is : governed_of held ≡ Ok governed
  pub offers : OffersTrust (given_by governed (now_of layout.places command.clock)).anchor layout.by before.outside.sources after.outside.sources
      trust
  pub material : Material
  pub usable : kept_of (file_of trust) ≡ Ok material
  pub folder : TellsQuietly before.outside.folder after.outside.folder contents
  pub few : length contents.names ≤ max_names
  pub once : AreOnce contents.names

abbrev pub favoured_in : {command : Command} {before after : Environment} {trust : Trust} {contents : Contents}
    → Favoured command before after trust contents → GateInputs
favoured_in {command} f = given_by f.governed (now_of f.layout.places command.clock)

-- the lines on the folder under the trusted root were taken whole, and the status is theirs
pub record WritesLines {command : Command} {before after : Environment} {trust : Trust} {contents : Contents}
    (f : Favoured command before after trust contents) (out out' : Watched (List ℕ)) (ended : Status) : Type 0 where
  pub lines : List GateLine
  pub judged : IsJudged (verdict_by (terms_of (favoured_in f) f.material) (favoured_in f).max) contents lines
  pub written : TakesAll out out' (lines_text lines)
  pub ended_is : ended ≡ status_by lines

-- Then the lines on the folder are written, with status 0 where all are admitted and 1 where not; or memory was wanting, or the sink failed.
abbrev pub Completes : Command → Environment → Environment → Watched (List ℕ) → Watched (List ℕ) → Status → Type 0
Completes command before after out out' ended =
    (trust : Trust) (contents : Contents) (f : Favoured command before after trust contents)
    → OrFails out out' ended (WritesLines f out out' ended)
