-- A run of `gate`: what it says, and why.
use Rattle.std.specs.Prelude.{◌≡◌, ◌⊎◌, ℕ, List, map, codes, true, false, Option, Some, None, Result, Ok, Err, IfOk, ⊤}
use Rattle.jiff_core.specs.declared.timestamp.Timestamp as jiff
use Rattle.foundation.specs.Watched.{Watched, Rose}
use Rattle.foundation.specs.declared.no_memory.NoMemory.{NoMemory}
use Rattle.sigstore_keys.specs.Crypto.{Crypto}
use Rattle.sigstore_policy.specs.Policy.{Meaning, meaning_in}
use Rattle.sigstore_tuf_rules.specs.Config.{default_config}
use Rattle.sigstore_tuf_outside.specs.Repository.{Files, Folders}
use Rattle.sigstore_verify.specs.Inputs.{anchor_by}
use Rattle.release_gate.specs.Folder.{Contents}
use Rattle.release_gate.specs.Gate.{GateInputs, gate_inputs_by, Outside, outside_by, IsGated, GateCause}
use Rattle.release_gate.specs.Promises.{Promises}
use Rattle.release_gate.specs.declared.gate.Gated.{Gated}
use Rattle.release_gate.specs.declared.gate.GateFault.{GateFault}
use Rattle.release_gate.specs.declared.gate.GateFault.TheVariants as gate
use Rattle.command_files.specs.Answer.{answer}
use Rattle.command_files.specs.Ending.{TakesAll}
use Rattle.command_files.specs.Gather.{governed_of}
use Rattle.command_files.specs.Inputs.{Supply}
use Rattle.command_files.specs.Printed.{pair_line}
use Rattle.command_files.specs.Starting as start
use Rattle.command_files.specs.Starting.{Command, now_of, Begins, Decides, Misuses, LacksInput}
use Rattle.command_files.specs.Tables.{crypto_of}
use Rattle.command_files.specs.declared.answer.Answer.{Answer}
use Rattle.command_files.specs.declared.answer.Status.{Status}
use Rattle.command_files.specs.declared.answer.Status.TheVariants as status
use Rattle.command_files.specs.declared.gather.Governed.{Governed}
use Rattle.command_files.specs.declared.layout.Layout.{Layout}
use Rattle.command_verify.specs.Run.{tuf_answer, verify_answer, max_artifact}
use Rattle.command_gate.specs.declared.judging.FolderRequest.{FolderRequest}
use Rattle.command_gate.specs.Layout.{gate_layout_of}
use Rattle.command_gate.specs.Lines.{lines_text, all_admitted, lines_answer}

-- ---- what is given

-- what the judgement of a folder is given: who decides signatures and reads armoured texts, the rules, the root, the program's limits, and
-- the moment
abbrev pub given_with : Crypto → List Meaning → List ℕ → jiff.Timestamp → GateInputs
given_with crypto rules root now = gate_inputs_by (anchor_by crypto root default_config now) rules max_artifact

-- what is asked for
abbrev pub given_of : Crypto → FolderRequest → GateInputs
given_of crypto request = given_with crypto (map meaning_in request.rules.now) request.root.now request.moment

-- what the inputs ask for, but for their tables
abbrev pub given_under : Crypto → Governed → jiff.Timestamp → GateInputs
given_under crypto governed now = given_with crypto (map meaning_in governed.rules) governed.anchored.root now

-- the same of the inputs, whose tables decide
abbrev pub given_by : Governed → jiff.Timestamp → GateInputs
given_by governed now = given_under (crypto_of governed.anchored.tables) governed now

-- what a run finds and leaves, but for its output
abbrev pub Environment : Type 0
Environment = start.Environment Outside

abbrev pub environment_by : Supply → Watched Folders → Watched Files → Watched Contents → Environment
environment_by inputs repo store folder = record { inputs = inputs; outside = outside_by repo store folder }

-- ---- what is said

-- an input that is the folder, by what is wrong with it
abbrev pub folder_answer : List ℕ → Answer
folder_answer what = answer status.Input (pair_line (codes "input") what)

-- what is said of a folder that isn't judged; nothing where memory is wanting
unfoldable pub fault_answer : GateFault → Option Answer
fault_answer (gate.Tuf e) = Some (tuf_answer e)
fault_answer (gate.Trust fault chain) = Some (verify_answer fault)
fault_answer gate.FolderFailed = Some (folder_answer (codes "folder"))
fault_answer (gate.TooManyNames count) = Some (folder_answer (codes "folder count"))
fault_answer (gate.DoubledName name) = Some (folder_answer (codes "folder doubled"))
fault_answer (gate.Vanished name) = Some (folder_answer (codes "folder vanished"))
fault_answer gate.NoMemory = None

-- the lines of a folder that was judged, or why it wasn't
abbrev pub answer_of : Result Gated GateFault → Option Answer
answer_of (Ok gated) = Some (lines_answer gated.lines)
answer_of (Err fault) = fault_answer fault

-- ---- why it is said

-- on what the judgement of the folder rests, of any folder
abbrev pub Resting : Type 1
Resting = GateInputs → Result Gated GateFault → Type 0

-- The folder is judged, and what is said is said of that.
pub record Judges (resting : Resting) (given : GateInputs) (before after : Outside) (said : Answer) : Type 0 where
  pub judged : Result Gated GateFault
  pub promises : Promises given before after judged
  pub rests : resting given judged
  pub says : answer_of judged ≡ Some said

-- The words first, then the inputs, then the folder.
abbrev pub Says : Resting → Command → Environment → Environment → Result Answer NoMemory → Type 0
Says resting command before after result =
    Decides (gate_layout_of command.words) governed_of (λ said. said)
    (λ layout governed old new said. IfOk said (Judges resting (given_by governed (now_of layout command.clock)) old new)) before after result

-- ---- what each status means

-- the words give a layout, and the inputs were read
pub record Asked (command : Command) (before after : Environment) : Type 0 where
  pub layout : Layout
  pub governed : Governed
  pub read : Begins (gate_layout_of command.words) governed_of before.inputs after.inputs layout governed

abbrev pub given_in : {command : Command} {before after : Environment} → Asked command before after → GateInputs
given_in {command} asked = given_by asked.governed (now_of asked.layout command.clock)

-- the folder was judged, and the sink took exactly its lines
pub record Gates (command : Command) (before after : Environment) (out out' : Watched (List ℕ)) : Type 0 where
  pub asked : Asked command before after
  pub gated : Gated
  pub judged : IsGated (given_in asked) before.outside gated
  pub written : TakesAll out out' (lines_text gated.lines)

-- all are admitted
pub record Admits (command : Command) (before after : Environment) (out out' : Watched (List ℕ)) : Type 0 where
  pub gates : Gates command before after out out'
  pub all : all_admitted gates.gated.lines ≡ true

-- some are denied
pub record Denies (command : Command) (before after : Environment) (out out' : Watched (List ℕ)) : Type 0 where
  pub gates : Gates command before after out out'
  pub some : all_admitted gates.gated.lines ≡ false

-- the folder isn't judged, for a cause that has this status, and the sink took exactly the line that says so
pub record Faults (command : Command) (before after : Environment) (out out' : Watched (List ℕ)) (ended : Status) : Type 0 where
  pub asked : Asked command before after
  pub fault : GateFault
  pub cause : GateCause (given_in asked) before.outside after.outside fault
  pub said : Answer
  pub line : fault_answer fault ≡ Some said
  pub is : said.status ≡ ended
  pub written : TakesAll out out' said.text

-- What each status means. 0: every line admits. 1: some line denies, or there are none, since no chain is trusted or its trust file
-- can't be used. 3: an input, or the folder. 4: the count of the sink's faults rose. 5: nothing was written.
abbrev pub Means : Command → Environment → Environment → Watched (List ℕ) → Watched (List ℕ) → Status → Type 0
Means command before after out out' status.Accepted = Admits command before after out out'
Means command before after out out' status.Refused = Denies command before after out out' ⊎ Faults command before after out out' status.Refused
Means command before after out out' status.Usage = Misuses (gate_layout_of command.words) before after out out'
Means command before after out out' status.Input = LacksInput before after out out' ⊎ Faults command before after out out' status.Input
Means command before after out out' status.Output = Rose out.faults out'.faults
Means command before after out out' status.Memory = out' ≡ out

-- ---- on what it rests

-- what was written is said of a judgement that rests on what the folder gave
pub record WritesRested (resting : Resting) (command : Command) (before after : Environment) (out out' : Watched (List ℕ)) (ended : Status)
    : Type 0 where
  pub asked : Asked command before after
  pub judged : Result Gated GateFault
  pub rests : resting (given_in asked) judged
  pub said : Answer
  pub says : answer_of judged ≡ Some said
  pub is : said.status ≡ ended
  pub written : TakesAll out out' said.text

-- so are 0 and 1, and 3 where it isn't an input's
abbrev pub Rested : Resting → Command → Environment → Environment → Watched (List ℕ) → Watched (List ℕ) → Status → Type 0
Rested resting command before after out out' status.Accepted = WritesRested resting command before after out out' status.Accepted
Rested resting command before after out out' status.Refused = WritesRested resting command before after out out' status.Refused
Rested resting command before after out out' status.Usage = ⊤
Rested resting command before after out out' status.Input =
    LacksInput before after out out' ⊎ WritesRested resting command before after out out' status.Input
Rested resting command before after out out' status.Output = ⊤
Rested resting command before after out out' status.Memory = ⊤
