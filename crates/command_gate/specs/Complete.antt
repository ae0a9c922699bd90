-- When `gate` has to judge a folder: where nothing outside fails.
use Rattle.std.specs.Prelude.{◌≡◌, ℕ, List, Ok}
use Rattle.foundation.specs.Watched.{Watched}
use Rattle.sigstore_tuf_rules.specs.declared.chain.TrustChain.{TrustChain}
use Rattle.sigstore_verify.specs.Complete.{TellsQuietly, StaysWarm}
use Rattle.release_gate.specs.Folder.{Contents}
use Rattle.release_gate.specs.Gate.{GateInputs, Outside, IsGated}
use Rattle.release_gate.specs.Promises.{Favours}
use Rattle.release_gate.specs.declared.gate.Gated.{Gated}
use Rattle.command_files.specs.Inputs.{Held, watched}
use Rattle.command_files.specs.Gather.{governed_of}
use Rattle.command_files.specs.declared.gather.Governed.{Governed}
use Rattle.command_files.specs.Ending.{TakesAll, OrFails}
use Rattle.command_files.specs.Starting.{Command, now_of}
use Rattle.command_files.specs.declared.answer.Status.{Status}
use Rattle.command_files.specs.declared.layout.Layout.{Layout}
use Rattle.command_gate.specs.Layout.{gate_layout_of}
use Rattle.command_gate.specs.Lines.{lines_text, status_by}
use Rattle.command_gate.specs.Run.{Environment, given_by}

-- The words meet their grammar, told inputs are read without a fault and are these, and nothing fails of what the judgement goes to: a
-- chain is offered whose file is usable as the trust file, and the folder tells its files, of which it lists few, and none twice.
pub record Favoured (command : Command) (before after : Environment) (chain : TrustChain) (contents : Contents) : Type 0 where
  pub layout : Layout
  pub worded : gate_layout_of command.words ≡ Ok layout
  pub held : Held
  pub inputs : TellsQuietly (watched before.inputs) (watched after.inputs) held
  pub governed : Governed
  pub governed_is : governed_of held ≡ Ok governed
  pub outside : Favours (given_by governed (now_of layout command.clock)) before.outside after.outside chain contents

abbrev pub favoured_in : {command : Command} {before after : Environment} {chain : TrustChain} {contents : Contents}
    → Favoured command before after chain contents → GateInputs
favoured_in {command} f = given_by f.governed (now_of f.layout command.clock)

-- the folder was judged under the chain, its lines were taken whole, and the status is theirs
pub record WritesLines (given : GateInputs) (before : Outside) (chain : TrustChain) (out out' : Watched (List ℕ)) (ended : Status) : Type 0 where
  pub gated : Gated
  pub same : gated.chain ≡ chain
  pub judged : IsGated given before gated
  pub written : TakesAll out out' (lines_text gated.lines)
  pub ended_is : ended ≡ status_by gated.lines

-- Then the lines on the folder are written, with status 0 where all are admitted and 1 where not, and the store stays warm; or memory was
-- wanting, or the sink failed.
abbrev pub Completes : Command → Environment → Environment → Watched (List ℕ) → Watched (List ℕ) → Status → Type 0
Completes command before after out out' ended =
    (chain : TrustChain) (contents : Contents) (f : Favoured command before after chain contents)
    → OrFails out out' ended (WritesLines (favoured_in f) before.outside chain out out' ended
    × StaysWarm after.outside.store f.outside.offer)
