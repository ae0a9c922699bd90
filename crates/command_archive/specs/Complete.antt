-- When `archive` has to write a chain's archive: where nothing outside fails.
use Rattle.std.specs.Prelude.{◌≡◌, ℕ, List, Ok}
use Rattle.foundation.specs.Watched.{Watched}
use Rattle.sigstore_tuf_rules.specs.declared.chain.TrustChain.{TrustChain}
use Rattle.sigstore_verify.specs.Inputs.{Anchor}
use Rattle.sigstore_verify.specs.Complete.{TellsQuietly, OffersChain, StaysWarm}
use Rattle.trust_archive.specs.Spelling.{spelling_of}
use Rattle.command_files.specs.Inputs.{Held, watched}
use Rattle.command_files.specs.Gather.{anchored_of}
use Rattle.command_files.specs.declared.gather.Anchored.{Anchored}
use Rattle.command_files.specs.declared.layout.Layout.{Layout}
use Rattle.command_files.specs.Ending.{TakesAll, OrFails}
use Rattle.command_files.specs.Starting.{Command, now_of}
use Rattle.command_files.specs.declared.answer.Status.{Status}
use Rattle.command_files.specs.declared.answer.Status.TheVariants as status
use Rattle.command_verify.specs.Run.{anchor_of}
use Rattle.command_archive.specs.Layout.{archive_layout_of}
use Rattle.command_archive.specs.Run.{Environment}

-- the words are those of the command, and told inputs are read without a fault and are these
pub record Favoured (command : Command) (before after : Environment) : Type 0 where
  pub layout : Layout
  pub worded : archive_layout_of command.words ≡ Ok layout
  pub held : Held
  pub inputs : TellsQuietly (watched before.inputs) (watched after.inputs) held
  pub anchored : Anchored
  pub anchored_is : anchored_of held ≡ Ok anchored

-- from what the chain is trusted
abbrev pub anchor_in : {command : Command} {before after : Environment} → Favoured command before after → Anchor
anchor_in {command = command} f = anchor_of f.anchored (now_of f.layout command.clock)

-- the chain's archive was taken whole
pub record WritesChain (chain : TrustChain) (out out' : Watched (List ℕ)) (ended : Status) : Type 0 where
  pub bytes : List ℕ
  pub spells : spelling_of chain ≡ Ok bytes
  pub written : TakesAll out out' bytes
  pub accepted : ended ≡ status.Accepted

-- Where the repository offers a chain over a told store, `archive` writes its archive, and the store stays warm.
abbrev pub Completes : Command → Environment → Environment → Watched (List ℕ) → Watched (List ℕ) → Status → Type 0
Completes command before after out out' ended =
    (chain : TrustChain) (f : Favoured command before after)
    (offer : OffersChain (anchor_in f) before.outside after.outside chain)
    → OrFails out out' ended (WritesChain chain out out' ended × StaysWarm after.outside.store offer)
