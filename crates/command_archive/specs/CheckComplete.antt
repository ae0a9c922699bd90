-- When `check` has to trust an archive, and when it has to refuse an older one: where nothing outside fails.
use Rattle.std.specs.Prelude.{◌≡◌, ℕ, ◌≤◌, List, length, codes, Ok}
use Rattle.foundation.specs.Watched.{Watched}
use Rattle.sigstore_tuf_outside.specs.Repository.{Quiet}
use Rattle.sigstore_tuf_rules.specs.declared.chain.TrustChain.{TrustChain}
use Rattle.sigstore_verify.specs.Complete.{TellsQuietly}
use Rattle.command_files.specs.Ending.{TakesAll, OrFails}
use Rattle.command_files.specs.Gather.{anchored_of}
use Rattle.command_files.specs.Inputs.{Held, watched}
use Rattle.command_files.specs.Starting.{Command, now_of}
use Rattle.command_files.specs.declared.answer.Status.{Status}
use Rattle.command_files.specs.declared.answer.Status.TheVariants as status
use Rattle.command_files.specs.declared.gather.Anchored.{Anchored}
use Rattle.command_verify.specs.Report.{chain_text}
use Rattle.command_verify.specs.Run.{anchor_of}
use Rattle.command_archive.specs.declared.check_words.CheckLayout.{CheckLayout}
use Rattle.command_archive.specs.Check.{IsRecent, IsOlder, rollback_answer}
use Rattle.command_archive.specs.CheckRun.{Environment, Delivers}
use Rattle.command_archive.specs.Layout.{check_layout_of}
use Rattle.command_archive.specs.Reading.{max_archive, Holds}

-- the words are those of `check`, told inputs are read without a fault and are these, the source tells bytes within the limit, which hold
-- a trusted chain, and nothing fails where its file is put
pub record Favoured (command : Command) (before after : Environment) (chain : TrustChain) : Type 0 where
  pub layout : CheckLayout
  pub worded : check_layout_of command.words ≡ Ok layout
  pub held : Held
  pub inputs : TellsQuietly (watched before.inputs) (watched after.inputs) held
  pub anchored : Anchored
  pub anchored_is : anchored_of held ≡ Ok anchored
  pub bytes : List ℕ
  pub archive : TellsQuietly before.outside.archive after.outside.archive bytes
  pub short : length bytes ≤ max_archive
  pub holds : Holds (anchor_of anchored (now_of layout.places command.clock)) bytes chain
  pub shelf : Quiet before.outside.shelf.faults after.outside.shelf.faults

-- that the chain is trusted was taken whole, with the lines on it, and its file is in its place, where one is told
pub record TrustsWhole {command : Command} {before after : Environment} {chain : TrustChain} (f : Favoured command before after chain)
    (out out' : Watched (List ℕ)) (ended : Status) : Type 0 where
  pub delivered : Delivers f.layout.trusted_root chain.file before.outside.shelf after.outside.shelf
  pub text : List ℕ
  pub lines : chain_text (codes "trusted") chain ≡ Ok text
  pub written : TakesAll out out' text
  pub accepted : ended ≡ status.Accepted

-- that it is older than it may be was taken whole, and nothing was put in place
pub record RefusesOlder (before after : Environment) (out out' : Watched (List ℕ)) (ended : Status) : Type 0 where
  pub untouched : after.outside.shelf ≡ before.outside.shelf
  pub written : TakesAll out out' rollback_answer.text
  pub refused : ended ≡ status.Refused

-- Where nothing outside fails, `check` trusts a chain of the least version or a later one, and refuses one of a lower version.
abbrev pub Completes : Command → Environment → Environment → Watched (List ℕ) → Watched (List ℕ) → Status → Type 0
Completes command before after out out' ended =
    (chain : TrustChain) (f : Favoured command before after chain)
    → (IsRecent f.layout.least chain → OrFails out out' ended (TrustsWhole f out out' ended))
    × (IsOlder f.layout.least chain → OrFails out out' ended (RefusesOlder before after out out' ended))
