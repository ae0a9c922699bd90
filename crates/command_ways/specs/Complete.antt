-- When a run of `verify` in any way has to accept, and what it says where it hasn't to: where nothing outside fails.
use Rattle.std.specs.Prelude.{◌≡◌, ℕ, ◌≤◌, List, length, Option, Some, None, Result, Ok, Err, ⊤}
use Rattle.foundation.specs.Watched.{Watched}
use Rattle.sigstore_tuf_rules.specs.declared.chain.TrustChain.{TrustChain}
use Rattle.sigstore_judgement.specs.declared.rules.JudgedByRule.{JudgedByRule}
use Rattle.sigstore_judgement.specs.declared.rules.RulesError.{RulesError}
use Rattle.sigstore_verify.specs.Complete.{TellsQuietly, OffersChain}
use Rattle.sigstore_verify.specs.Inputs.{Anchor}
use Rattle.command_files.specs.Answer.{answer}
use Rattle.command_files.specs.Ending.{TakesAll, OrFails}
use Rattle.command_files.specs.Gather.{gathered_of}
use Rattle.command_files.specs.Inputs.{Held, watched}
use Rattle.command_files.specs.Starting.{Command, now_of}
use Rattle.command_files.specs.declared.answer.Answer.{Answer}
use Rattle.command_files.specs.declared.answer.Status.{Status}
use Rattle.command_files.specs.declared.answer.Status.TheVariants as status
use Rattle.command_files.specs.declared.gather.Gathered.{Gathered}
use Rattle.command_verify.specs.Run.{max_artifact}
use Rattle.command_archive.specs.Reading.{max_archive, Holds}
use Rattle.command_ways.specs.declared.layout.TrustedBy.{TrustedBy}
use Rattle.command_ways.specs.declared.layout.TrustedBy.TheVariants as way
use Rattle.command_ways.specs.declared.layout.WayLayout.{WayLayout}
use Rattle.command_ways.specs.declared.report.Telling.{Telling}
use Rattle.command_ways.specs.declared.trust.Trust.{Trust}
use Rattle.command_ways.specs.declared.trust.Trust.TheVariants.{Chain, File}
use Rattle.command_ways.specs.Digests.{Digest}
use Rattle.command_ways.specs.Judging.{verdict_over}
use Rattle.command_ways.specs.Layout.{way_layout_of}
use Rattle.command_ways.specs.Report.{way_text, refused_answer}
use Rattle.command_ways.specs.Run.{Environment, anchor_for, asked_for, telling_of}
use Rattle.command_ways.specs.Trust.{Sources, places_of, file_of}

-- ---- the outside

-- an archive that tells bytes within the limit, which hold the chain
pub record TellsArchive (anchor : Anchor) (old new : Watched (List ℕ)) (chain : TrustChain) : Type 0 where
  pub bytes : List ℕ
  pub told : TellsQuietly old new bytes
  pub short : length bytes ≤ max_archive
  pub holds : Holds anchor bytes chain

-- Nothing fails where the trusted root comes from: the repository offers this chain over a told store; the archive holds it; or the caller
-- handed the file in.
abbrev pub OffersTrust : Anchor → TrustedBy → Sources → Sources → Trust → Type 0
OffersTrust anchor way.Repository before after trust =
    (chain : TrustChain) × (trust ≡ Chain chain) × OffersChain anchor (places_of before) (places_of after) chain
OffersTrust anchor way.Archive before after trust =
    (chain : TrustChain) × (trust ≡ Chain chain) × TellsArchive anchor before.archive after.archive chain
OffersTrust anchor way.Caller before after trust = trust ≡ File anchor.root

-- nor where the artifact comes from, unless it is told by digests: its source tells these bytes, within the limit
abbrev pub TellsSubject : Option (List Digest) → Watched (List ℕ) → Watched (List ℕ) → List ℕ → Type 0
TellsSubject None old new bytes = TellsQuietly old new bytes × length bytes ≤ max_artifact
TellsSubject (Some told) old new bytes = ⊤

-- the words meet their grammar, told inputs are read without a fault and are these, and nothing fails outside
pub record Favoured (command : Command) (before after : Environment) (trust : Trust) (bytes : List ℕ) : Type 0 where
  pub layout : WayLayout
  pub worded : way_layout_of command.words ≡ Ok layout
  pub held : Held
  pub inputs : TellsQuietly (watched before.inputs) (watched after.inputs) held
  pub gathered : Gathered
  pub gathered_is : gathered_of held ≡ Ok gathered
  pub offers : OffersTrust (anchor_for gathered (now_of layout.places command.clock)) layout.way.by before.outside.sources after.outside.sources trust
  pub subject : TellsSubject layout.way.told before.outside.source after.outside.source bytes

-- ---- what is said

-- the report of a verdict that accepts, and the refusal of another
abbrev pub SaysOf : Trust → Telling → Result JudgedByRule RulesError → Answer → Type 0
SaysOf trust telling (Ok judged) said = (text : List ℕ) × (way_text trust judged telling ≡ Ok text) × (said ≡ answer status.Accepted text)
SaysOf trust telling (Err e) said = said ≡ refused_answer e

-- what the verdict makes the program say was written whole, and its status is the run's
pub record SaysVerdict {command : Command} {before after : Environment} {trust : Trust} {bytes : List ℕ}
    (f : Favoured command before after trust bytes) (out out' : Watched (List ℕ)) (ended : Status) : Type 0 where
  pub said : Answer
  pub says : SaysOf trust (telling_of f.gathered f.layout.way.told)
      (verdict_over (asked_for f.gathered (now_of f.layout.places command.clock)) (file_of trust) f.layout.way.told bytes) said
  pub written : TakesAll out out' said.text
  pub ended_is : ended ≡ said.status

-- Where a trusted root is offered and nothing outside fails, the run says the verdict under it, with status 0 for an acceptance and 1 for a
-- refusal; or it is out of memory, with status 5; or the sink failed, with status 4.
abbrev pub Completes : Command → Environment → Environment → Watched (List ℕ) → Watched (List ℕ) → Status → Type 0
Completes command before after out out' ended =
    (trust : Trust) (bytes : List ℕ) (f : Favoured command before after trust bytes) → OrFails out out' ended (SaysVerdict f out out' ended)
