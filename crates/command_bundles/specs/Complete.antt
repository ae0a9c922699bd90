-- When a run over a list of bundles has to accept, and what it says where it hasn't to: where nothing outside fails.
use Rattle.std.specs.Prelude.{◌≡◌, ◌⊎◌, ℕ, List, Option, Some, None, Ok, Err}
use Rattle.foundation.specs.Watched.{Watched, Rose}
use Rattle.sigstore_keys.specs.Digest.{digests_by}
use Rattle.sigstore_judgement.specs.declared.error.Error.{Error}
use Rattle.sigstore_judgement.specs.declared.rules.JudgedByRule.{JudgedByRule}
use Rattle.sigstore_judgement.specs.declared.rules.ReadArtifact.{ReadArtifact}
use Rattle.sigstore_judgement.specs.declared.rules.ReadArtifact.TheVariants.{Digests}
use Rattle.sigstore_verify.specs.Complete.{TellsQuietly}
use Rattle.release_gate.specs.Gate.{kept_of}
use Rattle.command_files.specs.Ending.{TakesAll}
use Rattle.command_files.specs.Inputs.{Held, watched}
use Rattle.command_files.specs.Starting.{Command, now_of}
use Rattle.command_files.specs.declared.answer.Status.{Status}
use Rattle.command_files.specs.declared.answer.Status.TheVariants as status
use Rattle.command_verify.specs.Run.{anchor_of, verify_answer}
use Rattle.command_ways.specs.Complete.{OffersTrust, TellsSubject}
use Rattle.command_ways.specs.Digests.{Digest}
use Rattle.command_ways.specs.Report.{way_text}
use Rattle.command_ways.specs.Trust.{file_of}
use Rattle.command_ways.specs.declared.trust.Trust.{Trust}
use Rattle.command_outputs.specs.declared.layout.OutputsLayout.{OutputsLayout}
use Rattle.command_outputs.specs.Concluding.{no_envelope_answer, told_text}
use Rattle.command_outputs.specs.Payload.{payload_of}
use Rattle.command_outputs.specs.Promises.{IsGiven, IsUntouched}
use Rattle.command_outputs.specs.Run.{Environment}
use Rattle.command_bundles.specs.declared.judging.BundleRefusal.{BundleRefusal}
use Rattle.command_bundles.specs.declared.lines.ListedBundle.{ListedBundle}
use Rattle.command_bundles.specs.declared.listed.Listed.{Listed}
use Rattle.command_bundles.specs.Concluding.{refusals_text}
use Rattle.command_bundles.specs.Judging.{Search, hashed, first_of, verdict_of}
use Rattle.command_bundles.specs.Layout.{bundles_layout_of}
use Rattle.command_bundles.specs.Lines.{listed_of}
use Rattle.command_bundles.specs.Listed.{listed_in}
use Rattle.command_bundles.specs.Run.{given_by, telling_of}

-- the words meet their grammar, told inputs are read without a fault and are these, the list has bundles, and nothing fails outside
pub record Favoured (command : Command) (before after : Environment) (trust : Trust) (bytes : List ℕ) : Type 0 where
  pub layout : OutputsLayout
  pub worded : bundles_layout_of command.words ≡ Ok layout
  pub held : Held
  pub inputs : TellsQuietly (watched before.inputs) (watched after.inputs) held
  pub listed : Listed
  pub listed_is : listed_in held ≡ Ok listed
  pub bundles : List ListedBundle
  pub lists : listed_of listed.list ≡ Ok bundles
  pub offers : OffersTrust (anchor_of listed.governed.anchored (now_of layout.verification.places command.clock)) layout.verification.way.by
      before.outside.verified.sources after.outside.verified.sources trust
  pub subject : TellsSubject layout.verification.way.told before.outside.verified.source after.outside.verified.source bytes

-- the digests of an artifact of these bytes, or the told ones
abbrev pub had_over : Option (List Digest) → List ℕ → ReadArtifact
had_over None bytes = Digests (digests_by hashed bytes)
had_over (Some told) bytes = Digests told

-- the search under the trusted root that is offered
abbrev pub search_in : {command : Command} {before after : Environment} {trust : Trust} {bytes : List ℕ}
    → Favoured command before after trust bytes → Search
search_in {command = command} {trust = trust} {bytes = bytes} f =
    first_of (verdict_of (given_by f.listed (now_of f.layout.verification.places command.clock) f.bundles) (file_of trust)
    (had_over f.layout.verification.way.told bytes)) f.bundles

-- ---- what is said and put in its place

-- A bundle is the first that a rule accepts. Its payload is in the statement's place, where one is named. The report was written whole, with
-- its line and what is asked for behind it.
pub record SaysReport {command : Command} {before after : Environment} {trust : Trust} {bytes : List ℕ}
    (f : Favoured command before after trust bytes) (out out' : Watched (List ℕ)) (ended : Status) : Type 0 where
  pub bundle : ListedBundle
  pub judged : JudgedByRule
  pub first : search_in f ≡ Ok (bundle, judged)
  pub given : IsGiven f.layout.outputs.statement bundle.text before.outside.shelf after.outside.shelf
  pub text : List ℕ
  pub reported : way_text trust judged (telling_of f.listed f.layout.verification.way.told) ≡ Ok text
  pub written : TakesAll out out' (told_text (Some bundle.line) f.layout.outputs.details bundle.text judged text)
  pub ended_is : ended ≡ status.Accepted

-- It has a message signature, and its statement is asked for: the line that says so was written whole.
pub record SaysNoEnvelope {command : Command} {before after : Environment} {trust : Trust} {bytes : List ℕ}
    (f : Favoured command before after trust bytes) (out out' : Watched (List ℕ)) (ended : Status) : Type 0 where
  pub bundle : ListedBundle
  pub judged : JudgedByRule
  pub first : search_in f ≡ Ok (bundle, judged)
  pub path : List ℕ
  pub named : f.layout.outputs.statement ≡ Some path
  pub message : payload_of bundle.text ≡ Ok None
  pub untouched : IsUntouched before after
  pub written : TakesAll out out' no_envelope_answer.text
  pub ended_is : ended ≡ status.Refused

-- No rule accepts any bundle: each one's refusal was written, with its line.
pub record SaysRefusals {command : Command} {before after : Environment} {trust : Trust} {bytes : List ℕ}
    (f : Favoured command before after trust bytes) (out out' : Watched (List ℕ)) (ended : Status) : Type 0 where
  pub refusals : List BundleRefusal
  pub none : search_in f ≡ Err refusals
  pub untouched : IsUntouched before after
  pub written : TakesAll out out' (refusals_text refusals)
  pub ended_is : ended ≡ status.Refused

-- The trusted root that is offered can't be used: the first check that it fails was written.
pub record SaysUnusable {command : Command} {before after : Environment} {trust : Trust} {bytes : List ℕ}
    (f : Favoured command before after trust bytes) (out out' : Watched (List ℕ)) (ended : Status) : Type 0 where
  pub fault : Error
  pub fails : kept_of (file_of trust) ≡ Err fault
  pub untouched : IsUntouched before after
  pub written : TakesAll out out' (verify_answer fault).text
  pub ended_is : ended ≡ status.Refused

-- Where a trusted root is offered and nothing outside fails, the run does one of these, by the trusted root and the list alone. Or it is out
-- of memory, with status 5; or the sink or the shelf failed, with status 4.
abbrev pub Completes : Command → Environment → Environment → Watched (List ℕ) → Watched (List ℕ) → Status → Type 0
Completes command before after out out' ended =
    (trust : Trust) (bytes : List ℕ) (f : Favoured command before after trust bytes)
    → (ended ≡ status.Memory)
    ⊎ (((ended ≡ status.Output) × (Rose out.faults out'.faults ⊎ Rose before.outside.shelf.faults after.outside.shelf.faults))
    ⊎ (SaysReport f out out' ended ⊎ (SaysNoEnvelope f out out' ended ⊎ (SaysRefusals f out out' ended ⊎ SaysUnusable f out out' ended))))
