-- Where nothing outside fails, the lines on the folder are said.
use Rattle.std.proofs.Common.{◌≡◌, inl, inr, ℕ, List, Option, Some, Result, Ok, Err, refl, sym, ap, ◌∙◌, subst}
use Rattle.foundation.specs.Watched.{Watched, IfTold}
use Rattle.foundation.specs.Results.{ok_same, some_same, no_both}
use Rattle.foundation.specs.declared.no_memory.NoMemory.{NoMemory as OutOfMemory}
use Rattle.sigstore_judgement.specs.declared.error.Error.{Error}
use Rattle.sigstore_judgement.specs.declared.error.Error.TheVariants as verify
use Rattle.sigstore_judgement.specs.declared.trust.Material.{Material}
use Rattle.release_gate.specs.Folder.{Contents}
use Rattle.release_gate.specs.Gate.{GateInputs, kept_of, terms_of}
use Rattle.release_gate.specs.Verdict.{verdict_by}
use Rattle.release_gate.specs.Walk.{IsJudged}
use Rattle.release_gate.specs.declared.gate.GateFault.TheVariants as gate
use Rattle.release_gate.specs.declared.line.GateLine.{GateLine}
use Rattle.release_gate.proofs.Gating.{never_stopped as never_halted}
use Rattle.command_files.specs.Ending.{TakesAll, EndsText}
use Rattle.command_files.specs.Gather.{governed_of}
use Rattle.command_files.specs.Starting.{Command, now_of, unstarted, stopped, begun}
use Rattle.command_files.specs.declared.answer.Answer.{Answer}
use Rattle.command_files.specs.declared.answer.Status.{Status}
use Rattle.command_files.specs.declared.gather.Governed.{Governed}
use Rattle.command_files.proofs.Endings.{ends_so}
use Rattle.command_files.proofs.Starts.{quiet_not_rose, never_stopped, begun_same}
use Rattle.command_gate.specs.Lines.{lines_answer}
use Rattle.command_gate.specs.Run.{given_by, fault_answer}
use Rattle.command_ways.specs.declared.folder_judging.FolderCame.{FolderCame}
use Rattle.command_ways.specs.declared.folder_judging.FolderCame.TheVariants.{Untrusted, Unusable, Judged}
use Rattle.command_ways.specs.declared.folder_words.FolderLayout.{FolderLayout}
use Rattle.command_ways.specs.declared.trust.Trust.{Trust}
use Rattle.command_ways.specs.FolderComplete.{Favoured, favoured_in, Completes}
use Rattle.command_ways.specs.FolderJudging.{JudgesFolder, GatesWay}
use Rattle.command_ways.specs.FolderLayout.{folder_layout_of}
use Rattle.command_ways.specs.FolderRun.{Environment, unusable_answer, came_answer, Resting, JudgesWay, Says}
use Rattle.command_ways.specs.Trust.{file_of, GivesTrust}
use Rattle.command_ways.proofs.Trusting.{never_untrusted, given_offered}

unsaid : (said : Answer) → fault_answer gate.NoMemory ≡ Some said → ⊥
unfolding fault_answer
unsaid said h = cc

of_told : (told : Option Contents) (contents : Contents) (P : Contents → Type 0) → told ≡ Some contents → IfTold told P → P contents
of_told told contents P e h = rw e at h

module _ (resting : Resting) (command : Command) (before after : Environment) (trust : Trust) (contents : Contents) (f : Favoured command before after trust contents) (said : Answer) where
  abbrev given : GateInputs
  given = favoured_in f

  abbrev Lines : Material → List GateLine → Type 0
  Lines material lines = IsJudged (verdict_by (terms_of given material) given.max) contents lines

  -- the lines on the folder under the trusted root are said
  record SaysLines : Type 0 where
    pub lines : List GateLine
    pub judged : Lines f.material lines
    pub is : said ≡ lines_answer lines

  same_trust : (found : Trust) → GivesTrust given.anchor f.layout.by before.outside.sources after.outside.sources (Ok found) → found ≡ trust
  same_trust found g = given_offered given.anchor f.layout.by before.outside.sources after.outside.sources trust found f.offers g

  lines_so : (found : Trust) (lines : List GateLine) → found ≡ trust → JudgesFolder given (file_of found) before.outside.folder after.outside.folder (Ok lines)
      → came_answer (Judged found (Ok lines)) ≡ Some said → SaysLines
  lines_so found lines same j h =
      let material : j.material ≡ f.material = ok_same j.material f.material (sym j.usable ∙ ap (λ (t : Trust). kept_of (file_of t)) same ∙ f.usable) in
      record {
        lines = lines;
        judged = subst (λ (m : Material). Lines m lines) material
            (of_told before.outside.folder.told contents (λ c. IsJudged (verdict_by (terms_of given j.material) given.max) c lines) f.folder.told j.judges.given);
        is = sym (some_same _ said h);
      }

  usable_so : (found : Trust) (e : Error) → found ≡ trust → (e ≡ verify.NoMemory → ⊥) → kept_of (file_of found) ≡ Err e → ⊥
  usable_so found e same n h = no_both f.material e (sym f.usable ∙ ap (λ (t : Trust). kept_of (file_of t)) (sym same) ∙ h)

  unusable_so : (found : Trust) (e : Error) → found ≡ trust → ((e ≡ verify.NoMemory → ⊥) → kept_of (file_of found) ≡ Err e) → unusable_answer e ≡ Some said → SaysLines
  unusable_so found verify.NoMemory same u h = cc
  unusable_so found e same u h = absurd (usable_so found e same (λ w. cc) (u (λ w. cc)))

  came_so : (came : FolderCame) → GatesWay given f.layout.by before.outside after.outside came → came_answer came ≡ Some said → SaysLines
  came_so (Untrusted why) g h =
      absurd (never_untrusted given.anchor f.layout.by before.outside.sources after.outside.sources trust why said f.offers g.0 h)
  came_so (Unusable found e) g h = unusable_so found e (same_trust found g.0) g.2 h
  came_so (Judged found (Ok lines)) g h = lines_so found lines (same_trust found g.0) g.2 h
  came_so (Judged found (Err why)) g h =
      absurd (unsaid said (ap fault_answer (sym (never_halted before.outside.folder after.outside.folder contents f.folder f.few f.once why g.2.judges.refused)) ∙ h))

  begun_so : (layout : FolderLayout) (governed : Governed) → layout ≡ f.layout → governed ≡ f.governed
      → JudgesWay resting layout.by (given_by governed (now_of layout.places command.clock)) before.outside after.outside said → SaysLines
  begun_so layout governed l g j =
      let same : JudgesWay resting f.layout.by given before.outside after.outside said
      = subst (λ (x : Governed). JudgesWay resting f.layout.by (given_by x (now_of f.layout.places command.clock)) before.outside after.outside said) g
      (subst (λ (x : FolderLayout). JudgesWay resting x.by (given_by governed (now_of x.places command.clock)) before.outside after.outside said) l j) in
      came_so same.came same.gates same.says

  says_so : Says resting command before after (Ok said) → SaysLines
  says_so (unstarted e s o eq) = no_both said e eq
  says_so (stopped other s o eq) =
      absurd (never_stopped (folder_layout_of command.words) governed_of before.inputs after.inputs f.layout f.held f.governed f.worded f.inputs.told
      (λ rose. quiet_not_rose before.inputs.faults after.inputs.faults f.inputs.quiet rose) f.governed_is other s)
  says_so (begun layout governed b j) =
      let same = begun_same (folder_layout_of command.words) governed_of before.inputs after.inputs f.layout f.held f.governed f.worded f.inputs.told
      (λ rose. quiet_not_rose before.inputs.faults after.inputs.faults f.inputs.quiet rose) f.governed_is layout governed b in
      begun_so layout governed same.0 same.1 j

said_completes : (resting : Resting) (command : Command) (before after : Environment) (out out' : Watched (List ℕ)) (said : Answer)
    → Says resting command before after (Ok said) → TakesAll out out' said.text → Completes command before after out out' said.status
said_completes resting command before after out out' said s w trust contents f =
    let t = says_so resting command before after trust contents f said s in
    inr (inr (record {
      lines = t.lines;
      judged = t.judged;
      written = subst (λ (a : Answer). TakesAll out out' a.text) t.is w;
      ended_is = ap (λ (a : Answer). a.status) t.is;
    }))

pub gate_completes : (resting : Resting) (command : Command) (before after : Environment) (out out' : Watched (List ℕ)) (said : Result Answer OutOfMemory) (ended : Status)
    → Says resting command before after said → EndsText said out out' ended → Completes command before after out out' ended
gate_completes resting command before after out out' said ended s e =
    ends_so (Says resting command before after) (Completes command before after out out') _ _ said out out' ended s (λ same trust contents f. inl refl)
    (λ rose trust contents f. inr (inl (refl, rose))) (λ it s w. said_completes resting command before after out out' it s w) e
