-- Where nothing outside fails, the lines on the folder are said.
use Rattle.std.proofs.Common.{◌≡◌, ◌⊎◌, inl, inr, ℕ, List, Some, Result, Ok, Err, sym, ap, ◌∙◌, subst}
use Rattle.foundation.specs.Watched.{Watched}
use Rattle.foundation.specs.Results.{ok_same, err_same, no_both, some_same}
use Rattle.sigstore_tuf_rules.specs.declared.chain.TrustChain.{TrustChain}
use Rattle.sigstore_verify.specs.Complete.{StaysWarm}
use Rattle.release_gate.specs.Folder.{Contents}
use Rattle.release_gate.specs.Gate.{GateInputs, Outside, IsGated}
use Rattle.release_gate.specs.Promises.{Promises, Favours, IsJudgedUnder}
use Rattle.release_gate.specs.declared.gate.Gated.{Gated}
use Rattle.release_gate.specs.declared.gate.GateFault.{GateFault}
use Rattle.release_gate.specs.declared.gate.GateFault.TheVariants as gate
use Rattle.command_files.specs.Ending.{TakesAll}
use Rattle.command_files.specs.Gather.{governed_of}
use Rattle.command_files.specs.Starting.{Command, now_of, unstarted, stopped, begun}
use Rattle.command_files.specs.declared.answer.Answer.{Answer}
use Rattle.command_files.specs.declared.gather.Governed.{Governed}
use Rattle.command_files.specs.declared.layout.Layout.{Layout}
use Rattle.command_files.proofs.Starts.{quiet_not_rose, never_stopped, begun_same}
use Rattle.command_gate.specs.Layout.{gate_layout_of}
use Rattle.command_gate.specs.Lines.{lines_answer}
use Rattle.command_gate.specs.Run.{given_by, Environment, fault_answer, answer_of, Resting, Judges, Says}
use Rattle.command_gate.specs.Complete.{Favoured, favoured_in, Completes}

unsaid : (said : Answer) → fault_answer gate.NoMemory ≡ Some said → ⊥
unfolding fault_answer
unsaid said h = cc

-- the lines on a folder under this chain are said
record SaysLines (given : GateInputs) (before after : Outside) (chain : TrustChain) (contents : Contents) (f : Favours given before after chain contents) (said : Answer) : Type 0 where
  pub gated : Gated
  pub same : gated.chain ≡ chain
  pub judged : IsGated given before gated
  pub is : said ≡ lines_answer gated.lines
  pub warm : StaysWarm after.store f.offer

module _ (resting : Resting) (given : GateInputs) (before after : Outside) (chain : TrustChain) (contents : Contents) (f : Favours given before after chain contents) (said : Answer) where
  lines_so : (gated : Gated) → Promises given before after (Ok gated) → answer_of (Ok gated) ≡ Some said → SaysLines given before after chain contents f said
  lines_so gated p h = by (p.complete chain contents f)
    where
      by : (◌≡◌ {A = Result Gated GateFault} (Ok gated) (Err gate.NoMemory)) ⊎ (IsJudgedUnder chain (Ok gated) × StaysWarm after.store f.offer)
          → SaysLines given before after chain contents f said
      by (inl e) = no_both gated gate.NoMemory e
      by (inr (i, w)) = record {
        gated = gated;
        same = subst (λ (g : Gated). g.chain ≡ chain) (sym (ok_same gated i.gated i.is)) i.same;
        judged = p.accepted;
        is = sym (some_same _ said h);
        warm = w;
      }

  never_faulted : (fault : GateFault) → Promises given before after (Err fault) → fault_answer fault ≡ Some said → ⊥
  never_faulted fault p h = by (p.complete chain contents f)
    where
      by : (◌≡◌ {A = Result Gated GateFault} (Err fault) (Err gate.NoMemory)) ⊎ (IsJudgedUnder chain (Err fault) × StaysWarm after.store f.offer) → ⊥
      by (inl e) = unsaid said (ap fault_answer (sym (err_same fault gate.NoMemory e)) ∙ h)
      by (inr (i, w)) = no_both i.gated fault (sym i.is)

  judges_so : Judges resting given before after said → SaysLines given before after chain contents f said
  judges_so j = by j.judged j.promises j.says
    where
      by : (r : Result Gated GateFault) → Promises given before after r → answer_of r ≡ Some said → SaysLines given before after chain contents f said
      by (Ok gated) p h = lines_so gated p h
      by (Err fault) p h = absurd (never_faulted fault p h)

module _ (resting : Resting) (command : Command) (before after : Environment) (chain : TrustChain) (contents : Contents) (f : Favoured command before after chain contents) (said : Answer) where
  abbrev S : Type 0
  S = SaysLines (favoured_in f) before.outside after.outside chain contents f.outside said

  begun_so : (layout : Layout) (governed : Governed) → layout ≡ f.layout → governed ≡ f.governed
      → Judges resting (given_by governed (now_of layout command.clock)) before.outside after.outside said → S
  begun_so layout governed l g j =
      judges_so resting (favoured_in f) before.outside after.outside chain contents f.outside said
      (subst (λ (x : Governed). Judges resting (given_by x (now_of f.layout command.clock)) before.outside after.outside said) g
      (subst (λ (x : Layout). Judges resting (given_by governed (now_of x command.clock)) before.outside after.outside said) l j))

  says_so : Says resting command before after (Ok said) → S
  says_so (unstarted e s o eq) = no_both said e eq
  says_so (stopped other s o eq) =
      absurd (never_stopped (gate_layout_of command.words) governed_of before.inputs after.inputs f.layout f.held f.governed f.worded f.inputs.told
      (λ rose. quiet_not_rose before.inputs.faults after.inputs.faults f.inputs.quiet rose) f.governed_is other s)
  says_so (begun layout governed b j) =
      let same = begun_same (gate_layout_of command.words) governed_of before.inputs after.inputs f.layout f.held f.governed f.worded f.inputs.told
      (λ rose. quiet_not_rose before.inputs.faults after.inputs.faults f.inputs.quiet rose) f.governed_is layout governed b in
      begun_so layout governed same.0 same.1 j

pub said_completes : (resting : Resting) (command : Command) (before after : Environment) (out out' : Watched (List ℕ)) (said : Answer)
    → Says resting command before after (Ok said) → TakesAll out out' said.text → Completes command before after out out' said.status
said_completes resting command before after out out' said s w chain contents f =
    let t = says_so resting command before after chain contents f said s in
    inr (inr (
      record {
        gated = t.gated;
        same = t.same;
        judged = t.judged;
        written = subst (λ (a : Answer). TakesAll out out' a.text) t.is w;
        ended_is = ap (λ (a : Answer). a.status) t.is;
      },
      t.warm,
    ))
