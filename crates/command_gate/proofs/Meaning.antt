-- What each status of a run means.
use Rattle.std.proofs.Common.{◌≡◌, inl, inr, ℕ, List, Bool, true, false, if◌then◌else◌, Some, Result, Ok, Err, refl, sym, subst}
use Rattle.foundation.specs.Watched.{Watched}
use Rattle.foundation.specs.Results.{ok_same, some_same, no_both}
use Rattle.release_gate.specs.Gate.{GateInputs, IsGated, GateCause}
use Rattle.release_gate.specs.Promises.{Promises}
use Rattle.release_gate.specs.declared.gate.Gated.{Gated}
use Rattle.release_gate.specs.declared.gate.GateFault.{GateFault}
use Rattle.release_gate.specs.declared.gate.GateFault.TheVariants as gate
use Rattle.command_files.specs.Ending.{TakesAll}
use Rattle.command_files.specs.Gather.{governed_of}
use Rattle.command_files.specs.Starting.{Command, unstarted, stopped, begun}
use Rattle.command_files.specs.declared.answer.Answer.{Answer}
use Rattle.command_files.specs.declared.answer.Status.{Status}
use Rattle.command_files.specs.declared.answer.Status.TheVariants as status
use Rattle.command_files.proofs.Starts.{stopped_means}
use Rattle.command_verify.specs.Run.{tuf_answer, verify_answer}
use Rattle.command_gate.specs.Layout.{gate_layout_of}
use Rattle.command_gate.specs.Lines.{lines_text, all_admitted, status_by, lines_answer}
use Rattle.command_gate.specs.Run.{Environment, fault_answer, answer_of, Resting, Judges, Says, Asked, given_in, Means, WritesRested, Rested}

module _ (resting : Resting) (command : Command) (before after : Environment) (out out' : Watched (List ℕ)) where
  abbrev M : Status → Type 0
  M s = Means command before after out out' s

  abbrev W : List ℕ → Type 0
  W text = TakesAll out out' text

  -- what an answer means that was written is what an equal one means
  as_said : (a b : Answer) → a ≡ b → (W a.text → M a.status) → W b.text → M b.status
  as_said a b e f = subst (λ (x : Answer). W x.text → M x.status) e f

  module _ (asked : Asked command before after) where
    abbrev given : GateInputs
    given = given_in asked

    -- a folder that was judged: all are admitted, or some are denied
    lines_mean : (gated : Gated) → IsGated given before.outside gated → W (lines_text gated.lines) → M (status_by gated.lines)
    lines_mean gated g w = by (all_admitted gated.lines) refl
      where
        by : (all : Bool) → all_admitted gated.lines ≡ all → M (status_by gated.lines)
        by true e =
            subst (λ b. M (if b then status.Accepted else status.Refused)) (sym e)
            (record { gates = record { asked = asked; gated = gated; judged = g; written = w }; all = e })
        by false e =
            subst (λ b. M (if b then status.Accepted else status.Refused)) (sym e)
            (inl (record { gates = record { asked = asked; gated = gated; judged = g; written = w }; some = e }))

    -- one that wasn't
    fault_means : (fault : GateFault) (said : Answer) → GateCause given before.outside after.outside fault → fault_answer fault ≡ Some said → W said.text → M said.status
    unfolding fault_answer tuf_answer verify_answer
    fault_means (gate.Tuf e) said c h =
        as_said _ said (some_same _ said h)
        (λ w. inr (record { asked = asked; fault = gate.Tuf e; cause = c; said = tuf_answer e; line = refl; is = refl; written = w }))
    fault_means (gate.Trust fault chain) said c h =
        as_said _ said (some_same _ said h)
        (λ w. inr (record { asked = asked; fault = gate.Trust fault chain; cause = c; said = verify_answer fault; line = refl; is = refl; written = w }))
    fault_means gate.FolderFailed said c h =
        as_said _ said (some_same _ said h)
        (λ w. inr (record { asked = asked; fault = gate.FolderFailed; cause = c; said = _; line = refl; is = refl; written = w }))
    fault_means (gate.TooManyNames count) said c h =
        as_said _ said (some_same _ said h)
        (λ w. inr (record { asked = asked; fault = gate.TooManyNames count; cause = c; said = _; line = refl; is = refl; written = w }))
    fault_means (gate.DoubledName name) said c h =
        as_said _ said (some_same _ said h)
        (λ w. inr (record { asked = asked; fault = gate.DoubledName name; cause = c; said = _; line = refl; is = refl; written = w }))
    fault_means (gate.Vanished name) said c h =
        as_said _ said (some_same _ said h)
        (λ w. inr (record { asked = asked; fault = gate.Vanished name; cause = c; said = _; line = refl; is = refl; written = w }))
    fault_means gate.NoMemory said c h = cc

    judged_means : (said : Answer) → Judges resting given before.outside after.outside said → W said.text → M said.status
    judged_means said j = by j.judged j.promises j.says
      where
        by : (r : Result Gated GateFault) → Promises given before.outside after.outside r → answer_of r ≡ Some said → W said.text → M said.status
        by (Ok gated) p h = as_said (lines_answer gated.lines) said (some_same _ said h) (lines_mean gated p.accepted)
        by (Err fault) p h = fault_means fault said p.refused h

  pub said_means : (said : Answer) → Says resting command before after (Ok said) → W said.text → M said.status
  said_means said (unstarted e s o eq) = no_both said e eq
  said_means said (stopped other s o eq) =
      as_said other said (sym (ok_same said other eq)) (stopped_means (gate_layout_of command.words) governed_of before after out out' M (λ m. m) (λ l. inl l) o other s)
  said_means said (begun layout governed b j) = judged_means (record { layout = layout; governed = governed; read = b }) said j

  -- ---- on what it rests

  abbrev T : Status → Type 0
  T s = Rested resting command before after out out' s

  rested_as : (a b : Answer) → a ≡ b → (W a.text → T a.status) → W b.text → T b.status
  rested_as a b e f = subst (λ (x : Answer). W x.text → T x.status) e f

  by_status : (s : Status) → WritesRested resting command before after out out' s → T s
  by_status status.Accepted r = r
  by_status status.Refused r = r
  by_status status.Usage r = tt
  by_status status.Input r = inr r
  by_status status.Output r = tt
  by_status status.Memory r = tt

  pub said_rests : (said : Answer) → Says resting command before after (Ok said) → W said.text → T said.status
  said_rests said (unstarted e s o eq) = no_both said e eq
  said_rests said (stopped other s o eq) =
      rested_as other said (sym (ok_same said other eq)) (stopped_means (gate_layout_of command.words) governed_of before after out out' T (λ m. tt) (λ l. inl l) o other s)
  said_rests said (begun layout governed b j) = λ w.
      by_status said.status (record {
        asked = record { layout = layout; governed = governed; read = b };
        judged = j.judged;
        rests = j.rests;
        said = said;
        says = j.says;
        is = refl;
        written = w;
      })
