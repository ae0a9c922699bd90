-- What each status of a run means.
use Rattle.std.proofs.Common.{◌≡◌, ℕ, List, Some, Result, Ok, Err, refl, sym, ◌∙◌, subst}
use Rattle.foundation.specs.Watched.{Watched}
use Rattle.foundation.specs.Results.{ok_same, some_same}
use Rattle.foundation.specs.declared.no_memory.NoMemory.{NoMemory}
use Rattle.sigstore_verify.specs.declared.by_rules.RulesFault.{RulesFault}
use Rattle.sigstore_verify.specs.declared.by_rules.RulesFault.TheVariants.{Root, Each}
use Rattle.sigstore_verify.specs.declared.from_root.RootFault.TheVariants as root
use Rattle.sigstore_verify.specs.ByRules.{RulesInputs, RunsByRules, RulesFaultCause}
use Rattle.command_files.specs.Answer.{answer}
use Rattle.command_files.specs.Ending.{TakesAll}
use Rattle.command_files.specs.Gather.{gathered_of}
use Rattle.command_files.specs.Layout.{layout_of}
use Rattle.command_files.specs.Starting.{Command, now_of, unstarted, stopped, begun}
use Rattle.command_files.specs.declared.answer.Answer.{Answer}
use Rattle.command_files.specs.declared.answer.Status.{Status}
use Rattle.command_files.specs.declared.answer.Status.TheVariants as status
use Rattle.command_files.proofs.Endings.{ends_so}
use Rattle.command_files.proofs.Starts.{stopped_means}
use Rattle.command_verify.specs.Run.{tuf_answer, verify_answer, each_answer, refusal_answer, Environment, Asked, given_in, Judges, want_judging, refused, reported, Says, RunsTo, Means}

module _ (command : Command) (before after : Environment) (out out' : Watched (List ℕ)) where
  abbrev M : Status → Type 0
  M s = Means command before after out out' s

  abbrev W : List ℕ → Type 0
  W text = TakesAll out out' text

  -- what an answer means that was written is what an equal one means
  as_said : (a b : Answer) → a ≡ b → (W a.text → M a.status) → W b.text → M b.status
  as_said a b e f = subst (λ (x : Answer). W x.text → M x.status) e f

  module _ (asked : Asked command before after) where
    abbrev given : RulesInputs
    given = given_in asked

    refused_means : (fault : RulesFault) (said : Answer) → RunsByRules given before.outside after.outside (Err fault)
        → RulesFaultCause given before.outside after.outside fault → refusal_answer fault ≡ Some said → W said.text → M said.status
    unfolding refusal_answer tuf_answer verify_answer each_answer
    refused_means (Root (root.Tuf e)) said v c h =
        as_said _ said (some_same _ said h) (λ w. record { asked = asked; fault = Root (root.Tuf e); verified = v; cause = c; said = tuf_answer e; line = refl; written = w })
    refused_means (Root (root.Verify e chain)) said v c h =
        as_said _ said (some_same _ said h) (λ w. record { asked = asked; fault = Root (root.Verify e chain); verified = v; cause = c; said = verify_answer e; line = refl; written = w })
    refused_means (Root root.NoMemory) said v c h = cc
    refused_means (Each faults chain) said v c h =
        as_said _ said (some_same _ said h) (λ w. record { asked = asked; fault = Each faults chain; verified = v; cause = c; said = each_answer faults; line = refl; written = w })

    judged_means : (said : Answer) → Judges asked.gathered (now_of asked.layout command.clock) before.outside after.outside (Ok said) → W said.text → M said.status
    judged_means said (want_judging r e v eq) = cc
    judged_means said (refused fault other v c h eq) = as_said other said (sym (ok_same said other eq)) (refused_means fault other v c h)
    judged_means said (reported ruled other v a h eq) =
        as_said (answer status.Accepted h.text) said (sym (ok_same said other eq ∙ h.said_is))
        (λ w. record { asked = asked; ruled = ruled; verified = v; accepted = a; text = h.text; reported = h.reported; written = w })

  said_means : (said : Answer) → Says command before after (Ok said) → W said.text → M said.status
  said_means said (unstarted e s o eq) = cc
  said_means said (stopped other s o eq) =
      as_said other said (sym (ok_same said other eq)) (stopped_means (layout_of command.words) gathered_of before after out out' M (λ m. m) (λ l. l) o other s)
  said_means said (begun layout gathered b j) = judged_means (record { layout = layout; gathered = gathered; read = b }) said j

  pub run_means : (ended : Status) → RunsTo command before after out out' ended → M ended
  run_means ended r =
      ends_so (Says command before after) M (λ (a : Answer). a.status) (λ (a : Answer). a.text) r.said out out' ended r.says (λ same. same) (λ rose. rose) said_means r.ends
