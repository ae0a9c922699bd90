-- What each status of a run means.
use Rattle.std.proofs.Common.{◌≡◌, ◌≢◌, inl, inr, ℕ, List, Some, Ok, Err, refl, sym, ap, ◌∙◌, subst}
use Rattle.foundation.specs.Watched.{Watched}
use Rattle.foundation.specs.Results.{ok_same, some_same, no_both}
use Rattle.sigstore_judgement.specs.declared.error.Error.TheVariants.{NoMemory}
use Rattle.sigstore_judgement.specs.declared.rules.JudgedByRule.{JudgedByRule}
use Rattle.sigstore_judgement.specs.declared.rules.RulesError.{RulesError}
use Rattle.sigstore_judgement.specs.declared.rules.RulesError.TheVariants.{Shared, Each}
use Rattle.command_files.specs.Answer.{answer}
use Rattle.command_files.specs.Ending.{TakesAll}
use Rattle.command_files.specs.Gather.{gathered_of}
use Rattle.command_files.specs.Starting.{Command, LacksInput, unstarted, stopped, begun}
use Rattle.command_files.specs.declared.answer.Answer.{Answer}
use Rattle.command_files.specs.declared.answer.Status.{Status}
use Rattle.command_files.specs.declared.answer.Status.TheVariants as status
use Rattle.command_files.proofs.Endings.{ends_so}
use Rattle.command_files.proofs.Starts.{stopped_means}
use Rattle.command_verify.specs.Run.{tuf_answer, verify_answer, each_answer}
use Rattle.command_archive.specs.Reading.{archive_answer}
use Rattle.command_verify.specs.Run.{given_by}
use Rattle.command_ways.specs.declared.judging.Came.{Came}
use Rattle.command_ways.specs.declared.judging.Came.TheVariants.{Untrusted, Judged}
use Rattle.command_ways.specs.declared.trust.Trust.{Trust}
use Rattle.command_ways.specs.declared.trust.TrustFault.{TrustFault}
use Rattle.command_ways.specs.declared.trust.TrustFault.TheVariants as fault
use Rattle.command_ways.specs.Judging.{VerifiesWay}
use Rattle.command_ways.specs.Layout.{way_layout_of}
use Rattle.command_ways.specs.Report.{way_text, said_of, untrusted_answer, refused_answer, Answers}
use Rattle.command_ways.specs.Run.{Environment, anchor_for, asked_for, telling_of, Asked, now_in, TrustIs, JudgedIs, JudgesWay, want_judging, answered, Says, RunsTo, no_trust, under_trust, Means}
use Rattle.command_ways.specs.Trust.{file_of, IsTrusted}
use Rattle.command_ways.proofs.Saying.{text_there, has_cause}

module _ (command : Command) (before after : Environment) (out out' : Watched (List ℕ)) where
  abbrev M : Status → Type 0
  M s = Means command before after out out' s

  abbrev W : List ℕ → Type 0
  W text = TakesAll out out' text

  -- what an answer means that was written is what an equal one means
  as_said : (a b : Answer) → a ≡ b → (W a.text → M a.status) → W b.text → M b.status
  as_said a b e f = subst (λ (x : Answer). W x.text → M x.status) e f

  module _ (asked : Asked command before after) where
    untrusted_means : (why : TrustFault) (said : Answer) → TrustIs asked (Err why) → after.outside.source ≡ before.outside.source
        → untrusted_answer why ≡ Some said → W said.text → M said.status
    unfolding tuf_answer
    untrusted_means (fault.Tuf e) said g u a =
        as_said _ said (some_same _ said a) (λ w. no_trust asked (fault.Tuf e) (tuf_answer e) g u refl refl w)
    untrusted_means (fault.Archive e) said g u a =
        as_said _ said (some_same _ said a) (λ w. no_trust asked (fault.Archive e) (archive_answer e) g u refl refl w)
    untrusted_means fault.Unread said g u a =
        as_said _ said (some_same _ said a) (λ w. inr (record { asked = asked; unread = g; untouched = u; written = w }))
    untrusted_means fault.NoMemory said g u a = cc

    module _ (trust : Trust) (given : TrustIs asked (Ok trust)) (trusted : IsTrusted (anchor_for asked.gathered (now_in asked)) trust) where
      refused_means : (e : RulesError) → JudgedIs asked trust (Err e) → e ≢ Shared NoMemory → W (refused_answer e).text → M (refused_answer e).status
      unfolding verify_answer each_answer
      refused_means (Shared e) j n w =
          under_trust asked trust (Shared e) (verify_answer e) given trusted j (has_cause (asked_for asked.gathered (now_in asked)) (file_of trust) asked.layout.way.told _ _ (Shared e) j) n refl w
      refused_means (Each refusals) j n w =
          under_trust asked trust (Each refusals) (each_answer refusals) given trusted j
          (has_cause (asked_for asked.gathered (now_in asked)) (file_of trust) asked.layout.way.told _ _ (Each refusals) j) n refl w

      accepted_means : (judged : JudgedByRule) (said : Answer) → JudgedIs asked trust (Ok judged)
          → said_of (way_text trust judged (telling_of asked.gathered asked.layout.way.told)) ≡ Some said → W said.text → M said.status
      accepted_means judged said j s =
          let text = text_there (anchor_for asked.gathered (now_in asked)) trust judged (telling_of asked.gathered asked.layout.way.told) trusted in
          as_said (answer status.Accepted text.0) said (some_same (answer status.Accepted text.0) said (sym (ap said_of text.1) ∙ s))
          (λ w. record { asked = asked; trust = trust; given = given; trusted = trusted; judged = judged; accepted = j; text = text.0; reported = text.1; written = w })

    came_means : (came : Came) (said : Answer)
        → VerifiesWay (given_by asked.gathered (now_in asked)) asked.layout.way before.outside after.outside came
        → Answers (telling_of asked.gathered asked.layout.way.told) came said → W said.text → M said.status
    came_means (Untrusted why) said v a = untrusted_means why said v.0 v.1 a
    came_means (Judged trust (Ok judged)) said v a = accepted_means trust v.0 v.1 judged said v.2 a
    came_means (Judged trust (Err e)) said v a = as_said (refused_answer e) said (sym a.0) (refused_means trust v.0 v.1 e v.2 a.1)

    judged_means : (said : Answer) → JudgesWay asked.layout.way asked.gathered (now_in asked) before.outside after.outside (Ok said) → W said.text → M said.status
    judged_means said (want_judging e eq) = no_both said e eq
    judged_means said (answered came other v a eq) = as_said other said (sym (ok_same said other eq)) (came_means came other v a)

  lacks_so : LacksInput before after out out' → M status.Input
  lacks_so l = inl l

  said_means : (said : Answer) → Says command before after (Ok said) → W said.text → M said.status
  said_means said (unstarted e s o eq) = no_both said e eq
  said_means said (stopped other s o eq) =
      as_said other said (sym (ok_same said other eq)) (stopped_means (way_layout_of command.words) gathered_of before after out out' M (λ m. m) lacks_so o other s)
  said_means said (begun layout gathered b j) = judged_means (record { layout = layout; gathered = gathered; read = b }) said j

  pub run_means : (ended : Status) → RunsTo command before after out out' ended → M ended
  run_means ended r =
      ends_so (Says command before after) M (λ (a : Answer). a.status) (λ (a : Answer). a.text) r.said out out' ended r.says (λ same. same) (λ rose. rose) said_means r.ends
