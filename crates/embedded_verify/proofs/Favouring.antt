-- A request that has to be accepted isn't refused by what is known, and it is read.
use Rattle.std.proofs.Common.{◌≡◌, ◌⊎◌, inl, inr, ℕ, List, is_ok, false, Some, Result, Ok, Err, refl, sym, ap, ◌∙◌, subst}
use Rattle.jiff_core.specs.declared.timestamp.Timestamp as jiff
use Rattle.foundation.specs.Results.{ok_same, no_both}
use Rattle.sigstore_types_parts.specs.Instant.{at_nanosecond}
use Rattle.sigstore_types_parts.proofs.Instants.{at_nanosecond-nanosecond}
use Rattle.sigstore_tuf_outside.specs.Repository.{Quiet}
use Rattle.sigstore_judgement.specs.UnderRules.{rules_verdict_by}
use Rattle.sigstore_verify.specs.declared.by_rules.RuleAcceptance.{RuleAcceptance}
use Rattle.sigstore_verify.specs.declared.by_rules.RulesFault.{RulesFault}
use Rattle.sigstore_verify.specs.declared.by_rules.RulesFault.TheVariants.{Root}
use Rattle.sigstore_verify.specs.declared.from_root.RootFault.TheVariants as root
use Rattle.sigstore_verify.specs.ByRules.{rules_asked_by, ruled_of, FavoursRules, PromisesByRules}
use Rattle.sigstore_verify.specs.Complete.{StaysWarm}
use Rattle.sigstore_verify.specs.Inputs.{Outside}
use Rattle.command_files.specs.declared.answer.Answer.{Answer}
use Rattle.command_files.specs.declared.gather.Gathered.{Gathered}
use Rattle.command_files.specs.declared.usage_fault.UsageFault.TheVariants as fault
use Rattle.command_verify.specs.Run.{refusal_answer, are_several, Answers}
use Rattle.embedded_verify.specs.Complete.{Authorises, Favoured}
use Rattle.embedded_verify.specs.Handed.{found_in}
use Rattle.embedded_verify.specs.Means.{given_in, as_known, IsKnown}
use Rattle.embedded_verify.specs.Unread.{IsUnread, no_moment, no_input, no_rows}
use Rattle.embedded_verify.specs.declared.asked.Asked.{Asked}
use Rattle.embedded_verify.specs.declared.judge.Verdict.{Verdict}
use Rattle.embedded_verify.specs.declared.request.Request.{Request}

abbrev Judged : Type 0
Judged = Result RuleAcceptance RulesFault

unsaid : (said : Answer) → refusal_answer (Root root.NoMemory) ≡ Some said → ⊥
unfolding refusal_answer
unsaid said h = cc

module _ (asked : Asked) (f : Favoured asked.request.now) where
  same_moment : f.now ≡ asked.moment
  same_moment = sym (at_nanosecond-nanosecond f.now) ∙ ap at_nanosecond (f.at ∙ sym asked.at) ∙ at_nanosecond-nanosecond asked.moment

  authorised : Authorises asked.request.now asked.gathered asked.moment
  authorised =
      subst (λ (g : Gathered). Authorises asked.request.now g asked.moment) (ok_same f.gathered asked.gathered (sym f.inputs ∙ asked.read))
      (subst (λ (m : jiff.Timestamp). Authorises asked.request.now f.gathered m) same_moment f.authorises)

  -- nothing fails of what the verification goes to
  favours : (after : Outside) → after.repo.faults ≡ 0 → after.source.faults ≡ 0
      → FavoursRules (given_in (as_known asked) asked) (found_in asked.request.now) after authorised.chain asked.request.now.artifact.now
  favours after r s =
      let offer = authorised.offer in
      record {
        offer = record {
          folders = offer.folders;
          repo = record { told = offer.repo.told; quiet = subst (λ (n : ℕ). Quiet 0 n) (sym r) offer.repo.quiet };
          offers = offer.offers;
          files = offer.files;
          store = offer.store;
          warm = offer.warm;
        };
        source = record { told = refl; quiet = subst (λ (n : ℕ). Quiet 0 n) (sym s) offer.repo.quiet };
        short = authorised.short;
      }

  no_refusal : (after : Outside) (judged : Judged) (said : Answer) → PromisesByRules (given_in (as_known asked) asked) (found_in asked.request.now) after judged
      → after.repo.faults ≡ 0 → after.source.faults ≡ 0 → is_ok judged ≡ false → Answers (are_several asked.gathered) judged said → ⊥
  no_refusal after (Ok ruled) said p r s e h = cc
  no_refusal after (Err refusal) said p r s e h = by_complete (p.complete authorised.chain asked.request.now.artifact.now (favours after r s))
    where
      by_complete : (◌≡◌ {A = Judged} (Err refusal) (Err (Root root.NoMemory)))
          ⊎ ((Err refusal ≡ ruled_of authorised.chain (rules_verdict_by (rules_asked_by (given_in (as_known asked) asked)) authorised.chain.file asked.request.now.artifact.now))
          × StaysWarm after.store (favours after r s).offer) → ⊥
      by_complete (inl w) = unsaid said (subst (λ (x : Judged). Answers (are_several asked.gathered) x said) w h)
      by_complete (inr (w, warm)) = no_both _ refusal (sym (w ∙ ap (ruled_of authorised.chain) authorised.accepts))

  -- by what is known it isn't refused
  pub never_refused : (verdict : Verdict) (kept : List ℕ) → IsKnown asked verdict kept → verdict.accepted ≡ false → ⊥
  never_refused verdict kept k e =
      let j = k.judged in
      no_refusal j.after j.judged verdict.said j.promises (j.faults_are ∙ k.whole f.whole) j.source_is (sym j.accepted_is ∙ e) j.answers

-- it is read
pub never_unread : (request : Request) (said : Answer) → Favoured request → IsUnread request said → ⊥
never_unread request said f (no_moment none is) = none f.now f.at
never_unread request said f (no_input stop refused is) = no_both f.gathered stop (sym f.inputs ∙ refused)
never_unread request said f (no_rows refused is) = no_both f.bad fault.Usage (sym f.bad_read ∙ refused)
