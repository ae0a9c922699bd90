-- What is said of what a verification came to.
use Rattle.std.proofs.Common.{◌≡◌, ◌≢◌, ℕ, List, [], length, nat_eq, bytes_eq, Bool, true, false, not, is_ok, Some, Result, Ok, Err, refl, sym, ap, ◌∙◌, subst, arith}
use Rattle.std.proofs.lemmas.Slice.Eq.{bytes_eq-Decides}
use Rattle.foundation.specs.Steps.{◌>>=◌}
use Rattle.foundation.specs.Watched.{Watched}
use Rattle.sigstore_keys.specs.Crypto.{Crypto}
use Rattle.sigstore_tuf_outside.specs.Repository.{Files}
use Rattle.sigstore_tuf_rules.specs.Config.{default_config}
use Rattle.sigstore_verify.specs.declared.by_rules.RuleAcceptance.{RuleAcceptance}
use Rattle.sigstore_verify.specs.declared.by_rules.RulesFault.{RulesFault}
use Rattle.sigstore_verify.specs.ByRules.{PromisesByRules}
use Rattle.sigstore_verify.specs.FromRoot.{trust_path}
use Rattle.sigstore_verify.specs.Inputs.{Outside}
use Rattle.command_files.specs.declared.answer.Answer.{Answer}
use Rattle.command_verify.proofs.ReportThere.{report_there}
use Rattle.command_verify.specs.Report.{rule_added, rule_report_of}
use Rattle.command_verify.specs.Run.{are_several, said_of, Answers}
use Rattle.embedded_verify.specs.Handed.{found_in}
use Rattle.embedded_verify.specs.Means.{given_in, as_known, as_trusted, Keeps, Accepts, RefusesBy, Refuses, AsksLines, IsKnown, IsTrusting, Means}
use Rattle.embedded_verify.specs.declared.asked.Asked.{Asked}
use Rattle.embedded_verify.specs.declared.judge.Verdict.{Verdict}
use Rattle.embedded_verify.proofs.Favouring.{never_refused}

abbrev Judged : Type 0
Judged = Result RuleAcceptance RulesFault

same_said : (x y : Answer) → Some x ≡ Some y → x ≡ y
same_said x y e = cc

module _ (asked : Asked) where
  abbrev Promised : Crypto → Outside → Judged → Type 0
  Promised crypto after judged = PromisesByRules (given_in crypto asked) (found_in asked.request.now) after judged

  -- the report of an acceptance is what is said, since its chain is trusted
  report : (after : Outside) (ruled : RuleAcceptance) (said : Answer) → Promised (as_known asked) after (Ok ruled) → Answers (are_several asked.gathered) (Ok ruled) said
      → rule_report_of (are_several asked.gathered) ruled ≡ Ok said.text
  unfolding rule_report_of
  report after ruled said p h =
      let rooted = ruled.acceptance in
      let t = report_there (as_known asked) asked.gathered.root asked.moment default_config.max_delegations trust_path rooted.chain rooted.digests rooted.result p.accepted.under.trusted in
      let told : rule_report_of (are_several asked.gathered) ruled ≡ Ok (rule_added (are_several asked.gathered) ruled.rule t.0) =
      ap (λ r. r >>= λ text. Ok (rule_added (are_several asked.gathered) ruled.rule text)) t.1 in
      told ∙ ap (λ (a : Answer). Ok a.text) (same_said _ _ (sym (ap said_of told) ∙ h))

  accepts : (after : Outside) (judged : Judged) (said : Answer) (kept : List ℕ) → Promised (as_known asked) after judged → is_ok judged ≡ true
      → Answers (are_several asked.gathered) judged said → Keeps asked.request.now.store.now after.store kept → Accepts asked.request.now said.text kept
  accepts after (Ok ruled) said kept p t h k = record {
    asked = asked;
    of = refl;
    ruled = ruled;
    after = after;
    verified = p.runs;
    accepted = p.accepted;
    reported = report after ruled said p h;
    keeps = k;
  }
  accepts after (Err fault) said kept p t h k = cc

  -- what status 0 means
  pub accepted_means : (verdict : Verdict) (kept : List ℕ) → IsKnown asked verdict kept → verdict.accepted ≡ true → Means asked.request.now 0 verdict.said.text kept
  accepted_means verdict kept k t =
      let j = k.judged in
      record {
        accepted = λ e. accepts j.after j.judged verdict.said kept j.promises (sym j.accepted_is ∙ t) j.answers (subst (λ (s : Watched Files). Keeps asked.request.now.store.now s kept) (sym j.store_is) k.keeps);
        refused = λ e. cc;
        misread = λ e. cc;
        lacking = λ e. cc;
        asks = λ e. cc;
        known = omega arith;
        complete = λ f. refl;
        keeps_nothing = λ e d. absurd (e refl);
        not_cut = λ e. cc;
        not_wanting = λ e. cc;
      }

  refuses_by : (crypto : Crypto) (after : Outside) (judged : Judged) (said : Answer) → Promised crypto after judged → is_ok judged ≡ false
      → Answers (are_several asked.gathered) judged said → RefusesBy crypto asked said.text
  refuses_by crypto after (Ok ruled) said p t h = cc
  refuses_by crypto after (Err fault) said p t h = record { fault = fault; after = after; verified = p.runs; cause = p.refused; said = said; line = h; text_is = refl }

  refuses : (after : Outside) (judged : Judged) (said : Answer) (kept : List ℕ) → Promised (as_known asked) after judged → is_ok judged ≡ false
      → Answers (are_several asked.gathered) judged said → Keeps asked.request.now.store.now after.store kept → RefusesBy (as_trusted asked) asked said.text
      → Refuses asked.request.now said.text kept
  refuses after (Ok ruled) said kept p t h k r = cc
  refuses after (Err fault) said kept p t h k r = record {
    asked = asked;
    of = refl;
    known = record { fault = fault; after = after; verified = p.runs; cause = p.refused; said = said; line = h; text_is = refl };
    trusted = r;
    keeps = k;
  }

  -- what status 1 means
  pub refused_means : (verdict again : Verdict) (kept : List ℕ) → IsKnown asked verdict kept → verdict.accepted ≡ false → IsTrusting asked again → again.accepted ≡ false
      → again.said.text ≡ verdict.said.text → Means asked.request.now 1 verdict.said.text kept
  refused_means verdict again kept k f t g same =
      let j = k.judged in
      let i = t.2 in
      let trusted : RefusesBy (as_trusted asked) asked verdict.said.text =
      subst (RefusesBy (as_trusted asked) asked) same (refuses_by (as_trusted asked) i.after i.judged again.said i.promises (sym i.accepted_is ∙ g) i.answers) in
      record {
        accepted = λ e. cc;
        refused = λ e. refuses j.after j.judged verdict.said kept j.promises (sym j.accepted_is ∙ f) j.answers (subst (λ (s : Watched Files). Keeps asked.request.now.store.now s kept) (sym j.store_is) k.keeps) trusted;
        misread = λ e. cc;
        lacking = λ e. cc;
        asks = λ e. cc;
        known = omega arith;
        complete = λ favoured. absurd (never_refused asked favoured verdict kept k f);
        keeps_nothing = λ e d. absurd (d refl);
        not_cut = λ e. cc;
        not_wanting = λ e. cc;
      }

  not_empty : (out : List ℕ) → nat_eq (length out) 0 ≡ false → out ≢ []
  not_empty out e none = let f : true ≡ false = sym (ap (λ (x : List ℕ). nat_eq (length x) 0) none) ∙ e in cc

  -- what status 6 means
  pub asks_means : (verdict : Verdict) (text out kept : List ℕ) → IsKnown asked verdict text → verdict.accepted ≡ false
      → AsksLines asked out → nat_eq (length out) 0 ≡ false → kept ≡ [] → Means asked.request.now 6 out kept
  asks_means verdict text out kept k f lines some none =
      let j = k.judged in
      record {
        accepted = λ e. cc;
        refused = λ e. cc;
        misread = λ e. cc;
        lacking = λ e. cc;
        asks = λ e. record {
          asked = asked;
          of = refl;
          refusal = verdict.said.text;
          known = refuses_by (as_known asked) j.after j.judged verdict.said j.promises (sym j.accepted_is ∙ f) j.answers;
          lines = lines;
          some = not_empty out some;
        };
        known = omega arith;
        complete = λ favoured. absurd (never_refused asked favoured verdict text k f);
        keeps_nothing = λ e d. none;
        not_cut = λ e. cc;
        not_wanting = λ e. cc;
      }

not_false : (b : Bool) → not b ≡ false → b ≡ true
not_false true h = refl
not_false false h = cc

-- texts that aren't told apart are the same
pub same_text : (a b : List ℕ) → not (bytes_eq a b) ≡ false → a ≡ b
same_text a b h = (bytes_eq-Decides a b).0 (not_false (bytes_eq a b) h)
