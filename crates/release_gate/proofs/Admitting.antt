-- What it means that an artifact is admitted.
use Rattle.std.proofs.Common.{◌≡◌, ℕ, ◌≤◌, List, [], ◌∷◌, ◌++◌, length, map, Bool, true, false, nat_lt, Option, Some, None, Result, Ok, Err, refl, sym, ap, subst, ◌∙◌, inl, inr}
use Rattle.std.specs.Prelude.{Contains}
use Rattle.std.proofs.lemmas.Bool.{le-ltb, ltb-false}
use Rattle.foundation.specs.Steps.{◌>>=◌}
use Rattle.foundation.specs.Results.{step_ok, no_both}
use Rattle.sigstore_types_parts.specs.declared.error.TypesError.{TypesError}
use Rattle.sigstore_types.specs.declared.bundle.Bundle.{Bundle}
use Rattle.sigstore_types.specs.Bundle.{bundle_of_bytes}
use Rattle.sigstore_tuf_outside.specs.Repository.{Files}
use Rattle.sigstore_keys.specs.Digest.{digests_by}
use Rattle.sigstore_keys.specs.declared.reader.ReadError.TheVariants.{TooLong}
use Rattle.sigstore_policy.specs.Policy.{Meaning}
use Rattle.sigstore_judgement.specs.declared.error.Error.{Error}
use Rattle.sigstore_judgement.specs.declared.report.JudgedBundle.{JudgedBundle}
use Rattle.sigstore_judgement.specs.declared.report.VerificationResult.{VerificationResult}
use Rattle.sigstore_judgement.specs.Artifact.{Read}
use Rattle.sigstore_judgement.specs.Grounds.{terms_over}
use Rattle.sigstore_judgement.specs.Judged.{judged_of, needed_by}
use Rattle.sigstore_judgement.specs.Rules.{Whole, Unread, answer_of, answers_of, AllRefuse, IsFirst}
use Rattle.sigstore_judgement.proofs.Accepts.{accepts_exactly}
use Rattle.sigstore_judgement.proofs.FirstLaw.{is_first, all_refuse}
use Rattle.sigstore_judgement.proofs.RulesLaw.{unread_refused}
use Rattle.release_gate.specs.declared.line.Verdict.TheVariants.{Admitted}
use Rattle.release_gate.specs.Names.{bundle_name}
use Rattle.release_gate.specs.Terms.{RuleTerms}
use Rattle.release_gate.specs.Verdict.{max_bundle, had_of, by_answers, by_rules, by_bundle, by_file, verdict_by, AcceptsOver, IsAdmitted, AdmitsExactly}
use Rattle.release_gate.proofs.Lining.{Among, among_of, contains_of}
use Rattle.release_gate.proofs.Ruled.{had_whole}

-- ---- a rule among others

middle : (earlier : List Meaning) (policy : Meaning) (later : List Meaning) → Among policy (earlier ++ policy ∷ later)
middle [] policy later = inl refl
middle (one ∷ earlier) policy later = inr (middle earlier policy later)

split_among : (rules earlier : List Meaning) (policy : Meaning) (later : List Meaning) → rules ≡ earlier ++ policy ∷ later → Contains rules policy
split_among rules earlier policy later split = subst (λ r. Contains r policy) (sym split) (contains_of policy _ (middle earlier policy later))

-- one that accepts isn't among those that refuse
never_refused : (answer : Meaning → Result JudgedBundle Error) (rules : List Meaning) (refusals : List Error) (policy : Meaning) (judged : JudgedBundle)
    → AllRefuse answer rules refusals → Among policy rules → answer policy ≡ Ok judged → ⊥
never_refused answer [] refusals policy judged u among is = absurd among
never_refused answer (one ∷ rules) [] policy judged u among is = absurd u
never_refused answer (one ∷ rules) (e ∷ refusals) policy judged u (inl same) is = no_both judged e (sym is ∙ ap answer (sym same) ∙ u.0)
never_refused answer (one ∷ rules) (e ∷ refusals) policy judged u (inr among) is = never_refused answer rules refusals policy judged u.1 among is

module _ (terms : RuleTerms) (bundle : Bundle) (bytes : List ℕ) where
  abbrev Of : Meaning → Result JudgedBundle Error
  Of policy = answer_of terms.grounds bundle (Whole bytes) policy

  abbrev answers : Result (ℕ × JudgedBundle) (List Error)
  answers = answers_of terms.grounds bundle (Whole bytes) terms.rules

  abbrev with_digests : Meaning → VerificationResult → Result JudgedBundle Error
  with_digests policy report = Ok (record { result = report; digests = digests_by (needed_by policy bundle) bytes })

  -- a rule that accepts admits
  some_admits : (policy : Meaning) (report : VerificationResult) → Contains terms.rules policy → judged_of (terms_over terms.grounds policy) bundle (Read bytes) ≡ Ok report
      → by_answers answers ≡ Admitted
  some_admits policy report among judged = by answers refl
    where
      by : (r : Result (ℕ × JudgedBundle) (List Error)) → answers ≡ r → by_answers r ≡ Admitted
      by (Ok accepted) is = refl
      by (Err refusals) is =
          absurd (never_refused Of terms.rules refusals policy _ (all_refuse Of 1 terms.rules refusals is) (among_of policy terms.rules among)
          (ap (λ r. r >>= with_digests policy) judged))

module _ (terms : RuleTerms) (max : ℕ) (file bytes : List ℕ) where
  abbrev Over : Type 0
  Over = AcceptsOver terms max file bytes

  module _ (bundle : Bundle) (read : bundle_of_bytes file ≡ Ok bundle) where
    -- the first rule that accepts
    of_first : length bytes ≤ max → (rule : ℕ) (judged : JudgedBundle) → IsFirst (answer_of terms.grounds bundle (Whole bytes)) terms.rules rule judged → Over
    of_first within rule judged first =
        let s = step_ok (judged_of (terms_over terms.grounds first.policy) bundle (Read bytes)) _ judged first.accepts in
        record {
          bundle = bundle;
          read = read;
          within = within;
          policy = first.policy;
          among = split_among terms.rules first.earlier first.policy first.later first.split;
          report = s.0;
          accepts = (accepts_exactly (terms_over terms.grounds first.policy) bundle (Read bytes) s.0).0 s.1;
        }

    of_answers : length bytes ≤ max → (r : Result (ℕ × JudgedBundle) (List Error)) → answers_of terms.grounds bundle (Whole bytes) terms.rules ≡ r
        → by_answers r ≡ Admitted → Over
    of_answers within (Ok accepted) is h =
        of_first within accepted.0 accepted.1 (is_first (answer_of terms.grounds bundle (Whole bytes)) terms.rules accepted.0 accepted.1 is)
    of_answers within (Err refusals) is h = cc

    of_length : (b : Bool) → nat_lt max (length bytes) ≡ b → by_rules terms max bundle bytes ≡ Admitted → Over
    of_length true t h =
        let none = unread_refused terms.grounds bundle (TooLong max) 1 terms.rules in
        let admits : by_answers (answers_of terms.grounds bundle (Unread (TooLong max)) terms.rules) ≡ Admitted = rw t at h in
        let both = sym (ap by_answers none.1) ∙ admits in
        cc
    of_length false t h =
        of_answers (ltb-false max (length bytes) t) (answers_of terms.grounds bundle (Whole bytes) terms.rules) refl (rw t at h)

  of_bundle : (r : Result Bundle TypesError) → bundle_of_bytes file ≡ r → by_bundle terms max bytes r ≡ Admitted → Over
  of_bundle (Err e) read h = cc
  of_bundle (Ok bundle) read h = of_length bundle read (nat_lt max (length bytes)) refl h

  -- what admits by a bundle's file is an acceptance
  pub accepts_over : by_bundle terms max bytes (bundle_of_bytes file) ≡ Admitted → Over
  accepts_over h = of_bundle (bundle_of_bytes file) refl h

module _ (terms : RuleTerms) (max : ℕ) (files : Files) (name bytes : List ℕ) where
  abbrev Is : Type 0
  Is = IsAdmitted terms max files name bytes

  of_size : (file : List ℕ) → files (bundle_name name) ≡ Some file → (b : Bool) → nat_lt max_bundle (length file) ≡ b → by_file terms max bytes (Some file) ≡ Admitted → Is
  of_size file own true t h = let k = rw t at h in cc
  of_size file own false t h = record { file = file; own = own; short = ltb-false max_bundle (length file) t; over = accepts_over terms max file bytes (rw t at h) }

  of_file : (o : Option (List ℕ)) → files (bundle_name name) ≡ o → by_file terms max bytes o ≡ Admitted → Is
  of_file None own h = cc
  of_file (Some file) own h = of_size file own (nat_lt max_bundle (length file)) refl h

  admitted_by : Is → verdict_by terms max files name bytes ≡ Admitted
  admitted_by is =
      let over = is.over in
      let judged = (accepts_exactly (terms_over terms.grounds over.policy) over.bundle (Read bytes) over.report).1 over.accepts in
      let admits = some_admits terms over.bundle bytes over.policy over.report over.among judged in
      let rules : by_rules terms max over.bundle bytes ≡ Admitted =
      ap (λ had. by_answers (answers_of terms.grounds over.bundle had terms.rules)) (had_whole max bytes over.within) ∙ admits in
      rw (is.own, le-ltb max_bundle (length is.file) is.short, over.read) rules

pub admits_exactly : AdmitsExactly
admits_exactly terms max files name bytes = (of_file terms max files name bytes (files (bundle_name name)) refl, admitted_by terms max files name bytes)
