-- What the rules say by what is had of an artifact is what they say over its bytes.
use Rattle.std.proofs.Common.{◌≡◌, ℕ, ◌<◌, ◌≤◌, List, length, true, false, nat_lt, Option, Some, None, Ok, Err, refl, sym, ap, ◌∙◌}
use Rattle.std.proofs.lemmas.Bool.{le-ltb, lt-ltb}
use Rattle.foundation.specs.Steps.{◌>>=◌}
use Rattle.sigstore_types_parts.specs.declared.hash_algorithm.HashAlgorithm.{HashAlgorithm}
use Rattle.sigstore_types.specs.declared.bundle.Bundle.{Bundle}
use Rattle.sigstore_keys.specs.Digest.{digests_by}
use Rattle.sigstore_keys.specs.declared.reader.ReadError.TheVariants.{TooLong}
use Rattle.sigstore_policy.specs.Policy.{Meaning}
use Rattle.sigstore_judgement.specs.declared.error.Error.{Error}
use Rattle.sigstore_judgement.specs.declared.error.Error.TheVariants.{ArtifactRead}
use Rattle.sigstore_judgement.specs.declared.report.VerificationResult.{VerificationResult}
use Rattle.sigstore_judgement.specs.declared.rules.ReadArtifact.{ReadArtifact}
use Rattle.sigstore_judgement.specs.declared.rules.ReadArtifact.TheVariants as read
use Rattle.sigstore_judgement.specs.Artifact.{Read, read_kind}
use Rattle.sigstore_judgement.specs.Grounds.{terms_over}
use Rattle.sigstore_judgement.specs.Judged.{Ready, prepared_of, needed_by}
use Rattle.sigstore_judgement.specs.Rules.{Had, Whole, Unread, answer_of, answers_of, answers_by, needed_by_rules}
use Rattle.sigstore_judgement.proofs.FirstLaw.{all_zip, each_refuses}
use Rattle.sigstore_judgement.proofs.Needed.{needed_none}
use Rattle.sigstore_judgement.proofs.RulesLaw.{digests_suffice, unread_answers, unprepared_answers}
use Rattle.sigstore_judgement.proofs.Stages.{unready}
use Rattle.release_gate.specs.Judgement.{verdict_had}
use Rattle.release_gate.specs.Terms.{RuleTerms}
use Rattle.release_gate.specs.Verdict.{had_of, by_answers, by_rules}

-- ---- what is had within the limit

pub had_whole : (max : ℕ) (bytes : List ℕ) → length bytes ≤ max → had_of max bytes ≡ Whole bytes
had_whole max bytes short =
    let within : nat_lt max (length bytes) ≡ false = le-ltb max (length bytes) short in
    rw within refl

pub had_longer : (max : ℕ) (bytes : List ℕ) → max < length bytes → had_of max bytes ≡ Unread (TooLong max)
had_longer max bytes long =
    let beyond : nat_lt max (length bytes) ≡ true = lt-ltb max (length bytes) long in
    rw beyond refl

module _ (terms : RuleTerms) (max : ℕ) (bundle : Bundle) where
  -- by the digests that some rule needs
  pub digests_say : (needed : List HashAlgorithm) (digests : List (HashAlgorithm × List ℕ)) (bytes : List ℕ) → needed_by_rules bundle terms.rules ≡ Some needed
      → digests ≡ digests_by needed bytes → length bytes ≤ max → verdict_had terms bundle (read.Digests digests) ≡ by_rules terms max bundle bytes
  digests_say needed digests bytes is same short =
      ap (λ ds. verdict_had terms bundle (read.Digests ds)) same
      ∙ ap by_answers (digests_suffice terms.grounds bundle bytes needed terms.rules is)
      ∙ ap (λ had. by_answers (answers_of terms.grounds bundle had terms.rules)) (sym (had_whole max bytes short))

  -- by more bytes than the limit
  pub longer_says : (limit : ℕ) (bytes : List ℕ) → limit ≡ max → max < length bytes
      → verdict_had terms bundle (read.Unread (TooLong limit)) ≡ by_rules terms max bundle bytes
  longer_says limit bytes is long =
      ap (λ l. verdict_had terms bundle (read.Unread (TooLong l))) is
      ∙ ap by_answers (unread_answers terms.grounds bundle (TooLong max) terms.rules)
      ∙ ap (λ had. by_answers (answers_of terms.grounds bundle had terms.rules)) (sym (had_longer max bytes long))

  -- a rule that refuses before the artifact refuses so whatever is had of it
  refuses_before : (had : Had) (policy : Meaning) (e : Error) → prepared_of read_kind policy bundle ≡ Err e → answer_of terms.grounds bundle had policy ≡ Err e
  refuses_before (Whole bytes) policy e p =
      ap (λ r. r >>= λ (report : VerificationResult). Ok (record { result = report; digests = digests_by (needed_by policy bundle) bytes }))
      (unready (terms_over terms.grounds policy) bundle (Read bytes) e p)
  refuses_before (Unread fault) policy e p = ap (λ r. r >>= λ (ready : Ready). Err (ArtifactRead fault)) p

  -- where all do, the artifact's bytes make no difference
  pub none_needed : (artifact : ReadArtifact) (bytes : List ℕ) → needed_by_rules bundle terms.rules ≡ None → by_rules terms max bundle bytes ≡ verdict_had terms bundle artifact
  none_needed artifact bytes is =
      let u = needed_none bundle terms.rules is in
      ap by_answers (each_refuses (answer_of terms.grounds bundle (had_of max bytes)) 1 terms.rules u.0 (all_zip (refuses_before (had_of max bytes)) terms.rules u.0 u.1))
      ∙ sym (ap by_answers (unprepared_answers terms.grounds bundle artifact 1 terms.rules u.0 u.1))
