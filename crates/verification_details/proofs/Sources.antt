-- The lines tell who told the times: the tokens' times stand together, and there are as many as tokens.
use Rattle.std.proofs.Common.{◌≡◌, ℕ, suc, ◌+◌, ◌-◌, List, [], ◌∷◌, ◌++◌, length, drop, codes, Some, None, Ok, refl, sym, ap, ◌∙◌, subst, arith}
use Rattle.std.proofs.lemmas.List.{length-append, take_at, drop_at}
use Rattle.jiff_core.specs.declared.timestamp.Timestamp as jiff
use Rattle.foundation.specs.Results.{step_ok, ok_same}
use Rattle.certificate_claims.specs.declared.certificate_info.CertificateInfo.{CertificateInfo}
use Rattle.sigstore_types.specs.declared.bundle.Bundle.{Bundle}
use Rattle.sigstore_types.specs.Bundle.{entries_in, tokens_in}
use Rattle.sigstore_policy.specs.declared.certificate.VerificationPolicy.{VerificationPolicy}
use Rattle.sigstore_policy.specs.declared.public_key.PublicKeyVerificationPolicy.{PublicKeyVerificationPolicy}
use Rattle.sigstore_certificate.specs.Certified.{certified_of}
use Rattle.sigstore_judgement.specs.declared.evidence.Evidence.{Evidence}
use Rattle.sigstore_judgement.specs.Conditions.{conditions_judged_of}
use Rattle.sigstore_judgement.specs.Content.{signature_in, content_judged_of}
use Rattle.sigstore_judgement.specs.Evidence.{report_of}
use Rattle.sigstore_judgement.specs.Grounds.{Grounds, trust_in}
use Rattle.sigstore_judgement.specs.Judged.{judged_had, vouched_of, intermediates_in, managed_vouched_of, owner_vouched_of}
use Rattle.sigstore_judgement.specs.Signer.{Signer, Managed, Certified, conditions_in}
use Rattle.sigstore_judgement.specs.Entries.{log_judged_of, log_count_of, logs_judged_of, entries_described_of}
use Rattle.sigstore_judgement.specs.Error.{by_certificate}
use Rattle.sigstore_judgement.specs.Tokens.{tokens_judged_of, AreStamped}
use Rattle.sigstore_judgement.specs.Verified.{promises_judged_of, some_time, verified_of}
use Rattle.sigstore_judgement.proofs.TokenLaw.{are_stamped}
use Rattle.verification_details.specs.Lines.{time_lines, parted_lines, source_lines}
use Rattle.verification_details.specs.Laws.{TellsSources, SourcesAreTold}

-- ---- as many as tokens

as_many : (grounds : Grounds) (signature : List ℕ) (tokens : List (List ℕ)) (times : List jiff.Timestamp) → AreStamped grounds signature tokens times
    → length times ≡ length tokens
as_many grounds signature [] [] a = refl
as_many grounds signature [] (time ∷ times) a = absurd a
as_many grounds signature (token ∷ tokens) [] a = absurd a
as_many grounds signature (token ∷ tokens) (time ∷ times) a = ap suc (as_many grounds signature tokens times a.1)

-- ---- the lines of times that are parted

parted : (first second : List ℕ) (count : ℕ) (xs ys : List jiff.Timestamp) → length xs ≡ count
    → parted_lines first second count (xs ++ ys) ≡ time_lines first xs ++ time_lines second ys
parted first second count xs ys h =
    ap (λ front. time_lines first front ++ time_lines second (drop count (xs ++ ys))) (take_at xs ys count h)
    ∙ ap (λ behind. time_lines first xs ++ time_lines second behind) (drop_at xs ys count h)

in_front : (xs ys : List jiff.Timestamp) (count : ℕ) → length ys ≡ count → length xs ≡ length (xs ++ ys) - count
in_front xs ys count h = let whole = length-append xs ys in omega (arith, whole, h)

-- ---- who told them

some_times : (xs ys : List jiff.Timestamp) → some_time xs ≡ Ok ys → ys ≡ xs
some_times [] ys h = cc
some_times (x ∷ xs) ys h = sym (ok_same (x ∷ xs) ys h)

by_key : (grounds : Grounds) (policy : PublicKeyVerificationPolicy) (bundle : Bundle) (evidence : Evidence)
    → managed_vouched_of grounds policy bundle ≡ Ok evidence → TellsSources grounds (Managed policy) bundle (report_of (Managed policy) evidence)
unfolding managed_vouched_of
by_key grounds policy bundle evidence h =
    let logged = step_ok (log_judged_of grounds (Managed policy) policy.verify_tlog (entries_in bundle)) _ evidence h in
    let counted = step_ok (logs_judged_of policy.verify_tlog policy.logs (log_count_of grounds policy.verify_tlog (entries_in bundle))) _ evidence logged.2 in
    let timed = step_ok (tokens_judged_of grounds (signature_in bundle.content) (tokens_in bundle)) _ evidence counted.2 in
    let stamped = are_stamped grounds (signature_in bundle.content) (tokens_in bundle) timed.0 timed.1 in
    let many = as_many grounds (signature_in bundle.content) (tokens_in bundle) timed.0 stamped in
    let times : evidence.times ≡ logged.0 ++ timed.0 = sym (ap (λ (e : Evidence). e.times) (ok_same _ evidence timed.2)) in
    record {
      stamped = timed.0;
      promised = logged.0;
      tokens = stamped;
      logs = logged.1;
      lines = ap (source_lines (length (tokens_in bundle)) None) times
          ∙ parted (codes "promised") (codes "stamped") (length (logged.0 ++ timed.0) - length (tokens_in bundle)) logged.0 timed.0
          (in_front logged.0 timed.0 (length (tokens_in bundle)) many);
    }

by_owner : (grounds : Grounds) (policy : VerificationPolicy) (info : CertificateInfo) (certificate : List ℕ) (bundle : Bundle) (evidence : Evidence)
    → owner_vouched_of grounds policy info certificate bundle ≡ Ok evidence
    → TellsSources grounds (Certified policy info certificate) bundle (report_of (Certified policy info certificate) evidence)
unfolding owner_vouched_of verified_of
by_owner grounds policy info certificate bundle evidence h =
    let verified = step_ok (verified_of grounds bundle) _ evidence h in
    let owned = step_ok (by_certificate (certified_of (trust_in grounds) policy info certificate (intermediates_in bundle) verified.0)) _ evidence verified.2 in
    let logged = step_ok (log_judged_of grounds (Certified policy info certificate) policy.verify_tlog (entries_in bundle)) _ evidence owned.2 in
    let counted = step_ok (logs_judged_of policy.verify_tlog policy.logs (log_count_of grounds policy.verify_tlog (entries_in bundle))) _ evidence logged.2 in
    let timed = step_ok (tokens_judged_of grounds (signature_in bundle.content) (tokens_in bundle)) _ verified.0 verified.1 in
    let promised = step_ok (promises_judged_of grounds (entries_in bundle)) _ verified.0 timed.2 in
    let stamped = are_stamped grounds (signature_in bundle.content) (tokens_in bundle) timed.0 timed.1 in
    let many = as_many grounds (signature_in bundle.content) (tokens_in bundle) timed.0 stamped in
    let times : evidence.times ≡ timed.0 ++ promised.0 =
    sym (ap (λ (e : Evidence). e.times) (ok_same _ evidence counted.2)) ∙ some_times (timed.0 ++ promised.0) verified.0 promised.2 in
    record {
      stamped = timed.0;
      promised = promised.0;
      tokens = stamped;
      logs = promised.1;
      lines = ap (source_lines (length (tokens_in bundle)) (Some info)) times
          ∙ parted (codes "stamped") (codes "promised") (length (tokens_in bundle)) timed.0 promised.0 many;
    }

by_signer : (grounds : Grounds) (signer : Signer) (bundle : Bundle) (evidence : Evidence) → vouched_of grounds signer bundle ≡ Ok evidence
    → TellsSources grounds signer bundle (report_of signer evidence)
by_signer grounds (Managed policy) bundle evidence h = by_key grounds policy bundle evidence h
by_signer grounds (Certified policy info certificate) bundle evidence h = by_owner grounds policy info certificate bundle evidence h

pub sources_are_told : SourcesAreTold
unfolding judged_had
sources_are_told grounds ready bundle digest bytes result h =
    let vouched = step_ok (vouched_of grounds ready.signer bundle) _ result h in
    let signed = step_ok (content_judged_of grounds.crypto.accepts ready.key bundle.content ready.claim digest bytes) _ result vouched.2 in
    let described = step_ok (entries_described_of grounds ready.signer bundle digest (entries_in bundle)) _ result signed.2 in
    let asked = step_ok (conditions_judged_of (conditions_in ready.signer) ready.claim vouched.0) _ result described.2 in
    subst (TellsSources grounds ready.signer bundle) (ok_same (report_of ready.signer vouched.0) result asked.2)
    (by_signer grounds ready.signer bundle vouched.0 vouched.1)
