-- Over a source that tells its bytes within the limit and doesn't fail, the judgement is the verdict, unless memory is wanting.
use Rattle.std.proofs.Common.{◌≡◌, ◌≢◌, ◌⊎◌, inl, inr, ℕ, ◌+◌, ◌≤◌, List, ◌++◌, append-nil, length, length-append, Option, Some, None, Result, Ok, Err, sym, ap, ◌∙◌, arith}
use Rattle.std.specs.Io.KnownBytes.{prepend_known, IsAtEnd}
use Rattle.foundation.specs.Steps.{◌>>=◌}
use Rattle.foundation.specs.Watched.{Watched, Rose}
use Rattle.foundation.specs.Results.{some_same}
use Rattle.sigstore_types.specs.declared.bundle.Bundle.{Bundle}
use Rattle.sigstore_types.specs.declared.trusted_root.TrustedRoot.{TrustedRoot}
use Rattle.sigstore_keys.specs.Digest.{digests_by}
use Rattle.sigstore_keys.specs.declared.reader.ReadError.{ReadError}
use Rattle.sigstore_keys.specs.declared.reader.ReadError.TheVariants.{Failed, TooLong}
use Rattle.sigstore_judgement.specs.declared.error.Error.{Error}
use Rattle.sigstore_judgement.specs.declared.error.Error.TheVariants as verify
use Rattle.sigstore_judgement.specs.declared.report.JudgedBundle.{JudgedBundle}
use Rattle.sigstore_judgement.specs.declared.report.VerificationResult.{VerificationResult}
use Rattle.sigstore_judgement.specs.declared.trust.Material.{Material}
use Rattle.sigstore_judgement.specs.Artifact.{Read}
use Rattle.sigstore_judgement.specs.Judged.{judged_of, needed_by}
use Rattle.sigstore_judgement.specs.Promise.{ReadWhole, ReadCause, Cause, VerifiesKept}
use Rattle.sigstore_judgement.specs.Trust.{material_of}
use Rattle.sigstore_judgement.specs.Under.{trust_of, bundle_of, Asked, terms_of, JudgesBundle, trust_refused, verifier_refused, bundle_refused, judged, verdict_by}
use Rattle.sigstore_judgement.proofs.Stages.{unready}
use Rattle.sigstore_judgement.proofs.Wanting.{is_want}

-- ---- the bytes of the artifact

-- bytes that a source gave up to its end are those that it tells
pub read_whole : (old new : Watched (List ℕ)) (max : ℕ) (bytes read : List ℕ) → old.told ≡ Some bytes → ReadWhole old new max read → read ≡ bytes
read_whole old new max bytes read told w = by_told new.told (sym told ∙ w.given) w.ended
  where
    by_told : (rest : Option (List ℕ)) → Some bytes ≡ prepend_known read rest → IsAtEnd rest → read ≡ bytes
    by_told None e h = cc
    by_told (Some xs) e h = sym (some_same bytes (read ++ xs) e ∙ ap (λ x. read ++ x) h ∙ append-nil read)

-- more than the limit isn't given where there is no more
never_too_long : (old new : Watched (List ℕ)) (max : ℕ) (bytes read : List ℕ) → old.told ≡ Some bytes → length bytes ≤ max → old.told ≡ prepend_known read new.told → length read ≡ max + 1 → ⊥
never_too_long old new max bytes read told short given long = by_told new.told (sym told ∙ given)
  where
    by_told : (rest : Option (List ℕ)) → Some bytes ≡ prepend_known read rest → ⊥
    by_told None e = cc
    by_told (Some xs) e =
        let whole = ap length (some_same bytes (read ++ xs) e) in
        let parts = length-append read xs in
        omega (arith, whole, parts, short, long)

pub never_unread : (old new : Watched (List ℕ)) (max : ℕ) (bytes : List ℕ) (fault : ReadError) → old.told ≡ Some bytes → (Rose old.faults new.faults → ⊥) → length bytes ≤ max → ReadCause old new max fault → ⊥
never_unread old new max bytes Failed told quiet short c = quiet c
never_unread old new max bytes (TooLong limit) told quiet short (at, read, given, long) = never_too_long old new max bytes read told short given long

-- ---- steps

pub step_to : {A B E : Type 0} (r : Result A E) (f : A → Result B E) (x : A) → r ≡ Ok x → (r >>= f) ≡ f x
step_to r f x h = ap (λ r. r >>= f) h

pub step_err : {A B E : Type 0} (r : Result A E) (f : A → Result B E) (e : E) → r ≡ Err e → (r >>= f) ≡ Err e
step_err r f e h = ap (λ r. r >>= f) h

-- what follows each step of the verdict
abbrev told_of : Asked → List ℕ → Bundle → VerificationResult → Result JudgedBundle Error
told_of asked bytes bundle report = Ok (record { result = report; digests = digests_by (needed_by asked.policy bundle) bytes })

abbrev after_bundle : Asked → List ℕ → Material → Bundle → Result JudgedBundle Error
after_bundle asked bytes material bundle = judged_of (terms_of asked material) bundle (Read bytes) >>= told_of asked bytes bundle

abbrev after_use : Asked → List ℕ → Material → Result JudgedBundle Error
after_use asked bytes material = bundle_of asked.bundle >>= after_bundle asked bytes material

abbrev after_trust : Asked → List ℕ → TrustedRoot → Result JudgedBundle Error
after_trust asked bytes trust = material_of trust >>= after_use asked bytes

module _ (asked : Asked) (source source' : Watched (List ℕ)) (file bytes : List ℕ) (told : source.told ≡ Some bytes) (quiet : Rose source.faults source'.faults → ⊥)
    (short : length bytes ≤ asked.max) where
  abbrev pub Verdict : Result JudgedBundle Error → Type 0
  Verdict result = (result ≡ Err verify.NoMemory) ⊎ (result ≡ verdict_by asked file bytes)

  refused_so : (e : Error) (result : Result JudgedBundle Error) → result ≡ Err e → (e ≢ verify.NoMemory → verdict_by asked file bytes ≡ Err e) → Verdict result
  refused_so e result is h = by_want (is_want e)
    where
      by_want : (e ≡ verify.NoMemory) ⊎ (e ≢ verify.NoMemory) → Verdict result
      by_want (inl w) = inl (is ∙ ap Err w)
      by_want (inr w) = inr (is ∙ sym (h w))

  trust_err : (e : Error) → trust_of file ≡ Err e → verdict_by asked file bytes ≡ Err e
  unfolding verdict_by
  trust_err e h = step_err (trust_of file) (after_trust asked bytes) e h

  usable_err : (trust : TrustedRoot) (e : Error) → trust_of file ≡ Ok trust → material_of trust ≡ Err e → verdict_by asked file bytes ≡ Err e
  unfolding verdict_by
  usable_err trust e t h = step_to (trust_of file) (after_trust asked bytes) trust t ∙ step_err (material_of trust) (after_use asked bytes) e h

  bundle_err : (trust : TrustedRoot) (material : Material) (e : Error) → trust_of file ≡ Ok trust → material_of trust ≡ Ok material → bundle_of asked.bundle ≡ Err e → verdict_by asked file bytes ≡ Err e
  unfolding verdict_by
  bundle_err trust material e t u h =
      step_to (trust_of file) (after_trust asked bytes) trust t ∙ step_to (material_of trust) (after_use asked bytes) material u
      ∙ step_err (bundle_of asked.bundle) (after_bundle asked bytes material) e h

  module _ (trust : TrustedRoot) (material : Material) (bundle : Bundle) (t : trust_of file ≡ Ok trust) (u : material_of trust ≡ Ok material) (b : bundle_of asked.bundle ≡ Ok bundle) where
    to_judged : verdict_by asked file bytes ≡ after_bundle asked bytes material bundle
    unfolding verdict_by
    to_judged =
        step_to (trust_of file) (after_trust asked bytes) trust t ∙ step_to (material_of trust) (after_use asked bytes) material u
        ∙ step_to (bundle_of asked.bundle) (after_bundle asked bytes material) bundle b

    judged_err : (e : Error) → judged_of (terms_of asked material) bundle (Read bytes) ≡ Err e → verdict_by asked file bytes ≡ Err e
    judged_err e h = to_judged ∙ step_err (judged_of (terms_of asked material) bundle (Read bytes)) (told_of asked bytes bundle) e h

    judged_ok : (report : VerificationResult) → judged_of (terms_of asked material) bundle (Read bytes) ≡ Ok report
        → verdict_by asked file bytes ≡ Ok (record { result = report; digests = digests_by (needed_by asked.policy bundle) bytes })
    judged_ok report h = to_judged ∙ step_to (judged_of (terms_of asked material) bundle (Read bytes)) (told_of asked bytes bundle) report h

    by_cause : (e : Error) → Cause (terms_of asked material) bundle source source' asked.max e → Verdict (Err e)
    by_cause e (inl w) = inl (ap Err w)
    by_cause e (inr (inl c)) = inr (sym (judged_err e (unready (terms_of asked material) bundle (Read bytes) e c.refusal)))
    by_cause e (inr (inr (inl c))) = absurd (never_unread source source' asked.max bytes c.refusal.0 told quiet short c.refusal.2)
    by_cause e (inr (inr (inr c))) =
        let same = read_whole source source' asked.max bytes c.refusal.0 told c.refusal.1 in
        inr (sym (judged_err e (ap (λ x. judged_of (terms_of asked material) bundle (Read x)) (sym same) ∙ c.refusal.2)))

    by_result : (result : Result JudgedBundle Error) → VerifiesKept (terms_of asked material) bundle source source' asked.max result → Verdict result
    by_result (Ok kept) v =
        let a = v.accepted in
        let same = read_whole source source' asked.max bytes a.0 told a.1.read in
        let ok = judged_ok kept.result (ap (λ x. judged_of (terms_of asked material) bundle (Read x)) (sym same) ∙ a.1.judged) in
        inr (ap (λ d. Ok (record { result = kept.result; digests = d })) (a.2 ∙ ap (λ x. digests_by (needed_by asked.policy bundle) x) same) ∙ sym ok)
    by_result (Err e) v = by_cause e v.refused

  pub judge_completes : (result : Result JudgedBundle Error) → JudgesBundle asked file source source' result → Verdict result
  judge_completes result (trust_refused e h s is) = refused_so e result is (λ other. trust_err e (h other))
  judge_completes result (verifier_refused trust e t h s is) = refused_so e result is (λ other. usable_err trust e t (h other))
  judge_completes result (bundle_refused trust material e t u h s is) = refused_so e result is (λ other. bundle_err trust material e t u (h other))
  judge_completes result (judged trust material bundle t u b v) = by_result trust material bundle t u b result v
