-- What a policy asks beside who signed passes exactly where it is met, and each refusal has its cause.
use Rattle.std.proofs.Common.{◌≡◌, ◌≢◌, ◌≤◌, ◌<◌, ◌⊎◌, inl, inr, ℕ, suc, List, [], ◌∷◌, Bool, true, false, if◌then◌else◌, Option, Some, None, Result, Ok, Err, refl, sym, ap, ◌∙◌, subst, arith}
use Rattle.std.proofs.lemmas.Bool.{leb-true, leb-false, le-leb}
use Rattle.std.specs.List.{AllByRecursion}
use Rattle.std.specs.Prelude.{⊤, Contains, IsTrue, nat_le}
use Rattle.foundation.specs.Steps.{◌>>=◌}
use Rattle.foundation.specs.Results.{step_ok, err_same, refused_at}
use Rattle.jiff_core.specs.declared.timestamp.Timestamp.{Timestamp}
use Rattle.sigstore_keys.specs.declared.distinct.Threshold.{Threshold}
use Rattle.sigstore_keys.specs.Distinct.{is_enough}
use Rattle.sigstore_policy.specs.declared.conditions.SignatureConditions.{SignatureConditions}
use Rattle.sigstore_policy.specs.declared.matcher.TextMatcher.{TextMatcher}
use Rattle.sigstore_policy.specs.Conditions.{asks_window, is_within}
use Rattle.sigstore_policy.specs.Matcher.{text_matches, is_matched}
use Rattle.sigstore_judgement.specs.declared.error.Error.{Error}
use Rattle.sigstore_judgement.specs.declared.error.Error.TheVariants.{PredicateMismatch, TooFewTimes, TooFewTokens, TimeOutside}
use Rattle.sigstore_judgement.specs.declared.evidence.Evidence.{Evidence}
use Rattle.sigstore_judgement.specs.Claim.{Claim}
use Rattle.sigstore_judgement.specs.Conditions.{predicate_in, predicate_judged, sources_judged, authorities_judged, each_within, window_judged, conditions_judged_of, HasPredicate, HasAtLeast, MeetsConditions, AreFewer, ConditionCause}
use Rattle.sigstore_judgement.proofs.EntryCauses.{among_first, among_later}

passes : (b : Bool) (e : Error) (x : ⊤) → ◌≡◌ {A = Result ⊤ Error} (if b then Ok tt else Err e) (Ok x) → b ≡ true
passes true e x h = refl
passes false e x h = cc

fails : (b : Bool) (e f : Error) → ◌≡◌ {A = Result ⊤ Error} (if b then Ok tt else Err e) (Err f) → (b ≡ false) × (e ≡ f)
fails true e f h = cc
fails false e f h = (refl, err_same e f h)

-- ---- the type of predicate

predicate_means : (asked : Option TextMatcher) (claim : Claim) (x : ⊤) → predicate_judged asked (predicate_in claim) ≡ Ok x → HasPredicate asked claim
predicate_means None claim x h = tt
predicate_means (Some matcher) claim x h = by (predicate_in claim) refl h
  where
    by : (told : Option (List ℕ)) → predicate_in claim ≡ told → predicate_judged (Some matcher) told ≡ Ok x → HasPredicate (Some matcher) claim
    by None is k = cc
    by (Some text) is k = (text, is, passes (text_matches matcher text) (PredicateMismatch matcher (Some text)) x k)

predicate_passes : (asked : Option TextMatcher) (claim : Claim) → HasPredicate asked claim → predicate_judged asked (predicate_in claim) ≡ Ok tt
predicate_passes None claim h = refl
predicate_passes (Some matcher) claim h =
    ap (λ told. predicate_judged (Some matcher) told) h.1
    ∙ ap (λ (b : Bool). if b then Ok tt else Err (PredicateMismatch matcher (Some h.0))) h.2

-- ---- how many

sources_mean : (asked : Option Threshold) (found : ℕ) (x : ⊤) → sources_judged asked found ≡ Ok x → HasAtLeast asked found
sources_mean None found x h = tt
sources_mean (Some asked) found x h = leb-true asked.value found (passes (is_enough asked found) (TooFewTimes asked.value found) x h)

sources_pass : (asked : Option Threshold) (found : ℕ) → HasAtLeast asked found → sources_judged asked found ≡ Ok tt
sources_pass None found h = refl
sources_pass (Some asked) found h =
    ap (λ (b : Bool). if b then Ok tt else Err (TooFewTimes asked.value found)) (le-leb asked.value found h)

authorities_mean : (asked : Option Threshold) (found : ℕ) (x : ⊤) → authorities_judged asked found ≡ Ok x → HasAtLeast asked found
authorities_mean None found x h = tt
authorities_mean (Some asked) found x h = leb-true asked.value found (passes (is_enough asked found) (TooFewTokens asked.value found) x h)

authorities_pass : (asked : Option Threshold) (found : ℕ) → HasAtLeast asked found → authorities_judged asked found ≡ Ok tt
authorities_pass None found h = refl
authorities_pass (Some asked) found h =
    ap (λ (b : Bool). if b then Ok tt else Err (TooFewTokens asked.value found)) (le-leb asked.value found h)

-- ---- when

module _ (asked : SignatureConditions) where
  abbrev within : Timestamp → Type 0
  within time = IsTrue (is_within asked time)

  each_means : (times : List Timestamp) (x : ⊤) → each_within asked times ≡ Ok x → AllByRecursion within times
  each_means [] x h = tt
  each_means (time ∷ times) x h = by (is_within asked time) refl h (each_means times x)
    where
      by : (b : Bool) → is_within asked time ≡ b → (if b then each_within asked times else Err (TimeOutside time)) ≡ Ok x
          → (each_within asked times ≡ Ok x → AllByRecursion within times) → AllByRecursion within (time ∷ times)
      by true is k later = (is, later k)
      by false is k later = cc

  each_passes : (times : List Timestamp) → AllByRecursion within times → each_within asked times ≡ Ok tt
  each_passes [] h = refl
  each_passes (time ∷ times) h = ap (λ (b : Bool). if b then each_within asked times else Err (TimeOutside time)) h.0 ∙ each_passes times h.1

  window_means : (times : List Timestamp) (x : ⊤) → window_judged asked times ≡ Ok x
      → (IsTrue (asks_window asked) → times ≢ []) × AllByRecursion within times
  window_means [] x h = by (asks_window asked) refl h
    where
      by : (b : Bool) → asks_window asked ≡ b → ◌≡◌ {A = Result ⊤ Error} (if b then Err (TooFewTimes 1 0) else Ok tt) (Ok x)
          → (IsTrue (asks_window asked) → ◌≢◌ {A = List Timestamp} [] []) × ⊤
      by true is k = cc
      by false is k = (λ asks none. cc, tt)
  window_means (time ∷ times) x h = (λ asks none. cc, each_means (time ∷ times) x h)

  window_passes : (times : List Timestamp) → (IsTrue (asks_window asked) → times ≢ []) → AllByRecursion within times → window_judged asked times ≡ Ok tt
  window_passes [] some h = by (asks_window asked) refl
    where
      by : (b : Bool) → asks_window asked ≡ b → ◌≡◌ {A = Result ⊤ Error} (if b then Err (TooFewTimes 1 0) else Ok tt) (Ok tt)
      by true is = absurd (some is refl)
      by false is = refl
  window_passes (time ∷ times) some h = each_passes (time ∷ times) h

  -- ---- all

  module _ (claim : Claim) (evidence : Evidence) where
    abbrev windowed : ⊤ → Result ⊤ Error
    windowed u = window_judged asked evidence.times

    abbrev authorised : ⊤ → Result ⊤ Error
    authorised u = authorities_judged asked.tokens evidence.parties.authorities >>= windowed

    abbrev sourced : ⊤ → Result ⊤ Error
    sourced u = sources_judged asked.times evidence.parties.sources >>= authorised

    pub conditions_mean : (x : ⊤) → conditions_judged_of asked claim evidence ≡ Ok x → MeetsConditions asked claim evidence
    unfolding conditions_judged_of
    conditions_mean x h =
        let a = step_ok (predicate_judged asked.predicate (predicate_in claim)) sourced x h in
        let b = step_ok (sources_judged asked.times evidence.parties.sources) authorised x a.2 in
        let c = step_ok (authorities_judged asked.tokens evidence.parties.authorities) windowed x b.2 in
        let w = window_means evidence.times x c.2 in
        record {
          predicate = predicate_means asked.predicate claim a.0 a.1;
          sources = sources_mean asked.times evidence.parties.sources b.0 b.1;
          authorities = authorities_mean asked.tokens evidence.parties.authorities c.0 c.1;
          some = w.0;
          window = w.1;
        }

    pub conditions_pass : MeetsConditions asked claim evidence → conditions_judged_of asked claim evidence ≡ Ok tt
    unfolding conditions_judged_of
    conditions_pass m =
        ap (λ r. r >>= sourced) (predicate_passes asked.predicate claim m.predicate)
        ∙ ap (λ r. r >>= authorised) (sources_pass asked.times evidence.parties.sources m.sources)
        ∙ ap (λ r. r >>= windowed) (authorities_pass asked.tokens evidence.parties.authorities m.authorities)
        ∙ window_passes evidence.times m.some m.window

    -- ---- refusals

    abbrev Caused : Error → Type 0
    Caused e = ConditionCause asked claim evidence e

    predicate_caused : (o : Option TextMatcher) (e : Error) → asked.predicate ≡ o → predicate_judged o (predicate_in claim) ≡ Err e → Caused e
    predicate_caused None e is h = cc
    predicate_caused (Some matcher) e is h =
        let f = fails (is_matched matcher (predicate_in claim)) (PredicateMismatch matcher (predicate_in claim)) e h in
        subst Caused f.1 (is, (refl, f.0))

    sources_caused : (o : Option Threshold) (e : Error) → asked.times ≡ o → sources_judged o evidence.parties.sources ≡ Err e → Caused e
    sources_caused None e is h = cc
    sources_caused (Some threshold) e is h =
        let f = fails (is_enough threshold evidence.parties.sources) (TooFewTimes threshold.value evidence.parties.sources) e h in
        subst Caused f.1 (inl (refl, record { threshold = threshold; is = is; wants = refl; few = leb-false threshold.value evidence.parties.sources f.0 }))

    authorities_caused : (o : Option Threshold) (e : Error) → asked.tokens ≡ o → authorities_judged o evidence.parties.authorities ≡ Err e → Caused e
    authorities_caused None e is h = cc
    authorities_caused (Some threshold) e is h =
        let f = fails (is_enough threshold evidence.parties.authorities) (TooFewTokens threshold.value evidence.parties.authorities) e h in
        subst Caused f.1 (refl, record { threshold = threshold; is = is; wants = refl; few = leb-false threshold.value evidence.parties.authorities f.0 })

    each_caused : (times : List Timestamp) (e : Error) → ((time : Timestamp) → Contains times time → Contains evidence.times time) → each_within asked times ≡ Err e → Caused e
    each_caused [] e among h = cc
    each_caused (time ∷ times) e among h = by (is_within asked time) refl h (each_caused times e (λ t c. among t (among_later time times t c)))
      where
        by : (b : Bool) → is_within asked time ≡ b → (if b then each_within asked times else Err (TimeOutside time)) ≡ Err e
            → (each_within asked times ≡ Err e → Caused e) → Caused e
        by true is k later = later k
        by false is k later = subst Caused (err_same (TimeOutside time) e k) (among time (among_first time times), is)

    window_caused : (times : List Timestamp) (e : Error) → evidence.times ≡ times → window_judged asked times ≡ Err e → Caused e
    window_caused [] e is h = by (asks_window asked) refl h
      where
        by : (b : Bool) → asks_window asked ≡ b → ◌≡◌ {A = Result ⊤ Error} (if b then Err (TooFewTimes 1 0) else Ok tt) (Err e) → Caused e
        by true asks k = subst Caused (err_same (TooFewTimes 1 0) e k) (inr (record { asks = asks; none = is; one = refl; nought = refl }))
        by false asks k = cc
    window_caused (time ∷ times) e is h =
        each_caused (time ∷ times) e (λ t c. subst (λ all. Contains all t) (sym is) c) h

    pub conditions_caused : (e : Error) → conditions_judged_of asked claim evidence ≡ Err e → Caused e
    unfolding conditions_judged_of
    conditions_caused e h =
        refused_at (predicate_judged asked.predicate (predicate_in claim)) sourced e h (predicate_caused asked.predicate e refl) (λ u p k.
        refused_at (sources_judged asked.times evidence.parties.sources) authorised e k (sources_caused asked.times e refl) (λ v q l.
        refused_at (authorities_judged asked.tokens evidence.parties.authorities) windowed e l (authorities_caused asked.tokens e refl) (λ w r m.
        window_caused evidence.times e refl m)))
