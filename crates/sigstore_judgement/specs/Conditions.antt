-- What a policy asks of a signature beside who made it: the type of predicate (in-toto Attestation Framework, Statement v1), by how many
-- parties it is told when it was signed, and when that was.
use Rattle.std.specs.Prelude.{◌≡◌, ◌≢◌, ◌≤◌, ◌<◌, ◌⊎◌, ℕ, List, [], ◌∷◌}
use Rattle.std.specs.Prelude.{Contains, false, if◌then◌else◌, ⊤, Option, Some, None, Result, Ok, Err, IsTrue}
use Rattle.std.specs.List.{AllByRecursion}
use Rattle.foundation.specs.Steps.{◌>>=◌}
use Rattle.jiff_core.specs.declared.timestamp.Timestamp.{Timestamp}
use Rattle.sigstore_keys.specs.declared.distinct.Threshold.{Threshold}
use Rattle.sigstore_keys.specs.Distinct.{is_enough}
use Rattle.sigstore_policy.specs.declared.conditions.SignatureConditions.{SignatureConditions}
use Rattle.sigstore_policy.specs.declared.matcher.TextMatcher.{TextMatcher}
use Rattle.sigstore_policy.specs.Conditions.{asks_window, is_within}
use Rattle.sigstore_policy.specs.Matcher.{text_matches, is_matched}
use Rattle.sigstore_judgement.specs.declared.error.Error.{Error}
use Rattle.sigstore_judgement.specs.declared.error.Error.TheVariants.{PredicateMismatch, TooFewTimes, TooFewTokens, TimeOutside}
use Rattle.sigstore_judgement.specs.declared.evidence.Evidence.{Evidence}
use Rattle.sigstore_judgement.specs.Claim.{Claim, OfDigest, OfStatement}

-- the type of predicate that the envelope's statement tells; a message tells none
abbrev pub predicate_in : Claim → Option (List ℕ)
predicate_in (OfDigest told) = None
predicate_in (OfStatement statement) = Some statement.predicate_type

-- ---- the first that isn't met

-- else something else that was said of the artifact would pass: that somebody looked at it, for how it was built
abbrev pub predicate_judged : Option TextMatcher → Option (List ℕ) → Result ⊤ Error
predicate_judged None told = Ok tt
predicate_judged (Some asked) told = if is_matched asked told then Ok tt else Err (PredicateMismatch asked told)

-- else fewer parties could agree on a time at which a key that was stolen, or a certificate that ended, was still good
abbrev pub sources_judged : Option Threshold → ℕ → Result ⊤ Error
sources_judged None found = Ok tt
sources_judged (Some asked) found = if is_enough asked found then Ok tt else Err (TooFewTimes asked.value found)

abbrev pub authorities_judged : Option Threshold → ℕ → Result ⊤ Error
authorities_judged None found = Ok tt
authorities_judged (Some asked) found = if is_enough asked found then Ok tt else Err (TooFewTokens asked.value found)

-- each verified time, and not one alone: then no single party's word about the time suffices
abbrev pub each_within : SignatureConditions → List Timestamp → Result ⊤ Error
each_within asked [] = Ok tt
each_within asked (time ∷ times) = if is_within asked time then each_within asked times else Err (TimeOutside time)

-- where it is asked when it was signed, some verified time has to tell
abbrev pub window_judged : SignatureConditions → List Timestamp → Result ⊤ Error
window_judged asked [] = if asks_window asked then Err (TooFewTimes 1 0) else Ok tt
window_judged asked (time ∷ times) = each_within asked (time ∷ times)

unfoldable pub conditions_judged_of : SignatureConditions → Claim → Evidence → Result ⊤ Error
conditions_judged_of asked claim evidence = do
  _ ← predicate_judged asked.predicate (predicate_in claim)
  _ ← sources_judged asked.times evidence.parties.sources
  _ ← authorities_judged asked.tokens evidence.parties.authorities
  window_judged asked evidence.times

-- ---- the same without an order of checks

abbrev pub HasPredicate : Option TextMatcher → Claim → Type 0
HasPredicate None claim = ⊤
HasPredicate (Some asked) claim = (text : List ℕ) × (predicate_in claim ≡ Some text) × IsTrue (text_matches asked text)

abbrev pub HasAtLeast : Option Threshold → ℕ → Type 0
HasAtLeast None found = ⊤
HasAtLeast (Some asked) found = asked.value ≤ found

pub record MeetsConditions (asked : SignatureConditions) (claim : Claim) (evidence : Evidence) : Type 0 where
  pub predicate : HasPredicate asked.predicate claim
  pub sources : HasAtLeast asked.times evidence.parties.sources
  pub authorities : HasAtLeast asked.tokens evidence.parties.authorities
  pub some : IsTrue (asks_window asked) → evidence.times ≢ []
  pub window : AllByRecursion (λ time. IsTrue (is_within asked time)) evidence.times

-- ---- why one isn't met

-- so many are asked for, and these are fewer
pub record AreFewer (asked : Option Threshold) (wanted found : ℕ) : Type 0 where
  pub threshold : Threshold
  pub is : asked ≡ Some threshold
  pub wants : wanted ≡ threshold.value
  pub few : found < wanted

-- it is asked when it was signed, and nothing tells
pub record IsUntimed (asked : SignatureConditions) (times : List Timestamp) (wanted found : ℕ) : Type 0 where
  pub asks : IsTrue (asks_window asked)
  pub none : times ≡ []
  pub one : wanted ≡ 1
  pub nought : found ≡ 0

abbrev pub ConditionCause : SignatureConditions → Claim → Evidence → Error → Type 0
ConditionCause asked claim evidence (PredicateMismatch matcher told) =
    (asked.predicate ≡ Some matcher) × ((predicate_in claim ≡ told) × (is_matched matcher told ≡ false))
ConditionCause asked claim evidence (TooFewTimes wanted found) =
    ((found ≡ evidence.parties.sources) × AreFewer asked.times wanted found) ⊎ IsUntimed asked evidence.times wanted found
ConditionCause asked claim evidence (TooFewTokens wanted found) =
    (found ≡ evidence.parties.authorities) × AreFewer asked.tokens wanted found
ConditionCause asked claim evidence (TimeOutside time) = Contains evidence.times time × (is_within asked time ≡ false)
ConditionCause asked claim evidence _ = ⊥
