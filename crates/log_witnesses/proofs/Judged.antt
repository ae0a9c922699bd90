-- What follows from the judgement of a checkpoint by its witnesses.
use Rattle.std.proofs.Common.{◌≡◌, ◌≢◌, ℕ, ◌<◌, ◌≤◌, List, length, Bool, true, false, if◌then◌else◌, nat_le, Result, Ok, Err, refl, subst, arith}
use Rattle.std.specs.Prelude.{IfOk, IfErr, OnOk}
use Rattle.std.proofs.lemmas.Bool.Decides.{nat_tests}
use Rattle.foundation.specs.Results.{no_both, err_same}
use Rattle.sigstore_keys.specs.Distinct.{is_enough}
use Rattle.sigstore_keys.specs.Good.{Judge}
use Rattle.sigstore_keys.specs.declared.distinct.Threshold.{Threshold}
use Rattle.sigstore_entries.specs.declared.checkpoint.Checkpoint.{Checkpoint}
use Rattle.log_witnesses.specs.Cosigned.{cosigned_by, cosigned_judged, max_witnesses}
use Rattle.log_witnesses.specs.IsCosigned.{IsCosigned}
use Rattle.log_witnesses.specs.Cause.{WitnessCause}
use Rattle.log_witnesses.specs.declared.error.WitnessError.{WitnessError}
use Rattle.log_witnesses.specs.declared.error.WitnessError.TheVariants.{Form, KeyType, KeyId, TooMany, TooFew, NoMemory}
use Rattle.log_witnesses.specs.declared.witness.Witness.{Witness}
use Rattle.log_witnesses.proofs.CosignedLaw.{cosigned_exactly}

le_of_test : (m n : ℕ) → nat_le m n ≡ true → m ≤ n
le_of_test m n h = grind (arith, nat_tests)

lt_of_test : (m n : ℕ) → nat_le m n ≡ false → n < m
lt_of_test m n h = grind (arith, nat_tests)

not_both : (m n : ℕ) → m < n → n ≤ m → ⊥
not_both m n h k = absurd (omega (arith, h, k))

module _ (accepts : Judge) (asked : Threshold) (witnesses : List Witness) (checkpoint : Checkpoint) where
  abbrev Count : ℕ
  Count = cosigned_by accepts witnesses checkpoint

  abbrev Judged : Result ℕ WitnessError
  Judged = cosigned_judged accepts asked witnesses checkpoint

  abbrev Cosigned : Type 0
  Cosigned = IsCosigned accepts asked.value witnesses checkpoint

  abbrev Cause : WitnessError → Type 0
  Cause = WitnessCause accepts asked witnesses checkpoint

  abbrev judged_by : Bool → Bool → Result ℕ WitnessError
  judged_by few enough = if few then (if enough then Ok Count else Err (TooFew asked.value Count)) else Err TooMany

  -- ---- where it is Ok

  cosigned_by_tests : (few enough : Bool) → is_enough asked Count ≡ enough → (count : ℕ) → judged_by few enough ≡ Ok count → Cosigned
  cosigned_by_tests true true is count h = (cosigned_exactly accepts asked.value witnesses checkpoint).0 (le_of_test asked.value Count is)
  cosigned_by_tests true false is count h = cc
  cosigned_by_tests false enough is count h = cc

  pub cosigned_where_ok : (r : Result ℕ WitnessError) → IfOk r (λ count. Judged ≡ Ok count) → OnOk r Cosigned
  cosigned_where_ok (Ok count) h = cosigned_by_tests (nat_le (length witnesses) max_witnesses) (is_enough asked Count) refl count h
  cosigned_where_ok (Err e) h = tt

  -- ---- where it is refused

  cause_by_tests : (few enough : Bool) → nat_le (length witnesses) max_witnesses ≡ few → is_enough asked Count ≡ enough → (e : WitnessError) → judged_by few enough ≡ Err e → Cause e
  cause_by_tests true true few is e h = no_both Count e h
  cause_by_tests true false few is e h =
      let fewer = lt_of_test asked.value Count is in
      subst Cause (err_same {A = ℕ} (TooFew asked.value Count) e h) (record {
        wanted_is = refl;
        found_is = refl;
        fewer = fewer;
        lacking = λ cosigned. not_both Count asked.value fewer ((cosigned_exactly accepts asked.value witnesses checkpoint).1 cosigned);
      })
  cause_by_tests false enough few is e h = subst Cause (err_same {A = ℕ} TooMany e h) (lt_of_test (length witnesses) max_witnesses few)

  cause_of : (e : WitnessError) → Judged ≡ Err e → Cause e
  cause_of e h = cause_by_tests (nat_le (length witnesses) max_witnesses) (is_enough asked Count) refl refl e h

  cause_unless : (e : WitnessError) → (e ≢ NoMemory → Judged ≡ Err e) → Cause e
  cause_unless Form h = cause_of Form (h (λ k. cc))
  cause_unless KeyType h = cause_of KeyType (h (λ k. cc))
  cause_unless KeyId h = cause_of KeyId (h (λ k. cc))
  cause_unless TooMany h = cause_of TooMany (h (λ k. cc))
  cause_unless (TooFew wanted found) h = cause_of (TooFew wanted found) (h (λ k. cc))
  cause_unless NoMemory h = tt

  pub cause_where_refused : (r : Result ℕ WitnessError) → IfErr r (λ e. e ≢ NoMemory → Judged ≡ Err e) → IfErr r Cause
  cause_where_refused (Ok count) h = tt
  cause_where_refused (Err e) h = cause_unless e h

  -- ---- where enough cosigned

  wanting_alone : length witnesses ≤ max_witnesses → Cosigned → (e : WitnessError) → Cause e → e ≡ NoMemory
  wanting_alone few cosigned Form cause = absurd cause
  wanting_alone few cosigned KeyType cause = absurd cause
  wanting_alone few cosigned KeyId cause = absurd cause
  wanting_alone few cosigned TooMany cause = absurd (not_both max_witnesses (length witnesses) cause few)
  wanting_alone few cosigned (TooFew wanted found) cause = absurd (cause.lacking cosigned)
  wanting_alone few cosigned NoMemory cause = refl

  pub wanting_where_cosigned : (r : Result ℕ WitnessError) → IfErr r (λ e. e ≢ NoMemory → Judged ≡ Err e) → length witnesses ≤ max_witnesses → Cosigned → IfErr r (λ e. e ≡ NoMemory)
  wanting_where_cosigned (Ok count) h few cosigned = tt
  wanting_where_cosigned (Err e) h few cosigned = wanting_alone few cosigned e (cause_unless e h)
