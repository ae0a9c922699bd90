-- Each refusal of an entry has its cause.
use Rattle.std.proofs.Common.{◌≡◌, ℕ, ℤ, List, length, Bool, true, false, ◌&&◌, not, if◌then◌else◌, Option, Some, None, Result, Ok, Err, refl, sym, subst, ok_or, nat_eq, int_lt, eq-eqb}
use Rattle.std.specs.Prelude.{⊤}
use Rattle.foundation.specs.Results.{err_same, refused_at}
use Rattle.jiff_core.specs.declared.timestamp.Timestamp.{Timestamp}
use Rattle.sigstore_types_parts.specs.Instant.{at_second}
use Rattle.sigstore_keys.specs.declared.key.VerificationKey.{VerificationKey}
use Rattle.sigstore_keys.specs.Good.{Judge}
use Rattle.sigstore_keys.specs.Keyring.{Ring, key_at, key_by}
use Rattle.sigstore_merkle.specs.Tree.{leaf_hash, root_from}
use Rattle.sigstore_entries.specs.declared.checkpoint.Checkpoint.{Checkpoint}
use Rattle.sigstore_entries.specs.declared.inclusion_proof.InclusionProof.{InclusionProof}
use Rattle.sigstore_entries.specs.declared.entry.TransparencyLogEntry.{TransparencyLogEntry}
use Rattle.sigstore_entries.specs.Promise.{payload_of}
use Rattle.sigstore_log.specs.declared.error.LogError.{LogError}
use Rattle.sigstore_log.specs.declared.error.LogError.TheVariants as refusal
use Rattle.sigstore_log.specs.Entry.{logged_of}
use Rattle.sigstore_log.specs.Inclusion.{Place, stands_at, stands_in, place_of, included_of}
use Rattle.sigstore_log.specs.Signed.{is_signed_by, is_of_tree, checkpoint_judged}
use Rattle.sigstore_log.specs.Promise.{id_of, key_of, is_promised, promise_of, tells_time, is_past_or_now, time_judged, promise_judged}
use Rattle.sigstore_log.specs.Cause.{no_proof, not_there, no_checkpoint, other_tree, unsigned, no_key, not_good, LogCause, RefusalsHaveCauses}
use Rattle.sigstore_log.proofs.Including.{some_of, root_passes, tree_fails, none_from_place}
use Rattle.sigstore_log.proofs.Promising.{after_id, id_means}

not_false : (b : Bool) → not b ≡ false → b ≡ true
not_false true h = refl
not_false false h = cc

module _ (accepts : Judge) (logs : Ring) (now : Timestamp) (entry : TransparencyLogEntry) (e : LogError) where
  abbrev Cause : LogError → Type 0
  Cause = LogCause accepts logs now entry

  -- ---- the proof

  proofless : (o : Option InclusionProof) → entry.inclusion_proof ≡ o → ok_or o refusal.InclusionProof ≡ Err e → Cause e
  proofless None is h = subst Cause (err_same refusal.InclusionProof e h) (no_proof is)
  proofless (Some proof) is h = cc

  module _ (proof : InclusionProof) (proof_is : entry.inclusion_proof ≡ Some proof) where
    elsewhere : (place : Place) → place_of entry.kind_version entry proof ≡ Some place → (b : Bool) → stands_at entry.canonicalized_body proof.hashes place ≡ b
        → ◌≡◌ {A = Result ⊤ LogError} (if b then Ok tt else Err refusal.InclusionProof) (Err e) → Cause e
    elsewhere place place_is true fails h = cc
    elsewhere place place_is false fails h =
        subst Cause (err_same refusal.InclusionProof e h) (not_there proof place proof_is place_is (λ there.
        let stands = root_passes (root_from (leaf_hash entry.canonicalized_body) place.index place.size proof.hashes) place.root there in cc))

    unincluded : (o : Option Place) → place_of entry.kind_version entry proof ≡ o → stands_in entry.canonicalized_body proof.hashes o ≡ Err e → Cause e
    unincluded None is h = subst Cause (err_same refusal.Checkpoint e h) (no_checkpoint proof proof_is (none_from_place entry.kind_version entry proof is))
    unincluded (Some place) is h = elsewhere place is (stands_at entry.canonicalized_body proof.hashes place) refl h

    -- ---- the checkpoint

    checkpoint_fails : (checkpoint : Checkpoint) → proof.checkpoint.checkpoint ≡ Some checkpoint → (a b : Bool) → is_of_tree entry.kind_version proof checkpoint ≡ a → is_signed_by accepts logs now checkpoint ≡ b
        → ◌≡◌ {A = Result ⊤ LogError} (if a && b then Ok tt else Err refusal.Checkpoint) (Err e) → Cause e
    checkpoint_fails checkpoint is true true of_tree signed h = cc
    checkpoint_fails checkpoint is true false of_tree signed h =
        subst Cause (err_same refusal.Checkpoint e h) (unsigned proof checkpoint (record { proof_is = proof_is; checkpoint_is = is }) signed)
    checkpoint_fails checkpoint is false b of_tree signed h =
        let other = tree_fails entry.kind_version proof checkpoint of_tree in
        subst Cause (err_same refusal.Checkpoint e h) (other_tree proof checkpoint (record { proof_is = proof_is; checkpoint_is = is }) other.0 other.1)

    checkpoint_refused : (o : Option Checkpoint) → proof.checkpoint.checkpoint ≡ o → checkpoint_judged accepts logs now entry.kind_version proof o ≡ Err e → Cause e
    checkpoint_refused None is h = subst Cause (err_same refusal.Checkpoint e h) (no_checkpoint proof proof_is is)
    checkpoint_refused (Some checkpoint) is h =
        checkpoint_fails checkpoint is (is_of_tree entry.kind_version proof checkpoint) (is_signed_by accepts logs now checkpoint) refl refl h

  -- ---- the promise

  module _ (promise : List ℕ) (promise_is : entry.inclusion_promise ≡ Some promise) where
    misnamed : (b : Bool) → nat_eq (length entry.log_id.key_id) 32 ≡ b → ◌≡◌ {A = Result (List ℕ) LogError} (if b then Ok entry.log_id.key_id else Err refusal.MalformedEntry) (Err e) → Cause e
    misnamed true is h = cc
    misnamed false is h = subst Cause (err_same refusal.MalformedEntry e h) (record {
      promise = promise;
      promise_is = promise_is;
      length_is = λ same. let fits = eq-eqb (length entry.log_id.key_id) 32 same in cc;
    })

    keyless_at : (time : ℤ) → entry.integrated_time ≡ Some time → (o : Option VerificationKey) → key_at entry.log_id.key_id (at_second time) logs ≡ o
        → ok_or o refusal.InclusionPromise ≡ Err e → Cause e
    keyless_at time time_is None is h = subst Cause (err_same refusal.InclusionPromise e h) (no_key promise time promise_is time_is is)
    keyless_at time time_is (Some key) is h = cc

    keyless_by : entry.integrated_time ≡ None → (o : Option VerificationKey) → key_by entry.log_id.key_id now logs ≡ o → ok_or o (refusal.UnknownLog entry.log_id.key_id) ≡ Err e → Cause e
    keyless_by timeless None is h = subst Cause (err_same (refusal.UnknownLog entry.log_id.key_id) e h) (record {
      promise = promise;
      promise_is = promise_is;
      timeless = timeless;
      id_is = refl;
      unknown = is;
    })
    keyless_by timeless (Some key) is h = cc

    keyless : (o : Option ℤ) → entry.integrated_time ≡ o → key_of logs now entry.log_id.key_id o ≡ Err e → Cause e
    keyless None is h = keyless_by is (key_by entry.log_id.key_id now logs) refl h
    keyless (Some time) is h = keyless_at time is (key_at entry.log_id.key_id (at_second time) logs) refl h

    unpromised_under : (key : VerificationKey) → key_of logs now entry.log_id.key_id entry.integrated_time ≡ Ok key → (b : Bool) → is_promised accepts key (payload_of entry) promise ≡ b
        → ◌≡◌ {A = Result ⊤ LogError} (if b then Ok tt else Err refusal.InclusionPromise) (Err e) → Cause e
    unpromised_under key key_is true fails h = cc
    unpromised_under key key_is false fails h = subst Cause (err_same refusal.InclusionPromise e h) (not_good promise key promise_is key_is fails)

    of_no_log : promise_of accepts logs now entry promise ≡ Err e → Cause e
    unfolding promise_of
    of_no_log h =
        refused_at (id_of entry.log_id.key_id) _ e h (misnamed (nat_eq (length entry.log_id.key_id) 32) refl) (λ id p k.
        refused_at (key_of logs now entry.log_id.key_id entry.integrated_time) _ e
        (subst (λ i. after_id accepts logs now entry promise i ≡ Err e) (id_means entry.log_id.key_id id p).1 k)
        (keyless entry.integrated_time refl)
        (λ key q l. unpromised_under key q (is_promised accepts key (payload_of entry) promise) refl l))

    ahead_of : tells_time entry.kind_version ≡ true → (o : Option ℤ) → entry.integrated_time ≡ o → is_past_or_now now o ≡ false → e ≡ refusal.IntegratedTime → Cause e
    ahead_of tells None is ahead same = cc
    ahead_of tells (Some time) is ahead same = subst Cause (sym same) (record {
      promise = promise;
      promise_is = promise_is;
      tells = tells;
      time = time;
      time_is = is;
      ahead = not_false (int_lt now.nanosecond (at_second time).nanosecond) ahead;
    })

    untimely : (a b : Bool) → tells_time entry.kind_version ≡ a → is_past_or_now now entry.integrated_time ≡ b
        → ◌≡◌ {A = Result ⊤ LogError} (if a && not b then Err refusal.IntegratedTime else Ok tt) (Err e) → Cause e
    untimely true true tells past h = cc
    untimely true false tells past h = ahead_of tells entry.integrated_time refl past (sym (err_same refusal.IntegratedTime e h))
    untimely false b tells past h = cc

    unpromised_by : promise_judged accepts logs now entry (Some promise) ≡ Err e → Cause e
    unpromised_by h =
        refused_at (promise_of accepts logs now entry promise) _ e h of_no_log (λ u p k.
        refused_at (time_judged now entry) _ e k (untimely (tells_time entry.kind_version) (is_past_or_now now entry.integrated_time) refl refl) (λ v q l. cc))

  pub unpromised : (o : Option (List ℕ)) → entry.inclusion_promise ≡ o → promise_judged accepts logs now entry o ≡ Err e → Cause e
  unpromised None is h = cc
  unpromised (Some promise) is h = unpromised_by promise is h

  -- ---- the whole

  refused : logged_of accepts logs now entry ≡ Err e → Cause e
  unfolding logged_of
  refused h =
      refused_at (ok_or entry.inclusion_proof refusal.InclusionProof) _ e h (proofless entry.inclusion_proof refl) (λ proof p k.
      let proof_is = some_of entry.inclusion_proof proof p in
      refused_at (included_of entry proof) _ e k (unincluded proof proof_is (place_of entry.kind_version entry proof) refl) (λ u q l.
      refused_at (checkpoint_judged accepts logs now entry.kind_version proof proof.checkpoint.checkpoint) _ e l (checkpoint_refused proof proof_is proof.checkpoint.checkpoint refl) (λ v r m.
      unpromised entry.inclusion_promise refl m)))

pub refusals_have_causes : RefusalsHaveCauses
refusals_have_causes accepts logs now entry e h = refused accepts logs now entry e h
