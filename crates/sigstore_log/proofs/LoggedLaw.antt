-- The judgement accepts exactly the entries that are logged.
use Rattle.std.proofs.Common.{◌≡◌, Option, Result, Ok, sym, ap, ◌∙◌, ok_or}
use Rattle.foundation.specs.Steps.{◌>>=◌}
use Rattle.foundation.specs.Results.{step_ok}
use Rattle.jiff_core.specs.declared.timestamp.Timestamp.{Timestamp}
use Rattle.sigstore_keys.specs.Good.{Judge}
use Rattle.sigstore_keys.specs.Keyring.{Ring}
use Rattle.sigstore_entries.specs.declared.inclusion_proof.InclusionProof.{InclusionProof}
use Rattle.sigstore_entries.specs.declared.entry.TransparencyLogEntry.{TransparencyLogEntry}
use Rattle.sigstore_log.specs.declared.error.LogError.{LogError}
use Rattle.sigstore_log.specs.declared.error.LogError.TheVariants as refusal
use Rattle.sigstore_log.specs.Entry.{logged_of}
use Rattle.sigstore_log.specs.Inclusion.{place_of, included_of}
use Rattle.sigstore_log.specs.Signed.{checkpoint_judged}
use Rattle.sigstore_log.specs.Promise.{told_time, promise_judged}
use Rattle.sigstore_log.specs.Logged.{Logged, LoggedExactly}
use Rattle.sigstore_log.proofs.Including.{some_of, stands_means, stands_passes, checkpoint_means, checkpoint_passes}
use Rattle.sigstore_log.proofs.Promising.{promise_means, promise_passes}

module _ (accepts : Judge) (logs : Ring) (now : Timestamp) (entry : TransparencyLogEntry) where
  abbrev after_checkpoint : Result (Option Timestamp) LogError
  after_checkpoint = promise_judged accepts logs now entry entry.inclusion_promise

  abbrev after_place : InclusionProof → Result (Option Timestamp) LogError
  after_place proof = checkpoint_judged accepts logs now entry.kind_version proof proof.checkpoint.checkpoint >>= λ _. after_checkpoint

  abbrev after_proof : InclusionProof → Result (Option Timestamp) LogError
  after_proof proof = included_of entry proof >>= λ _. after_place proof

  means : (time : Option Timestamp) → logged_of accepts logs now entry ≡ Ok time → Logged accepts logs now entry × (time ≡ told_time entry)
  unfolding logged_of
  means time h =
      let a = step_ok (ok_or entry.inclusion_proof refusal.InclusionProof) after_proof time h in
      let proof = a.0 in
      let b = step_ok (included_of entry proof) (λ _. after_place proof) time a.2 in
      let c = step_ok (checkpoint_judged accepts logs now entry.kind_version proof proof.checkpoint.checkpoint) (λ _. after_checkpoint) time b.2 in
      let place = stands_means entry.canonicalized_body proof.hashes (place_of entry.kind_version entry proof) b.0 b.1 in
      let checkpoint = checkpoint_means accepts logs now entry.kind_version proof proof.checkpoint.checkpoint c.0 c.1 in
      let promise = promise_means accepts logs now entry entry.inclusion_promise time c.2 in (
        record {
          proof = proof;
          proof_is = some_of entry.inclusion_proof proof a.1;
          place = place.0;
          place_is = place.1;
          stands = place.2;
          checkpoint = checkpoint.0;
          checkpoint_is = checkpoint.1;
          of_tree = checkpoint.2;
          signed = checkpoint.3;
          promised = promise.0;
        },
        promise.1,
      )

  passes : Logged accepts logs now entry → logged_of accepts logs now entry ≡ Ok (told_time entry)
  unfolding logged_of
  passes l =
      ap (λ o. ok_or o refusal.InclusionProof >>= after_proof) l.proof_is
      ∙ ap (λ r. r >>= λ _. after_place l.proof)
      (stands_passes entry.canonicalized_body l.proof.hashes (place_of entry.kind_version entry l.proof) l.place l.place_is l.stands)
      ∙ ap (λ r. r >>= λ _. after_checkpoint)
      (checkpoint_passes accepts logs now entry.kind_version l.proof l.proof.checkpoint.checkpoint l.checkpoint l.checkpoint_is l.of_tree l.signed)
      ∙ promise_passes accepts logs now entry entry.inclusion_promise l.promised

pub logged_exactly : LoggedExactly
logged_exactly accepts logs now entry time = (means accepts logs now entry time, λ both. passes accepts logs now entry both.0 ∙ ap Ok (sym both.1))
