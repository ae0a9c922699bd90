-- An entry that is logged stands in one log.
use Rattle.std.proofs.Common.{◌≡◌, ◌≤◌, ◌++◌, ℕ, List, [], ◌∷◌, length, Bool, true, false, is_some, if◌then◌else◌, Option, Some, None, Ok, Err, refl, sym, ap, subst, ◌∙◌, arith}
use Rattle.std.specs.Prelude.{filter_map}
use Rattle.std.specs.List.{cons_option}
use Rattle.std.proofs.lemmas.Bool.{le-leb}
use Rattle.std.proofs.lemmas.List.{length-append}
use Rattle.jiff_core.specs.declared.timestamp.Timestamp.{Timestamp}
use Rattle.sigstore_types.specs.Bundle.{entries_in, shown_of}
use Rattle.sigstore_keys.specs.declared.distinct.Threshold.{Threshold}
use Rattle.sigstore_keys.specs.Distinct.{is_among, with_id, each_once, count_distinct}
use Rattle.sigstore_entries.specs.declared.entry.TransparencyLogEntry.{TransparencyLogEntry}
use Rattle.sigstore_log.specs.Entry.{log_of, log_of_proof}
use Rattle.sigstore_log.specs.Logged.{Logged}
use Rattle.sigstore_log.specs.Signed.{proof_signer}
use Rattle.sigstore_log.proofs.Signer.{signed_where_found}
use Rattle.sigstore_log.proofs.Signing.{signed_passes}
use Rattle.sigstore_judgement.specs.declared.error.Error.TheVariants.{TooFewLogs}
use Rattle.sigstore_judgement.specs.Entries.{log_judged_of, vouching_logs, logs_judged_of}
use Rattle.sigstore_judgement.specs.Grounds.{Grounds}
use Rattle.sigstore_judgement.specs.OneLog.{OneLogSuffices}
use Rattle.sigstore_judgement.specs.Signer.{Signer}
use Rattle.sigstore_judgement.proofs.EntryLaw.{are_logged}

some_is : {A : Type 0} (o : Option A) → is_some o ≡ true → (x : A) × (o ≡ Some x)
some_is None h = cc
some_is (Some x) h = (x, refl)

-- ---- ids are added, and none is taken away

longer : (id : List ℕ) (ids : List (List ℕ)) → length ids ≤ length (with_id id ids)
longer id ids = by (is_among id ids)
  where
    by : (b : Bool) → length ids ≤ length (if b then ids else ids ++ id ∷ [])
    by true = omega arith
    by false = omega (arith, length-append ids (id ∷ []))

no_fewer : (seen ids : List (List ℕ)) → length seen ≤ length (each_once seen ids)
no_fewer seen [] = omega arith
no_fewer seen (id ∷ ids) = omega (arith, longer id seen, no_fewer (with_id id seen) ids)

module _ (grounds : Grounds) where
  abbrev log : TransparencyLogEntry → Option (List ℕ)
  log entry = log_of grounds.crypto.accepts grounds.material.logs grounds.now entry

  has_log : (entry : TransparencyLogEntry) → Logged grounds.crypto.accepts grounds.material.logs grounds.now entry → is_some (log entry) ≡ true
  has_log entry l =
      let accepts = grounds.crypto.accepts in
      ap (λ o. is_some (log_of_proof accepts grounds.material.logs grounds.now o)) l.proof_is
      ∙ ap (λ o. is_some (proof_signer accepts grounds.material.logs grounds.now o)) l.checkpoint_is
      ∙ signed_where_found accepts grounds.material.logs grounds.now l.checkpoint
      ∙ signed_passes accepts grounds.material.logs grounds.now l.checkpoint l.signed

  one_there : (entry : TransparencyLogEntry) (entries : List TransparencyLogEntry) → is_some (log entry) ≡ true → 1 ≤ vouching_logs grounds (entry ∷ entries)
  one_there entry entries has =
      let id = some_is (log entry) has in
      subst (λ n. 1 ≤ n) (sym (ap (λ o. count_distinct (cons_option o (filter_map log entries))) id.1)) (no_fewer (id.0 ∷ []) (filter_map log entries))

  enough : (asked : Threshold) (found : ℕ) → asked.value ≡ 1 → 1 ≤ found → logs_judged_of true asked found ≡ Ok tt
  enough asked found one some =
      ap (λ (b : Bool). if b then Ok tt else Err (TooFewLogs asked.value found)) (le-leb asked.value found (subst (λ n. n ≤ found) (sym one) some))

  module _ (signer : Signer) where
    suffices : (entries : List TransparencyLogEntry) (asked : Threshold) (times : List Timestamp) → asked.value ≡ 1 → shown_of entries ≡ Ok tt
        → log_judged_of grounds signer true entries ≡ Ok times → logs_judged_of true asked (vouching_logs grounds entries) ≡ Ok tt
    suffices [] asked times one there h = cc
    suffices (entry ∷ entries) asked times one there h =
        let l = are_logged grounds signer true (entry ∷ entries) times h in
        enough asked (vouching_logs grounds (entry ∷ entries)) one (one_there entry entries (has_log entry l.0.0.logged))

pub one_log_suffices : OneLogSuffices
one_log_suffices grounds signer true asked bundle times one there h = suffices grounds signer (entries_in bundle) asked times one there h
one_log_suffices grounds signer false asked bundle times one there h = refl
