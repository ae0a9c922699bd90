-- Entries that were read are read again, where they are written.
use Rattle.std.proofs.Common.{◌≡◌, ◌<◌, ◌^◌, ℕ, List, [], ◌∷◌, Bool, true, false, cond, ok_or, Option, Some, None, option_map, Result, Ok, Err, refl, sym, ap, subst, ◌∙◌}
use Rattle.std.specs.Result.{result_ok}
use Rattle.base64.specs.Engines.{standard}
use Rattle.base64.specs.GeneralPurpose.{decode_of}
use Rattle.serde_json.specs.Data.{Data, string}
use Rattle.serde_json.specs.Find.{as_str}
use Rattle.foundation.specs.Steps.{◌>>=◌}
use Rattle.foundation.specs.Results.{step_ok, ok_same, no_both}
use Rattle.sigstore_types_parts.specs.Encoded as encoded
use Rattle.sigstore_types_parts.specs.Error.{types_of}
use Rattle.sigstore_types_parts.specs.declared.error.TypesError.{TypesError}
use Rattle.sigstore_types_parts.specs.declared.error.TypesError.TheVariants as e
use Rattle.sigstore_types_parts.specs.declared.member.TypesMember.TheVariants as m
use Rattle.sigstore_entries.specs.Entry.{required, optional, text, bytes, sha256, place, list, log_id_of, kind_name_of, version_name_of, kind_named, kind_version_of}
use Rattle.sigstore_entries.specs.Entry.{checkpoint_data_of, text_in, envelope_of, or_no_checkpoint, proof_of, placed_of, promise_of, timestamp_of, entry_of}
use Rattle.sigstore_entries.specs.Numbers.{time_of, known_time_of}
use Rattle.sigstore_entries.specs.Laws.{TimeFits, EntriesAreReadAgain}
use Rattle.sigstore_entries.specs.Writing.{octets_data, signed_data}
use Rattle.sigstore_entries.specs.Written.{kind_version_members, proof_members, entry_members, log_id_data, kind_version_data, checkpoint_data, proof_data, promise_data, entry_data}
use Rattle.sigstore_entries.specs.declared.checkpoint.Checkpoint.{Checkpoint}
use Rattle.sigstore_entries.specs.declared.checkpoint_data.CheckpointData.{CheckpointData}
use Rattle.sigstore_entries.specs.declared.entry.Placed.{Placed}
use Rattle.sigstore_entries.specs.declared.entry.InclusionPromise.{InclusionPromise}
use Rattle.sigstore_entries.specs.declared.entry.TransparencyLogEntry.{TransparencyLogEntry}
use Rattle.sigstore_entries.specs.declared.inclusion_proof.InclusionProof.{InclusionProof}
use Rattle.sigstore_entries.specs.declared.kind_version.KindVersion.{KindVersion}
use Rattle.sigstore_entries.specs.declared.kind_version.KindVersion.TheVariants as known
use Rattle.sigstore_entries.specs.declared.log_id.LogId.{LogId}
use Rattle.sigstore_entries.specs.declared.log_index.LogIndex.{LogIndex}
use Rattle.sigstore_entries.proofs.Found.{alone, IsRead, AllReadAgain, all_again, required_found, OptionRead, optional_found, some_read, WasRead, required_was, WereRead, optional_was, AreReadAgain, list_found, list_was, option_back}
use Rattle.sigstore_entries.proofs.NumbersAgain.{place_was, place_found, TimeAgain, time_again}
use Rattle.sigstore_entries.proofs.Octets.{spelled}
use Rattle.sigstore_entries.proofs.Parted.{kept}

-- a step that is known
pub step : {A B : Type 0} (r : Result A TypesError) (f : A → Result B TypesError) (x : A) (y : Result B TypesError) → r ≡ Ok x → f x ≡ y → (r >>= f) ≡ y
step r f x y h k = ap (λ q. q >>= f) h ∙ k

-- ---- leaves

pub text_again : (v : List ℕ) → IsRead text (string v) v
text_again v = record { back = refl; there = refl }

was_ok : {E : Type 0} (r : Result (List ℕ) E) (v : List ℕ) → ok_or (result_ok r) e.Base64 ≡ Ok v → r ≡ Ok v
was_ok (Ok x) v h = ap Ok (ok_same _ _ h)
was_ok (Err f) v h = no_both _ _ (sym h)

octets_back : (s v : List ℕ) → encoded.decoded_of types_of s ≡ Ok v → bytes (octets_data v) ≡ Ok v
octets_back s v h = ap (λ r. ok_or (result_ok r) e.Base64) (spelled s v (was_ok (decode_of standard s) v h))

pub octets_again : AreReadAgain bytes octets_data
octets_again v h =
    let s = step_ok (ok_or (as_str h.from) e.Json) (encoded.decoded_of types_of) v h.was in
    record { back = octets_back s.0 v s.2; there = refl }

was_sized : (test : Bool) (b v : List ℕ) (error : TypesError) → cond test (Ok b) (Err error) ≡ Ok v → b ≡ v
was_sized true b v error h = ok_same _ _ h
was_sized false b v error h = no_both _ _ (sym h)

pub hash_again : AreReadAgain sha256 octets_data
hash_again v h =
    let b = step_ok (bytes h.from) (encoded.sized_of types_of 32) v h.was in
    let same : b.0 ≡ v = was_sized _ b.0 v _ b.2 in
    let octets = octets_again b.0 (record { from = h.from; was = b.1 }) in
    record {
      back = ap (λ o. bytes (octets_data o) >>= encoded.sized_of types_of 32) (sym same) ∙ ap (λ r. r >>= encoded.sized_of types_of 32) octets.back ∙ b.2;
      there = refl;
    }

-- ---- the log, and the kind of an entry

pub log_id_again : AreReadAgain log_id_of log_id_data
unfolding log_id_of log_id_data
log_id_again v h =
    let key = step_ok (required bytes m.KeyId h.from) (λ key_id. Ok (record { key_id = key_id })) v h.was in
    let is : key.0 ≡ v.key_id = ap (λ (l : LogId). l.key_id) (ok_same _ _ key.2) in
    let octets = subst (λ k. IsRead bytes (octets_data k) k) is (octets_again key.0 (required_was bytes m.KeyId h.from key.0 key.1)) in
    record {
      back = step _ _ v.key_id _ (required_found bytes m.KeyId ((m.KeyId, Some (octets_data v.key_id)) ∷ []) (octets_data v.key_id) v.key_id refl octets.back) refl;
      there = refl;
    }

named_again : (v : KindVersion) → kind_named (kind_name_of v) (version_name_of v) ≡ Ok v
named_again known.HashedRekordV001 = refl
named_again known.HashedRekordV002 = refl
named_again known.DsseV001 = refl
named_again known.DsseV002 = refl
named_again known.IntotoV002 = refl

pub kind_again : (v : KindVersion) → IsRead kind_version_of (kind_version_data v) v
unfolding kind_version_of kind_version_data
kind_again v =
    let members = kind_version_members v in
    let kind = required_found text m.Kind members (string (kind_name_of v)) (kind_name_of v) refl refl in
    let version = required_found text m.Version members (string (version_name_of v)) (version_name_of v) refl refl in
    record { back = step _ _ (kind_name_of v) _ kind (step _ _ (version_name_of v) _ version (named_again v)); there = refl }

-- ---- the checkpoint of a proof

-- what is read of it where it is written
record CheckpointAgain (checkpoint : Option Checkpoint) : Type 0 where
  read : Option CheckpointData
  back : OptionRead envelope_of (option_map checkpoint_data checkpoint) read
  is : or_no_checkpoint read ≡ record { checkpoint = checkpoint }

checkpoint_back : (checkpoint : Option Checkpoint) → checkpoint_data_of (text_in checkpoint) ≡ Ok (record { checkpoint = checkpoint }) → CheckpointAgain checkpoint
unfolding envelope_of checkpoint_data
checkpoint_back None h = record { read = None; back = refl; is = refl }
checkpoint_back (Some c) h =
    let envelope = required_found text m.Envelope ((m.Envelope, Some (string c.text)) ∷ []) (string c.text) c.text refl refl in
    let held : CheckpointData = record { checkpoint = Some c } in
    record {
      read = Some held;
      back = some_read envelope_of (checkpoint_data c) held (record { back = step _ _ c.text _ envelope h; there = refl });
      is = refl;
    }

checkpoint_again : (found : Option CheckpointData) → WereRead envelope_of found → CheckpointAgain (or_no_checkpoint found).checkpoint
unfolding envelope_of
checkpoint_again None h = record { read = None; back = refl; is = refl }
checkpoint_again (Some held) h =
    let text = step_ok (required text m.Envelope h.from) checkpoint_data_of held h.was in
    checkpoint_back held.checkpoint (ap checkpoint_data_of (kept text.0 held text.2) ∙ text.2)

-- ---- InclusionProof

abbrev made_proof : LogIndex → List ℕ → ℕ → List (List ℕ) → CheckpointData → InclusionProof
made_proof index root size hashes checkpoint =
    record { log_index = index; root_hash = root; tree_size = size; hashes = hashes; checkpoint = checkpoint }

proof_back : (index : LogIndex) (root : List ℕ) (size : ℕ) (hashes : List (List ℕ)) (held : CheckpointData) → index.value < 2 ^ 63 → IsRead sha256 (octets_data root) root
    → size < 2 ^ 63 → AllReadAgain sha256 octets_data hashes → CheckpointAgain held.checkpoint
    → IsRead proof_of (proof_data (made_proof index root size hashes held)) (made_proof index root size hashes held)
unfolding proof_of proof_data
proof_back index root size hashes held i r s h c =
    let members = proof_members (made_proof index root size hashes held) in
    let first = place_found m.LogIndex members index.value refl i in
    let second = required_found sha256 m.RootHash members (octets_data root) root refl r.back in
    let third = place_found m.TreeSize members size refl s in
    let fourth = list_found sha256 octets_data m.Hashes members hashes (alone _) h in
    let fifth = optional_found envelope_of m.Checkpoint members (option_map checkpoint_data held.checkpoint) c.read (alone _) c.back in
    record {
      back = step _ _ index _ first (step _ _ root _ second (step _ _ (record { value = size }) _ third (step _ _ hashes _ fourth (step _ _ c.read _ fifth
          (ap (λ k. Ok (made_proof index root size hashes k)) c.is)))));
      there = refl;
    }

proof_again : AreReadAgain proof_of proof_data
unfolding proof_of
proof_again v h =
    let index = step_ok (place m.LogIndex h.from) _ v h.was in
    let root = step_ok (required sha256 m.RootHash h.from) _ v index.2 in
    let size = step_ok (place m.TreeSize h.from) _ v root.2 in
    let hashes = step_ok (list sha256 m.Hashes h.from) _ v size.2 in
    let held = step_ok (optional envelope_of m.Checkpoint h.from) _ v hashes.2 in
    subst (λ p. IsRead proof_of (proof_data p) p) (ok_same _ _ held.2)
    (proof_back index.0 root.0 size.0.value hashes.0 (or_no_checkpoint held.0)
    (place_was m.LogIndex h.from index.0 index.1)
    (hash_again root.0 (required_was sha256 m.RootHash h.from root.0 root.1))
    (place_was m.TreeSize h.from size.0 size.1)
    (all_again sha256 octets_data hashes.0 hash_again (list_was sha256 m.Hashes h.from hashes.0 hashes.1))
    (checkpoint_again held.0 (optional_was envelope_of m.Checkpoint h.from held.0 held.1)))

-- ---- InclusionPromise

-- what is read of it where it is written
record PromiseAgain (timestamp : Option (List ℕ)) : Type 0 where
  read : Option InclusionPromise
  back : OptionRead promise_of (option_map promise_data timestamp) read
  is : timestamp_of read ≡ timestamp

promise_again : (found : Option InclusionPromise) → WereRead promise_of found → PromiseAgain (timestamp_of found)
unfolding promise_of
promise_again None h = record { read = None; back = refl; is = refl }
promise_again (Some promise) h =
    let timestamp = step_ok (required bytes m.SignedEntryTimestamp h.from) (λ t. Ok (record { signed_entry_timestamp = t })) promise h.was in
    let is : timestamp.0 ≡ promise.signed_entry_timestamp = ap (λ (p : InclusionPromise). p.signed_entry_timestamp) (ok_same _ _ timestamp.2) in
    let octets = subst (λ t. IsRead bytes (octets_data t) t) is (octets_again timestamp.0 (required_was bytes m.SignedEntryTimestamp h.from timestamp.0 timestamp.1)) in
    let t = promise.signed_entry_timestamp in
    let found = required_found bytes m.SignedEntryTimestamp ((m.SignedEntryTimestamp, Some (octets_data t)) ∷ []) (octets_data t) t refl octets.back in
    record {
      read = Some promise;
      back = some_read promise_of (promise_data t) promise (record { back = step _ _ t _ found refl; there = refl });
      is = refl;
    }

-- ---- TransparencyLogEntry

abbrev made_entry : Placed → Option (List ℕ) → Option InclusionProof → List ℕ → TransparencyLogEntry
made_entry placed promise proof body = record {
  log_index = placed.log_index;
  log_id = placed.log_id;
  kind_version = placed.kind_version;
  integrated_time = placed.integrated_time;
  inclusion_promise = promise;
  inclusion_proof = proof;
  canonicalized_body = body;
}

-- where and when it was logged
record PlacedAgain (placed : Placed) : Type 0 where
  index : placed.log_index.value < 2 ^ 63
  log : IsRead log_id_of (log_id_data placed.log_id) placed.log_id
  time : TimeAgain placed.integrated_time

placed_again : (d : Data) (placed : Placed) → TimeFits placed.integrated_time → placed_of d ≡ Ok placed → PlacedAgain placed
unfolding placed_of
placed_again d placed fits h =
    let index = step_ok (place m.LogIndex d) _ placed h in
    let log = step_ok (required log_id_of m.LogId d) _ placed index.2 in
    let kind = step_ok (required kind_version_of m.KindVersion d) _ placed log.2 in
    let time = step_ok (optional time_of m.IntegratedTime d) _ placed kind.2 in
    let made : Placed = record { log_index = index.0; log_id = log.0; kind_version = kind.0; integrated_time = known_time_of time.0 } in
    let is : made ≡ placed = ok_same _ _ time.2 in
    record {
      index = subst (λ (p : Placed). p.log_index.value < 2 ^ 63) is (place_was m.LogIndex d index.0 index.1);
      log = subst (λ (p : Placed). IsRead log_id_of (log_id_data p.log_id) p.log_id) is (log_id_again log.0 (required_was log_id_of m.LogId d log.0 log.1));
      time = time_again time.0 placed.integrated_time (ap (λ (p : Placed). p.integrated_time) is) fits;
    }

placed_back : (placed : Placed) (promise : Option (List ℕ)) (proof : Option InclusionProof) (body : List ℕ) → PlacedAgain placed
    → placed_of (entry_data (made_entry placed promise proof body)) ≡ Ok placed
unfolding placed_of entry_data
placed_back placed promise proof body again =
    let members = entry_members (made_entry placed promise proof body) in
    let index = place_found m.LogIndex members placed.log_index.value refl again.index in
    let log = required_found log_id_of m.LogId members (log_id_data placed.log_id) placed.log_id refl again.log.back in
    let kind = required_found kind_version_of m.KindVersion members (kind_version_data placed.kind_version) placed.kind_version refl (kind_again placed.kind_version).back in
    let time = optional_found time_of m.IntegratedTime members (option_map signed_data placed.integrated_time) again.time.read (alone _) again.time.back in
    step _ _ placed.log_index _ index (step _ _ placed.log_id _ log (step _ _ placed.kind_version _ kind (step _ _ again.time.read _ time
    (ap (λ t. Ok (record placed { integrated_time = t })) again.time.known))))

entry_back : (placed : Placed) (timestamp : Option (List ℕ)) (proof : Option InclusionProof) (body : List ℕ) → PlacedAgain placed → PromiseAgain timestamp
    → OptionRead proof_of (option_map proof_data proof) proof → IsRead bytes (octets_data body) body
    → IsRead entry_of (entry_data (made_entry placed timestamp proof body)) (made_entry placed timestamp proof body)
unfolding entry_of entry_data
entry_back placed timestamp proof body p t o b =
    let members = entry_members (made_entry placed timestamp proof body) in
    let promise = optional_found promise_of m.InclusionPromise members (option_map promise_data timestamp) t.read (alone _) t.back in
    let proved = optional_found proof_of m.InclusionProof members (option_map proof_data proof) proof (alone _) o in
    let octets = required_found bytes m.CanonicalizedBody members (octets_data body) body refl b.back in
    record {
      back = step _ _ placed _ (placed_back placed timestamp proof body p) (step _ _ t.read _ promise (step _ _ proof _ proved (step _ _ body _ octets
          (ap (λ x. Ok (made_entry placed x proof body)) t.is))));
      there = refl;
    }

pub entry_again : (entry : TransparencyLogEntry) → TimeFits entry.integrated_time → WasRead entry_of entry → IsRead entry_of (entry_data entry) entry
unfolding entry_of
entry_again entry fits h =
    let d = h.from in
    let placed = step_ok (placed_of d) _ entry h.was in
    let promise = step_ok (optional promise_of m.InclusionPromise d) _ entry placed.2 in
    let proof = step_ok (optional proof_of m.InclusionProof d) _ entry promise.2 in
    let body = step_ok (required bytes m.CanonicalizedBody d) _ entry proof.2 in
    let is : made_entry placed.0 (timestamp_of promise.0) proof.0 body.0 ≡ entry = ok_same _ _ body.2 in
    subst (λ e. IsRead entry_of (entry_data e) e) is
    (entry_back placed.0 (timestamp_of promise.0) proof.0 body.0
    (placed_again d placed.0 (subst (λ (e : TransparencyLogEntry). TimeFits e.integrated_time) (sym is) fits) placed.1)
    (promise_again promise.0 (optional_was promise_of m.InclusionPromise d promise.0 promise.1))
    (option_back proof_of proof_data proof.0 proof_again (optional_was proof_of m.InclusionProof d proof.0 proof.1))
    (octets_again body.0 (required_was bytes m.CanonicalizedBody d body.0 body.1)))

pub entries_again : EntriesAreReadAgain
entries_again d entry fits h = (entry_again entry fits (record { from = d; was = h })).back
