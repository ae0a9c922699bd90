-- The timestamp and the snapshot of an archive come into force exactly where they are trusted.
use Rattle.std.proofs.Common.{◌≡◌, ℕ, List, Option, Some, None, Result, Ok, Err, codes, sym, ap, ◌∙◌, subst}
use Rattle.std.specs.Prelude.{ok_or}
use Rattle.jiff_core.specs.declared.timestamp.Timestamp as jiff
use Rattle.foundation.specs.Results.{step_ok, ok_same}
use Rattle.sigstore_keys.specs.Crypto.{Crypto}
use Rattle.sigstore_tuf_text.specs.declared.error.Error.{Error}
use Rattle.sigstore_tuf_text.specs.declared.error.Error.TheVariants as tuf
use Rattle.sigstore_tuf_text.specs.declared.error.Rule.TheVariants as rule
use Rattle.sigstore_tuf_parts.specs.declared.root.Root as declared
use Rattle.sigstore_tuf_parts.specs.declared.snapshot.Snapshot.{Snapshot}
use Rattle.sigstore_tuf_parts.specs.declared.timestamp.MetaFile.{MetaFile}
use Rattle.sigstore_tuf_parts.specs.declared.timestamp.Timestamp.{Timestamp}
use Rattle.sigstore_tuf_parts.specs.Document.{Document, content_in}
use Rattle.sigstore_tuf_parts.specs.Integrity.{version_of}
use Rattle.sigstore_tuf_parts.specs.Pinned.{Fresh}
use Rattle.sigstore_tuf_parts.specs.RootRoles.{meets_role_of, MeetsRole}
use Rattle.sigstore_tuf_parts.proofs.IntegrityLaws.{fresh_exactly}
use Rattle.sigstore_tuf_rules.specs.declared.documents.InForce.{InForce}
use Rattle.sigstore_tuf_rules.specs.Documents.{timestamp_document, snapshot_document}
use Rattle.sigstore_tuf_rules.specs.Names.{snapshot_pin_in}
use Rattle.sigstore_tuf_rules.specs.Update.{newer_of, timestamp_checks_of, update_timestamp_of, with_timestamp}
use Rattle.sigstore_tuf_rules.proofs.Updates.{role_met, fresh_from, same_version, timestamp_put}
use Rattle.trust_archive.specs.declared.error.ArchiveError.TheVariants as archive
use Rattle.trust_archive.specs.Judgement.{at_timestamp, at_snapshot, timed_of, snapshot_judged_of, snapshot_read_of, having_snapshot, snapped_of}
use Rattle.trust_archive.proofs.Parts.{to}
use Rattle.trust_archive.proofs.Adopting.{version_ok, role_ok}

at_timestamp_ok : {A : Type 0} (r : Result A Error) (x : A) → at_timestamp r ≡ Ok x → r ≡ Ok x
at_timestamp_ok (Ok y) x h = ap Ok (ok_same y x h)
at_timestamp_ok (Err e) x h = cc

at_snapshot_ok : {A : Type 0} (r : Result A Error) (x : A) → at_snapshot r ≡ Ok x → r ≡ Ok x
at_snapshot_ok (Ok y) x h = ap Ok (ok_same y x h)
at_snapshot_ok (Err e) x h = cc

pub archive_some : {A E : Type 0} (o : Option A) (e : E) (x : A) → ok_or o e ≡ Ok x → o ≡ Some x
archive_some None e x h = cc
archive_some (Some y) e x h = ap Some (ok_same y x h)

module _ (crypto : Crypto) (now : jiff.Timestamp) (root : declared.Root) where
  pub record IsTimestamp (bytes : List ℕ) (doc : Document Timestamp) : Type 0 where
    pub read : timestamp_document bytes ≡ Ok doc
    pub fresh : Fresh (content_in doc).expires now
    pub met : MeetsRole crypto root (codes "timestamp") doc

  pub record IsSnapshot (pin : MetaFile) (bytes : List ℕ) (doc : Document Snapshot) : Type 0 where
    pub read : snapshot_document bytes ≡ Ok doc
    pub fresh : Fresh (content_in doc).expires now
    pub met : MeetsRole crypto root (codes "snapshot") doc
    pub version : (content_in doc).version ≡ pin.version

module _ (crypto : Crypto) (now : jiff.Timestamp) where
  -- ---- what comes into force is trusted

  pub record Timed (bytes : List ℕ) (old new : InForce) : Type 0 where
    pub doc : Document Timestamp
    pub is : IsTimestamp crypto now (content_in {T = declared.Root} old.root) bytes doc
    pub new_is : new ≡ with_timestamp old (record { bytes = bytes; document = doc })

  pub timed_sound : (bytes : List ℕ) (old new : InForce) → timed_of crypto now bytes old ≡ Ok new → Timed bytes old new
  unfolding timed_of
  timed_sound bytes old new h =
      let p = timestamp_put crypto old bytes (Some now) new (at_timestamp_ok (update_timestamp_of crypto old bytes (Some now)) new h) in
      subst (λ b. Timed b old new) p.bytes_is (record { doc = p.held.document; is = record { read = p.signed.read; fresh = p.fresh; met = p.signed.met }; new_is = p.new_is })

  snapshot_sound : (root : declared.Root) (pin : MetaFile) (bytes : List ℕ) (doc : Document Snapshot) → snapshot_read_of crypto now root pin bytes ≡ Ok doc → IsSnapshot crypto now root pin bytes doc
  unfolding snapshot_read_of snapshot_judged_of
  snapshot_sound root pin bytes doc h =
      let r = step_ok (snapshot_document bytes) _ doc h in
      let j = step_ok (snapshot_judged_of crypto now root pin r.0) _ doc r.2 in
      let m = step_ok (meets_role_of crypto root (codes "snapshot") r.0) _ tt j.1 in
      let v = step_ok (version_of pin (content_in r.0).version) _ tt m.2 in
      subst (IsSnapshot crypto now root pin bytes) (ok_same r.0 doc j.2)
      (record { read = r.1; fresh = fresh_from (codes "snapshot") (content_in r.0).expires now v.2; met = role_met crypto root (codes "snapshot") r.0 m.1; version = same_version pin (content_in r.0).version v.1 })

  pub record Snapped (bytes : List ℕ) (old new : InForce) : Type 0 where
    pub pin : MetaFile
    pub pin_is : snapshot_pin_in old ≡ Some pin
    pub doc : Document Snapshot
    pub is : IsSnapshot crypto now (content_in {T = declared.Root} old.root) pin bytes doc
    pub new_is : new ≡ having_snapshot old bytes doc

  pub snapped_sound : (bytes : List ℕ) (old new : InForce) → snapped_of crypto now bytes old ≡ Ok new → Snapped bytes old new
  unfolding snapped_of
  snapped_sound bytes old new h =
      let p = step_ok (ok_or (snapshot_pin_in old) (archive.Timestamp (tuf.Malformed rule.Unpinned))) _ new h in
      let s = step_ok (at_snapshot (snapshot_read_of crypto now (content_in {T = declared.Root} old.root) p.0 bytes)) _ new p.2 in
      record {
        pin = p.0;
        pin_is = archive_some (snapshot_pin_in old) (archive.Timestamp (tuf.Malformed rule.Unpinned)) p.0 p.1;
        doc = s.0;
        is = snapshot_sound (content_in {T = declared.Root} old.root) p.0 bytes s.0 (at_snapshot_ok (snapshot_read_of crypto now (content_in {T = declared.Root} old.root) p.0 bytes) s.0 s.1);
        new_is = sym (ok_same _ new s.2);
      }

  -- ---- what is trusted comes into force

  time_checked : (old : InForce) (doc : Document Timestamp) → old.timestamp ≡ None → MeetsRole crypto (content_in {T = declared.Root} old.root) (codes "timestamp") doc → Fresh (content_in {T = Timestamp} doc).expires now
      → timestamp_checks_of crypto old doc (Some now) ≡ Ok tt
  unfolding timestamp_checks_of
  time_checked old doc none met fresh =
      to (meets_role_of crypto (content_in {T = declared.Root} old.root) (codes "timestamp") doc) _ tt (role_ok crypto _ _ doc met) ∙ to (newer_of old.timestamp (content_in {T = Timestamp} doc)) _ tt (ap (λ o. newer_of o (content_in {T = Timestamp} doc)) none)
      ∙ (fresh_exactly (codes "timestamp") (content_in {T = Timestamp} doc).expires now).1 fresh

  pub timed_complete : (bytes : List ℕ) (old : InForce) (doc : Document Timestamp) → old.timestamp ≡ None → IsTimestamp crypto now (content_in {T = declared.Root} old.root) bytes doc
      → timed_of crypto now bytes old ≡ Ok (with_timestamp old (record { bytes = bytes; document = doc }))
  unfolding timed_of update_timestamp_of
  timed_complete bytes old doc none is =
      ap at_timestamp (to (timestamp_document bytes) _ doc is.read ∙ to (timestamp_checks_of crypto old doc (Some now)) _ tt (time_checked old doc none is.met is.fresh))

  snapshot_complete : (root : declared.Root) (pin : MetaFile) (bytes : List ℕ) (doc : Document Snapshot) → IsSnapshot crypto now root pin bytes doc → snapshot_read_of crypto now root pin bytes ≡ Ok doc
  unfolding snapshot_read_of snapshot_judged_of
  snapshot_complete root pin bytes doc is =
      to (snapshot_document bytes) _ doc is.read
      ∙ to (snapshot_judged_of crypto now root pin doc) _ tt
      (to (meets_role_of crypto root (codes "snapshot") doc) _ tt (role_ok crypto root _ doc is.met) ∙ to (version_of pin (content_in {T = Snapshot} doc).version) _ tt (version_ok pin _ is.version)
      ∙ (fresh_exactly (codes "snapshot") (content_in {T = Snapshot} doc).expires now).1 is.fresh)

  pub snapped_complete : (bytes : List ℕ) (old : InForce) (pin : MetaFile) (doc : Document Snapshot) → snapshot_pin_in old ≡ Some pin → IsSnapshot crypto now (content_in {T = declared.Root} old.root) pin bytes doc
      → snapped_of crypto now bytes old ≡ Ok (having_snapshot old bytes doc)
  unfolding snapped_of
  snapped_complete bytes old pin doc pinned is =
      to (ok_or (snapshot_pin_in old) (archive.Timestamp (tuf.Malformed rule.Unpinned))) _ pin (ap (λ p. ok_or p (archive.Timestamp (tuf.Malformed rule.Unpinned))) pinned)
      ∙ to (at_snapshot (snapshot_read_of crypto now (content_in {T = declared.Root} old.root) pin bytes)) _ doc (ap at_snapshot (snapshot_complete (content_in {T = declared.Root} old.root) pin bytes doc is))
