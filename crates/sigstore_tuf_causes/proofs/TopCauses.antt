-- Each refusal of the top-level documents that are to serve a search has its cause.
use Rattle.std.proofs.Common.{◌≡◌, ◌≢◌, ℕ, false, Option, Some, None, Err, codes, refl, sym, ap, ◌∙◌}
use Rattle.jiff_core.specs.declared.timestamp.Timestamp as jiff
use Rattle.foundation.specs.Results.{err_same, some_same, refused_at}
use Rattle.sigstore_tuf_text.specs.declared.error.Error.{Error}
use Rattle.sigstore_tuf_text.specs.declared.error.Error.TheVariants as tuf
use Rattle.sigstore_tuf_text.specs.declared.error.Mismatch.TheVariants as mismatch
use Rattle.sigstore_tuf_parts.specs.declared.root.Root.{Root}
use Rattle.sigstore_tuf_parts.specs.declared.snapshot.Snapshot.{Snapshot}
use Rattle.sigstore_tuf_parts.specs.declared.targets.Targets.{Targets}
use Rattle.sigstore_tuf_parts.specs.declared.timestamp.MetaFile.{MetaFile}
use Rattle.sigstore_tuf_parts.specs.declared.timestamp.Timestamp.{Timestamp}
use Rattle.sigstore_tuf_parts.specs.Document.{content_in}
use Rattle.sigstore_tuf_parts.specs.Integrity.{fresh_of}
use Rattle.sigstore_tuf_parts.proofs.PinCauses.{expiry_cause}
use Rattle.sigstore_tuf_rules.specs.declared.documents.Held.{Held}
use Rattle.sigstore_tuf_rules.specs.declared.documents.InForce.{InForce}
use Rattle.sigstore_tuf_rules.specs.Documents.{content_of, snapshot_pin, targets_pin}
use Rattle.sigstore_tuf_rules.specs.Taking.{top_targets}
use Rattle.sigstore_tuf_rules.specs.Serving.{has_version}
use Rattle.sigstore_tuf_rules.specs.SearchServing.{fresh_timestamp_of, fresh_snapshot_of, unexpired_of, pinned_version_of, pinned_by_of, all_pinned_of, search_serves_of}
use Rattle.sigstore_tuf_runs.specs.SearchCause.{TopCause, root_past, timestamp_past, snapshot_past, not_refreshed, targets_past, snapshot_unlike, targets_unlike, no_timestamp, no_snapshot, no_targets}
use Rattle.sigstore_tuf_causes.proofs.Refusals.{refused_unless, other_number}

module _ (now : jiff.Timestamp) (set : InForce) where
  abbrev C : Error → Type 0
  C e = TopCause now set e

  unexpired_cause : (e : Error) → unexpired_of set now ≡ Err e → C e
  unfolding unexpired_of
  unexpired_cause e h =
      refused_at (fresh_of (codes "root") (content_in {T = Root} set.root).expires now) _ e h (λ q. root_past (expiry_cause (codes "root") (content_in {T = Root} set.root).expires now e q)) (λ u q k.
      refused_at (fresh_timestamp_of set.timestamp now) _ e k (λ q. by_timestamp set.timestamp refl q) (λ u q l. by_snapshot set.snapshot refl l))
    where
      by_timestamp : (o : Option (Held Timestamp)) → set.timestamp ≡ o → fresh_timestamp_of o now ≡ Err e → C e
      by_timestamp None is h = cc
      by_timestamp (Some held) is h = timestamp_past held is (expiry_cause (codes "timestamp") (content_of held).expires now e h)

      by_snapshot : (o : Option (Held Snapshot)) → set.snapshot ≡ o → fresh_snapshot_of o now ≡ Err e → C e
      by_snapshot None is h = cc
      by_snapshot (Some held) is h = snapshot_past held is (expiry_cause (codes "snapshot") (content_of held).expires now e h)

  unlike : (pin : Option MetaFile) (version : ℕ) (e : Error) → pinned_version_of pin version ≡ Err e → (e ≡ tuf.IntegrityMismatch mismatch.Version) × ((p : MetaFile) → pin ≡ Some p → version ≢ p.version)
  unlike pin version e h = refused_unless (has_version pin version) (tuf.IntegrityMismatch mismatch.Version) e h (λ is same. (same, λ p at same_version. by_pin pin p at is same_version))
    where
      by_pin : (pin : Option MetaFile) (p : MetaFile) → pin ≡ Some p → has_version pin version ≡ false → version ≡ p.version → ⊥
      by_pin None p at is same = cc
      by_pin (Some q) p at is same = let v = ap (λ (m : MetaFile). m.version) (some_same q p at) in other_number q.version version is (v ∙ sym same)

  pinned_cause : (t : Option (Held Timestamp)) (s : Option (Held Snapshot)) (g : Option (Held Targets)) → set.timestamp ≡ t → set.snapshot ≡ s → top_targets set ≡ g → (e : Error) → all_pinned_of t s g now ≡ Err e → C e
  unfolding pinned_by_of
  pinned_cause None s g et es eg e h = not_refreshed (no_timestamp et) (sym (err_same _ e h))
  pinned_cause (Some t) None g et es eg e h = not_refreshed (no_snapshot es) (sym (err_same _ e h))
  pinned_cause (Some t) (Some s) None et es eg e h = not_refreshed (no_targets eg) (sym (err_same _ e h))
  pinned_cause (Some t) (Some s) (Some g) et es eg e h =
      refused_at (fresh_of (codes "targets") (content_of g).expires now) _ e h (λ q. targets_past g eg (expiry_cause (codes "targets") (content_of g).expires now e q)) (λ u q k.
      refused_at (pinned_version_of (snapshot_pin (content_of t)) (content_of s).version) _ e k
      (λ q. let n = unlike (snapshot_pin (content_of t)) (content_of s).version e q in
      snapshot_unlike s es (λ pin p. n.1 pin (ap (λ (x : Held Timestamp). snapshot_pin (content_of x)) (some_same t p.0 (sym et ∙ p.1)) ∙ p.2)) n.0) (λ u q l.
      let n = unlike (targets_pin (content_of s)) (content_of g).version e l in
      targets_unlike g eg (λ pin p. n.1 pin (ap (λ (x : Held Snapshot). targets_pin (content_of x)) (some_same s p.0 (sym es ∙ p.1)) ∙ p.2)) n.0))

  pub search_cause : (e : Error) → search_serves_of set now ≡ Err e → C e
  unfolding search_serves_of
  search_cause e h =
      refused_at (unexpired_of set now) _ e h (unexpired_cause e) (λ u q k. pinned_cause set.timestamp set.snapshot (top_targets set) refl refl refl e k)
