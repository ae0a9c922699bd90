-- Why the document of a delegated role is refused.
use Rattle.std.proofs.Common.{◌≡◌, ℕ, List, true, Option, Some, None, Ok, Err, codes, refl, sym, ap, ◌∙◌}
use Rattle.std.specs.Prelude.{is_some, option_and_then}
use Rattle.jiff_core.specs.declared.timestamp.Timestamp as jiff
use Rattle.foundation.specs.Results.{ok_same, no_both, refused_at}
use Rattle.sigstore_types_parts.specs.Entries.{at_name}
use Rattle.sigstore_keys.specs.Crypto.{Crypto}
use Rattle.sigstore_tuf_text.specs.declared.error.Error.{Error}
use Rattle.sigstore_tuf_parts.specs.declared.snapshot.Snapshot.{Snapshot}
use Rattle.sigstore_tuf_parts.specs.declared.targets.Targets.{Targets}
use Rattle.sigstore_tuf_parts.specs.declared.timestamp.MetaFile.{MetaFile}
use Rattle.sigstore_tuf_parts.specs.Document.{Document, content_in}
use Rattle.sigstore_tuf_parts.specs.Integrity.{integrity_of, version_of}
use Rattle.sigstore_tuf_text.specs.Names.{pin_name}
use Rattle.sigstore_tuf_parts.proofs.IntegrityLaws.{fresh_exactly}
use Rattle.sigstore_tuf_parts.proofs.PinCauses.{integrity_cause, expiry_cause}
use Rattle.sigstore_tuf_parts.proofs.RoleCauses.{meets_cause}
use Rattle.sigstore_tuf_rules.specs.declared.documents.Held.{Held}
use Rattle.sigstore_tuf_rules.specs.declared.documents.InForce.{InForce}
use Rattle.sigstore_tuf_rules.specs.Documents.{targets_document, content_of}
use Rattle.sigstore_tuf_rules.specs.Names.{role_pin_in}
use Rattle.sigstore_tuf_rules.specs.declared.visit.Visit.{Visit}
use Rattle.sigstore_tuf_rules.specs.Trusted.{RoleAuthority}
use Rattle.sigstore_tuf_rules.specs.Delegated.{delegation_of, meets_delegation_of, role_pin_of, role_checks_of, role_document_of, update_role_of}
use Rattle.sigstore_tuf_rules.specs.Authorised.{Serve}
use Rattle.sigstore_tuf_runs.specs.SearchCause.{RoleRefusal, role_differs, role_unread, role_version, role_unmet, role_expired}
use Rattle.sigstore_tuf_causes.proofs.Refusals.{targets_reads, another_version}

module _ (crypto : Crypto) (set : InForce) (now : jiff.Timestamp) (v : Visit) (bytes : List ℕ) (e : Error) where
  abbrev R : Type 0
  R = RoleRefusal crypto set now v bytes e

  role_unchecked : (authority : RoleAuthority) → delegation_of set v ≡ Ok authority → (pin : MetaFile) → role_pin_in set v.name ≡ Some pin → (doc : Document Targets) → targets_document bytes ≡ Ok doc
      → role_checks_of crypto authority pin v.name doc (Some now) ≡ Err e → R
  unfolding role_checks_of
  role_unchecked authority d pin p doc read h =
      refused_at (version_of pin (content_in doc).version) _ e h (λ q. role_version pin doc p read (another_version pin (content_in doc).version e q)) (λ u q k.
      refused_at (meets_delegation_of crypto authority v.name doc) _ e k (λ q. role_unmet authority doc d read (meets_cause crypto authority.keys authority.role v.name doc e q)) (λ u q l.
      role_expired doc read (expiry_cause v.name (content_in doc).expires now e l)))

  document_refusal : (authority : RoleAuthority) → delegation_of set v ≡ Ok authority → (pin : MetaFile) → role_pin_in set v.name ≡ Some pin → role_document_of crypto authority pin v.name bytes (Some now) ≡ Err e → R
  unfolding role_document_of
  document_refusal authority d pin p h =
      refused_at (integrity_of pin.length pin.hashes bytes) _ e h (λ q. role_differs pin p (integrity_cause pin.length pin.hashes bytes e q)) (λ u q k.
      refused_at (targets_document bytes) _ e k (λ q. role_unread (targets_reads bytes e q)) (λ doc q l.
      refused_at (role_checks_of crypto authority pin v.name doc (Some now)) _ e l (λ r. role_unchecked authority d pin p doc q r) (λ u r m. cc)))

  -- the pin of a snapshot that serves
  pin_here : (serve : Serve now set) (pin : MetaFile) → role_pin_in set v.name ≡ Some pin → role_pin_of set v.name (Some now) ≡ Ok pin
  unfolding role_pin_of
  pin_here serve pin p =
      let fresh = (fresh_exactly (codes "snapshot") (content_of serve.snapshot).expires now).1 serve.snapshot_fresh in
      let is : at_name (pin_name v.name) (content_of serve.snapshot).meta ≡ Some pin =
      sym (ap (option_and_then (λ (held : Held Snapshot). at_name (pin_name v.name) (content_of held).meta)) serve.snapshot_is) ∙ p in
      rw (serve.snapshot_is, fresh, is) refl

  -- whose delegation and whose pin are there
  pub role_refusal : Serve now set → (authority : RoleAuthority) → delegation_of set v ≡ Ok authority → (pin : MetaFile) → role_pin_in set v.name ≡ Some pin → update_role_of crypto set v bytes (Some now) ≡ Err e → R
  unfolding update_role_of
  role_refusal serve authority d pin p h =
      refused_at (delegation_of set v) _ e h (λ q. no_both authority e (sym d ∙ q)) (λ other q k.
      refused_at (role_pin_of set v.name (Some now)) _ e k (λ r. no_both pin e (sym (pin_here serve pin p) ∙ r)) (λ its r l.
      let same : pin ≡ its = ok_same pin its (sym (pin_here serve pin p) ∙ r) in
      refused_at (role_document_of crypto other its v.name bytes (Some now)) _ e l (λ s. document_refusal other q its (p ∙ ap Some same) s) (λ doc s m. cc)))

-- a pin that is there
pub some_pin : (o : Option MetaFile) → is_some o ≡ true → (pin : MetaFile) × (o ≡ Some pin)
some_pin None h = cc
some_pin (Some pin) h = (pin, refl)
