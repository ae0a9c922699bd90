-- A role's document comes into force exactly where it is trusted.
use Rattle.std.proofs.Common.{◌≡◌, ℕ, ◌==◌, List, Bool, true, false, if◌then◌else◌, Option, Some, None, Ok, Err, bytes_eq, codes, refl, sym, ap, ◌∙◌, subst, arith}
use Rattle.std.specs.Prelude.{ok_or, option_map, option_and_then}
use Rattle.std.proofs.lemmas.Bool.Decides.{nat_tests}
use Rattle.std.proofs.lemmas.Slice.Eq.{bytes_eq-Decides}
use Rattle.jiff_core.specs.declared.timestamp.Timestamp as jiff
use Rattle.foundation.specs.Results.{step_ok, ok_same, some_same}
use Rattle.sigstore_types_parts.specs.Entries.{at_name}
use Rattle.sigstore_keys.specs.Crypto.{Crypto}
use Rattle.sigstore_tuf_text.specs.declared.error.Error.TheVariants as tuf
use Rattle.sigstore_tuf_text.specs.declared.error.Mismatch.TheVariants as mismatch
use Rattle.sigstore_tuf_text.specs.declared.error.Rule.TheVariants as rule
use Rattle.sigstore_tuf_text.specs.Names.{pin_name}
use Rattle.sigstore_tuf_parts.specs.declared.keys.RoleKeys.{RoleKeys}
use Rattle.sigstore_tuf_parts.specs.declared.root.Root as declared
use Rattle.sigstore_tuf_parts.specs.declared.snapshot.Snapshot.{Snapshot}
use Rattle.sigstore_tuf_parts.specs.declared.targets.Delegations.{Delegations}
use Rattle.sigstore_tuf_parts.specs.declared.targets.Targets.{Targets}
use Rattle.sigstore_tuf_parts.specs.declared.timestamp.MetaFile.{MetaFile}
use Rattle.sigstore_tuf_parts.specs.Document.{Document, content_in}
use Rattle.sigstore_tuf_parts.specs.Integrity.{integrity_of, version_of}
use Rattle.sigstore_tuf_parts.specs.Meets.{Meets}
use Rattle.sigstore_tuf_parts.specs.Pinned.{Fresh}
use Rattle.sigstore_tuf_parts.specs.RootRoles.{meets_role_of, MeetsRole}
use Rattle.sigstore_tuf_parts.proofs.IntegrityLaws.{integrity_exactly, fresh_exactly}
use Rattle.sigstore_tuf_parts.proofs.MeetsLaw.{meets_exactly}
use Rattle.sigstore_tuf_rules.specs.declared.documents.Held.{Held}
use Rattle.sigstore_tuf_rules.specs.declared.documents.InForce.{InForce}
use Rattle.sigstore_tuf_rules.specs.declared.visit.Visit.{Visit}
use Rattle.sigstore_tuf_rules.specs.Authorised.{IsPinnedBy}
use Rattle.sigstore_tuf_rules.specs.Delegated.{not_top_level_of, delegation_of, meets_delegation_of, with_role, role_pin_of, role_checks_of, role_document_of, update_role_of}
use Rattle.sigstore_tuf_rules.specs.Documents.{targets_document, content_of}
use Rattle.sigstore_tuf_rules.specs.Order.{is_top_level}
use Rattle.sigstore_tuf_rules.specs.Trusted.{RoleAuthority, authority_in, delegated_authority, root_authority, IsTrustedRole}
use Rattle.sigstore_tuf_rules.specs.Update.{fresh_at_of, targets_pin_of, targets_checks_of, update_targets_of}
use Rattle.sigstore_tuf_rules.proofs.RolePuts.{role_read}
use Rattle.sigstore_tuf_rules.proofs.Updates.{ok_some, same_version, fresh_from, targets_put}
use Rattle.trust_archive.specs.Judgement.{adopted_of}
use Rattle.trust_archive.proofs.Parts.{to}

pub equal : (m n : ℕ) → m ≡ n → (m == n) ≡ true
equal m n h = grind (arith, nat_tests)

pub version_ok : (pin : MetaFile) (version : ℕ) → version ≡ pin.version → version_of pin version ≡ Ok tt
version_ok pin version h = ap (λ b. if b then Ok tt else Err (tuf.IntegrityMismatch mismatch.Version)) (equal version pin.version h)

pub role_ok : {T : Type 0} (crypto : Crypto) (root : declared.Root) (name : List ℕ) (doc : Document T) → MeetsRole crypto root name doc → meets_role_of crypto root name doc ≡ Ok tt
unfolding meets_role_of
role_ok crypto root name doc (role, at, met) =
    to (ok_or (at_name name root.roles) (tuf.UnknownRole name)) _ role (ap (λ o. ok_or o (tuf.UnknownRole name)) at) ∙ (meets_exactly crypto root.keys role name doc).1 met

module _ (crypto : Crypto) (now : jiff.Timestamp) (set : InForce) (root : declared.Root) (root_is : content_in {T = declared.Root} set.root ≡ root) (snap : Held Snapshot) (snap_is : set.snapshot ≡ Some snap) (docs : List ℕ → Option Targets) where
  abbrev pub IsRole : Visit → List ℕ → Type 0
  IsRole v bytes = IsTrustedRole crypto root (content_of snap) docs now v bytes

  -- the document is trusted and in force
  pub record Adopted (v : Visit) (bytes : List ℕ) (new : InForce) : Type 0 where
    pub trusted : IsRole v bytes
    pub new_is : new ≡ with_role set v.name (record { bytes = bytes; document = trusted.doc })

  -- ---- what comes into force is trusted

  snap_same : (s : Held Snapshot) → set.snapshot ≡ Some s → s ≡ snap
  snap_same s h = some_same s snap (sym h ∙ snap_is)

  -- the pin in the snapshot
  pinned_at : (name : List ℕ) (held : Held Targets) (p : IsPinnedBy set.snapshot name held) → at_name (pin_name name) (content_of snap).meta ≡ Some p.pin
  pinned_at name held p = ap (λ (s : Held Snapshot). at_name (pin_name name) (content_of s).meta) (sym (snap_same p.held p.there)) ∙ p.pin_is

  top_sound : (v : Visit) (bytes : List ℕ) (new : InForce) → bytes_eq v.name (codes "targets") ≡ true → update_targets_of crypto set bytes (Some now) ≡ Ok new → Adopted v bytes new
  top_sound v bytes new is h =
      let p = targets_put crypto set bytes (Some now) new h in
      let name : v.name ≡ codes "targets" = (bytes_eq-Decides v.name (codes "targets")).0 is in
      let met : MeetsRole crypto root (codes "targets") p.held.document = subst (λ x. MeetsRole crypto x (codes "targets") p.held.document) root_is p.signed.met in
      subst (λ b. Adopted v b new) p.bytes_is
      (record {
        trusted = record {
          doc = p.held.document;
          pin = p.pinned.pin;
          authority = record { keys = root.keys; role = met.0 };
          read = p.signed.read;
          pin_is = ap (λ n. at_name (pin_name n) (content_of snap).meta) name ∙ pinned_at (codes "targets") p.held p.pinned;
          pinned = p.pinned.pinned;
          fresh = p.fresh;
          authority_is = ap (λ b. if b then root_authority root v.name else delegated_authority docs v) is
              ∙ ap (λ n. option_map (λ role. record { keys = root.keys; role = role }) (at_name n root.roles)) name
              ∙ ap (option_map (λ role. record { keys = root.keys; role = role })) met.1;
          met = met.2;
        };
        new_is = p.new_is ∙ ap (λ n. with_role set n p.held) (sym name);
      })

  -- the delegation of a role stands in the document of its delegator
  delegated_there : (v : Visit) (authority : RoleAuthority) → ((h : Held Targets) → at_name v.delegator set.targets ≡ Some h → docs v.delegator ≡ Some (content_of h)) → delegation_of set v ≡ Ok authority → delegated_authority docs v ≡ Some authority
  unfolding delegation_of
  delegated_there v authority agree h =
      let t = step_ok (not_top_level_of v.name) _ authority h in
      let e = step_ok (ok_or (at_name v.delegator set.targets) (tuf.UnknownRole v.delegator)) _ authority t.2 in
      let there = ok_some (at_name v.delegator set.targets) (tuf.UnknownRole v.delegator) e.0 e.1 in
      let f = step_ok (ok_or (content_of e.0).delegations (tuf.Malformed rule.NoDelegations)) _ authority e.2 in
      let ds = ok_some (content_of e.0).delegations (tuf.Malformed rule.NoDelegations) f.0 f.1 in
      ap (option_and_then (λ (doc : Targets). option_and_then (authority_in v.name) doc.delegations)) (agree e.0 there) ∙ ap (option_and_then (authority_in v.name)) ds
      ∙ ok_some (authority_in v.name f.0) (tuf.UnknownRole v.name) authority f.2

  -- a delegated role was read, and checked
  record RoleFacts (v : Visit) (bytes : List ℕ) (new : InForce) : Type 0 where
    authority : RoleAuthority
    delegated : delegation_of set v ≡ Ok authority
    pin : MetaFile
    pin_is : at_name (pin_name v.name) (content_of snap).meta ≡ Some pin
    doc : Document Targets
    intact : integrity_of pin.length pin.hashes bytes ≡ Ok tt
    read : targets_document bytes ≡ Ok doc
    checked : role_checks_of crypto authority pin v.name doc (Some now) ≡ Ok tt
    new_is : new ≡ with_role set v.name (record { bytes = bytes; document = doc })

  pin_there : (name : List ℕ) (pin : MetaFile) → role_pin_of set name (Some now) ≡ Ok pin → at_name (pin_name name) (content_of snap).meta ≡ Some pin
  unfolding role_pin_of
  pin_there name pin h =
      let s = step_ok (ok_or set.snapshot (tuf.Malformed rule.NoSnapshot)) _ pin h in
      let f = step_ok (fresh_at_of (codes "snapshot") (content_of s.0).expires (Some now)) _ pin s.2 in
      ap (λ (x : Held Snapshot). at_name (pin_name name) (content_of x).meta) (sym (snap_same s.0 (ok_some set.snapshot (tuf.Malformed rule.NoSnapshot) s.0 s.1)))
      ∙ ok_some (at_name (pin_name name) (content_of s.0).meta) (tuf.Malformed rule.Unpinned) pin f.2

  role_facts : (v : Visit) (bytes : List ℕ) (new : InForce) → update_role_of crypto set v bytes (Some now) ≡ Ok new → RoleFacts v bytes new
  unfolding update_role_of
  role_facts v bytes new h =
      let a = step_ok (delegation_of set v) _ new h in
      let p = step_ok (role_pin_of set v.name (Some now)) _ new a.2 in
      let d = step_ok (role_document_of crypto a.0 p.0 v.name bytes (Some now)) _ new p.2 in
      let r = role_read crypto a.0 p.0 v.name bytes (Some now) d.0 d.1 in
      record {
        authority = a.0;
        delegated = a.1;
        pin = p.0;
        pin_is = pin_there v.name p.0 p.1;
        doc = d.0;
        intact = r.intact;
        read = r.read;
        checked = r.checked;
        new_is = sym (ok_same _ new d.2);
      }

  record Checked (authority : RoleAuthority) (pin : MetaFile) (name : List ℕ) (doc : Document Targets) : Type 0 where
    version : (content_in doc).version ≡ pin.version
    met : Meets crypto authority.keys authority.role doc
    fresh : Fresh (content_in doc).expires now

  checks : (authority : RoleAuthority) (pin : MetaFile) (name : List ℕ) (doc : Document Targets) → role_checks_of crypto authority pin name doc (Some now) ≡ Ok tt → Checked authority pin name doc
  unfolding role_checks_of
  checks authority pin name doc h =
      let v = step_ok (version_of pin (content_in doc).version) _ tt h in
      let m = step_ok (meets_delegation_of crypto authority name doc) _ tt v.2 in
      record {
        version = same_version pin (content_in doc).version v.1;
        met = (meets_exactly crypto authority.keys authority.role name doc).0 m.1;
        fresh = fresh_from name (content_in doc).expires now m.2;
      }

  low_sound : (v : Visit) (bytes : List ℕ) (new : InForce) → ((h : Held Targets) → at_name v.delegator set.targets ≡ Some h → docs v.delegator ≡ Some (content_of h)) → bytes_eq v.name (codes "targets") ≡ false
      → update_role_of crypto set v bytes (Some now) ≡ Ok new → Adopted v bytes new
  low_sound v bytes new agree other h =
      let f = role_facts v bytes new h in
      let c = checks f.authority f.pin v.name f.doc f.checked in
      record {
        trusted = record {
          doc = f.doc;
          pin = f.pin;
          authority = f.authority;
          read = f.read;
          pin_is = f.pin_is;
          pinned = record { intact = (integrity_exactly f.pin.length f.pin.hashes bytes).0 f.intact; version_is = c.version };
          fresh = c.fresh;
          authority_is = ap (λ b. if b then root_authority root v.name else delegated_authority docs v) other ∙ delegated_there v f.authority agree f.delegated;
          met = c.met;
        };
        new_is = f.new_is;
      }

  pub adopted_sound : (v : Visit) (bytes : List ℕ) (new : InForce) → ((h : Held Targets) → at_name v.delegator set.targets ≡ Some h → docs v.delegator ≡ Some (content_of h)) → adopted_of crypto now set v bytes ≡ Ok new → Adopted v bytes new
  adopted_sound v bytes new agree h = by_name (bytes_eq v.name (codes "targets")) refl h
    where
      by_name : (b : Bool) → bytes_eq v.name (codes "targets") ≡ b → (if b then update_targets_of crypto set bytes (Some now) else update_role_of crypto set v bytes (Some now)) ≡ Ok new → Adopted v bytes new
      by_name true e h = top_sound v bytes new e h
      by_name false e h = low_sound v bytes new agree e h

  -- ---- what is trusted comes into force

  module _ (snap_fresh : Fresh (content_of snap).expires now) (v : Visit) (bytes : List ℕ) (t : IsRole v bytes) where
    abbrev new : InForce
    new = with_role set v.name (record { bytes = bytes; document = t.doc })

    fresh_snap : fresh_at_of (codes "snapshot") (content_of snap).expires (Some now) ≡ Ok tt
    fresh_snap = (fresh_exactly (codes "snapshot") (content_of snap).expires now).1 snap_fresh

    there : ok_or set.snapshot (tuf.Malformed rule.NoSnapshot) ≡ Ok snap
    there = ap (λ s. ok_or s (tuf.Malformed rule.NoSnapshot)) snap_is

    intact : integrity_of t.pin.length t.pin.hashes bytes ≡ Ok tt
    intact = (integrity_exactly t.pin.length t.pin.hashes bytes).1 t.pinned.intact

    version : version_of t.pin (content_in {T = Targets} t.doc).version ≡ Ok tt
    version = version_ok t.pin (content_in {T = Targets} t.doc).version t.pinned.version_is

    -- the top-level document
    top_pin : v.name ≡ codes "targets" → targets_pin_of set (Some now) ≡ Ok t.pin
    unfolding targets_pin_of
    top_pin name =
        to (ok_or set.snapshot (tuf.Malformed rule.NoSnapshot)) _ snap there ∙ to (fresh_at_of (codes "snapshot") (content_of snap).expires (Some now)) _ tt fresh_snap
        ∙ ap (λ p. ok_or p (tuf.Malformed rule.Unpinned)) (ap (λ n. at_name (pin_name n) (content_of snap).meta) (sym name) ∙ t.pin_is)

    root_role : v.name ≡ codes "targets" → root_authority root v.name ≡ Some t.authority → MeetsRole crypto root (codes "targets") t.doc
    root_role name is = by_role (at_name (codes "targets") root.roles) refl (ap (root_authority root) (sym name) ∙ is)
      where
        by_role : (o : Option RoleKeys) → at_name (codes "targets") root.roles ≡ o → option_map (λ role. record { keys = root.keys; role = role }) o ≡ Some t.authority
            → MeetsRole crypto root (codes "targets") t.doc
        by_role None e h = cc
        by_role (Some role) e h =
            let same : record { keys = root.keys; role = role } ≡ t.authority = some_same _ t.authority h in
            (role, e, subst (λ (a : RoleAuthority). Meets crypto a.keys a.role t.doc) (sym same) t.met)

    top_checks : MeetsRole crypto root (codes "targets") t.doc → targets_checks_of crypto set t.pin t.doc (Some now) ≡ Ok tt
    unfolding targets_checks_of
    top_checks met =
        to (version_of t.pin (content_in {T = Targets} t.doc).version) _ tt version
        ∙ to (meets_role_of crypto (content_in {T = declared.Root} set.root) (codes "targets") t.doc) _ tt (ap (λ x. meets_role_of crypto x (codes "targets") t.doc) root_is ∙ role_ok crypto root (codes "targets") t.doc met)
        ∙ (fresh_exactly (codes "targets") (content_in {T = Targets} t.doc).expires now).1 t.fresh

    top_complete : bytes_eq v.name (codes "targets") ≡ true → update_targets_of crypto set bytes (Some now) ≡ Ok new
    unfolding update_targets_of
    top_complete is =
        let name : v.name ≡ codes "targets" = (bytes_eq-Decides v.name (codes "targets")).0 is in
        let authority = sym (ap (λ b. if b then root_authority root v.name else delegated_authority docs v) is) ∙ t.authority_is in
        to (targets_pin_of set (Some now)) _ t.pin (top_pin name) ∙ to (integrity_of t.pin.length t.pin.hashes bytes) _ tt intact ∙ to (targets_document bytes) _ t.doc t.read
        ∙ to (targets_checks_of crypto set t.pin t.doc (Some now)) _ tt (top_checks (root_role name authority)) ∙ ap (λ n. Ok (with_role set n (record { bytes = bytes; document = t.doc }))) (sym name)

    -- a delegated one
    module _ (other : bytes_eq v.name (codes "targets") ≡ false) (low : is_top_level v.name ≡ false) (h : Held Targets) (at : at_name v.delegator set.targets ≡ Some h) (agree : docs v.delegator ≡ Some (content_of h)) where
      delegated : delegation_of set v ≡ Ok t.authority
      unfolding delegation_of
      delegated = by_delegations (content_of h).delegations refl (sym (ap (option_and_then (λ (doc : Targets). option_and_then (authority_in v.name) doc.delegations)) agree) ∙ is_delegated)
        where
          is_delegated : delegated_authority docs v ≡ Some t.authority
          is_delegated = sym (ap (λ b. if b then root_authority root v.name else delegated_authority docs v) other) ∙ t.authority_is

          by_delegations : (ds : Option Delegations) → (content_of h).delegations ≡ ds → option_and_then (authority_in v.name) ds ≡ Some t.authority → delegation_of set v ≡ Ok t.authority
          by_delegations None is e = cc
          by_delegations (Some d) is e = rw (low, at, is, e) refl

      low_pin : role_pin_of set v.name (Some now) ≡ Ok t.pin
      unfolding role_pin_of
      low_pin =
          to (ok_or set.snapshot (tuf.Malformed rule.NoSnapshot)) _ snap there ∙ to (fresh_at_of (codes "snapshot") (content_of snap).expires (Some now)) _ tt fresh_snap
          ∙ ap (λ p. ok_or p (tuf.Malformed rule.Unpinned)) t.pin_is

      low_checks : role_checks_of crypto t.authority t.pin v.name t.doc (Some now) ≡ Ok tt
      unfolding role_checks_of
      low_checks =
          to (version_of t.pin (content_in {T = Targets} t.doc).version) _ tt version
          ∙ to (meets_delegation_of crypto t.authority v.name t.doc) _ tt ((meets_exactly crypto t.authority.keys t.authority.role v.name t.doc).1 t.met)
          ∙ (fresh_exactly v.name (content_in {T = Targets} t.doc).expires now).1 t.fresh

      low_document : role_document_of crypto t.authority t.pin v.name bytes (Some now) ≡ Ok t.doc
      unfolding role_document_of
      low_document =
          to (integrity_of t.pin.length t.pin.hashes bytes) _ tt intact ∙ to (targets_document bytes) _ t.doc t.read ∙ to (role_checks_of crypto t.authority t.pin v.name t.doc (Some now)) _ tt low_checks

      low_complete : update_role_of crypto set v bytes (Some now) ≡ Ok new
      unfolding update_role_of
      low_complete =
          to (delegation_of set v) _ t.authority delegated ∙ to (role_pin_of set v.name (Some now)) _ t.pin low_pin ∙ to (role_document_of crypto t.authority t.pin v.name bytes (Some now)) _ t.doc low_document

    -- `targets`, or a role that isn't a top-level one and whose delegator's document is in force
    abbrev pub IsReached : Type 0
    IsReached = bytes_eq v.name (codes "targets") ≡ false → (is_top_level v.name ≡ false) × ((h : Held Targets) × (at_name v.delegator set.targets ≡ Some h) × (docs v.delegator ≡ Some (content_of h)))

    pub adopted_complete : IsReached → adopted_of crypto now set v bytes ≡ Ok (with_role set v.name (record { bytes = bytes; document = t.doc }))
    adopted_complete reached = by_name (bytes_eq v.name (codes "targets")) refl
      where
        by_name : (b : Bool) → bytes_eq v.name (codes "targets") ≡ b → (if b then update_targets_of crypto set bytes (Some now) else update_role_of crypto set v bytes (Some now)) ≡ Ok (with_role set v.name (record { bytes = bytes; document = t.doc }))
        by_name true e = top_complete e
        by_name false e = let r = reached e in low_complete e r.0 r.1.0 r.1.1 r.1.2
