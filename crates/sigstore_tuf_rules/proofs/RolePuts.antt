-- A delegated role's document that is put in force is the pinned one, and leaves the others as they were.
use Rattle.std.proofs.Common.{◌≡◌, ℕ, List, Bool, true, false, cond, if◌then◌else◌, Option, Some, None, Result, Ok, Err, codes, refl, sym, ap, ◌∙◌, subst}
use Rattle.std.specs.Prelude.{⊤, IfSome, ok_or, option_map, option_copied, is_some}
use Rattle.std.specs.Borrow.{Bor}
use Rattle.std.specs.Ordering.{is_eq}
use Rattle.std.proofs.lemmas.Slice.Eq.{bytes_eq-Decides}
use Rattle.std.proofs.lemmas.Map.Text.{is_eq-slice_cmp}
use Rattle.jiff_core.specs.declared.timestamp.Timestamp as jiff
use Rattle.foundation.specs.Results.{step_ok, ok_same}
use Rattle.sigstore_types_parts.specs.Entries.{at_name, text_cmp}
use Rattle.sigstore_keys.specs.Crypto.{Crypto}
use Rattle.sigstore_tuf_text.specs.declared.error.Error.{Error}
use Rattle.sigstore_tuf_text.specs.declared.error.Error.TheVariants as tuf
use Rattle.sigstore_tuf_text.specs.declared.error.Rule.TheVariants as rule
use Rattle.sigstore_tuf_parts.specs.declared.snapshot.Snapshot.{Snapshot}
use Rattle.sigstore_tuf_parts.specs.declared.targets.Targets.{Targets}
use Rattle.sigstore_tuf_parts.specs.declared.timestamp.MetaFile.{MetaFile}
use Rattle.sigstore_tuf_parts.specs.Document.{Document, content_in}
use Rattle.sigstore_tuf_parts.specs.Integrity.{integrity_of, version_of}
use Rattle.sigstore_tuf_text.specs.Names.{pin_name}
use Rattle.sigstore_tuf_parts.specs.RootRoles.{MeetsRole}
use Rattle.sigstore_tuf_parts.proofs.IntegrityLaws.{integrity_exactly}
use Rattle.sigstore_tuf_rules.specs.declared.documents.Held.{Held}
use Rattle.sigstore_tuf_rules.specs.declared.documents.InForce.{InForce}
use Rattle.sigstore_tuf_rules.specs.Documents.{targets_document, content_of}
use Rattle.sigstore_tuf_rules.specs.Update.{fresh_at_of, Updates}
use Rattle.sigstore_tuf_rules.specs.Taking.{top_targets, taken_of, Takes}
use Rattle.sigstore_tuf_rules.specs.Order.{Visit, is_top_level}
use Rattle.sigstore_tuf_rules.specs.Trusted.{RoleAuthority}
use Rattle.sigstore_tuf_rules.specs.Delegated.{not_top_level_of, delegation_of, with_role, role_pin_of, role_checks_of, role_document_of, update_role_of}
use Rattle.sigstore_tuf_rules.specs.Authorised.{IsPinnedBy, AreAuthorised, given_in, UpdatesSet}
use Rattle.sigstore_tuf_outside.proofs.Files.{at_insert}
use Rattle.sigstore_tuf_rules.proofs.Updates.{ok_some, same_version}
use Rattle.sigstore_tuf_rules.proofs.Floors.{floor_same}
use Rattle.sigstore_tuf_rules.proofs.Authorised.{Stays, same, roles_more}

-- ---- what was checked

pub not_top : (set : InForce) (v : Visit) (authority : RoleAuthority) → delegation_of set v ≡ Ok authority → is_top_level v.name ≡ false
unfolding delegation_of
not_top set v authority h = let a = step_ok (not_top_level_of v.name) _ authority h in by_test (is_top_level v.name) a.1
  where
    by_test : (b : Bool) → ◌≡◌ {A = Result ⊤ Error} (if b then Err (tuf.Malformed rule.TopLevel) else Ok tt) (Ok tt) → b ≡ false
    by_test true e = cc
    by_test false e = refl

pinned_so : (set : InForce) (name : List ℕ) (pin : MetaFile) (now : Option jiff.Timestamp) → role_pin_of set name now ≡ Ok pin → (held : Held Snapshot) × (set.snapshot ≡ Some held) × (at_name (pin_name name) (content_of held).meta ≡ Some pin)
unfolding role_pin_of
pinned_so set name pin now h =
    let s = step_ok (ok_or set.snapshot (tuf.Malformed rule.NoSnapshot)) _ pin h in
    let f = step_ok (fresh_at_of (codes "snapshot") (content_of s.0).expires now) _ pin s.2 in
    (s.0, ok_some set.snapshot (tuf.Malformed rule.NoSnapshot) s.0 s.1, ok_some (at_name (pin_name name) (content_of s.0).meta) (tuf.Malformed rule.Unpinned) pin f.2)

version_so : (crypto : Crypto) (authority : RoleAuthority) (pin : MetaFile) (name : List ℕ) (doc : Document Targets) (now : Option jiff.Timestamp) → role_checks_of crypto authority pin name doc now ≡ Ok tt → version_of pin (content_in doc).version ≡ Ok tt
unfolding role_checks_of
version_so crypto authority pin name doc now h = let a = step_ok (version_of pin (content_in doc).version) _ tt h in a.1

pub record RoleRead (crypto : Crypto) (authority : RoleAuthority) (pin : MetaFile) (name bytes : List ℕ) (now : Option jiff.Timestamp) (doc : Document Targets) : Type 0 where
  pub intact : integrity_of pin.length pin.hashes bytes ≡ Ok tt
  pub read : targets_document bytes ≡ Ok doc
  pub checked : role_checks_of crypto authority pin name doc now ≡ Ok tt

pub role_read : (crypto : Crypto) (authority : RoleAuthority) (pin : MetaFile) (name bytes : List ℕ) (now : Option jiff.Timestamp) (doc : Document Targets) → role_document_of crypto authority pin name bytes now ≡ Ok doc → RoleRead crypto authority pin name bytes now doc
unfolding role_document_of
role_read crypto authority pin name bytes now doc h =
    let i = step_ok (integrity_of pin.length pin.hashes bytes) _ doc h in
    let r = step_ok (targets_document bytes) _ doc i.2 in
    let c = step_ok (role_checks_of crypto authority pin name r.0 now) _ doc r.2 in
    let same = ok_same r.0 doc c.2 in
    record { intact = i.1; read = r.1 ∙ ap Ok same; checked = subst (λ d. role_checks_of crypto authority pin name d now ≡ Ok tt) same c.1 }

-- ---- the top-level document stays

pub top_stays : (old : InForce) (name : List ℕ) (held : Held Targets) → is_top_level name ≡ false → top_targets (with_role old name held) ≡ top_targets old
top_stays old name held other = at_insert (codes "targets") name held old.targets ∙ by_test (is_eq (text_cmp (codes "targets") name)) refl
  where
    by_test : (b : Bool) → is_eq (text_cmp (codes "targets") name) ≡ b → cond b (Some held) (at_name (codes "targets") old.targets) ≡ at_name (codes "targets") old.targets
    by_test true e =
        let same : codes "targets" ≡ name = (bytes_eq-Decides (codes "targets") name).0 (sym (is_eq-slice_cmp (codes "targets") name) ∙ e) in
        let never : true ≡ false = ap is_top_level same ∙ other in cc
    by_test false e = refl

-- ---- what was taken in

pub taken_some : (u : Result InForce Error) (new : InForce) → taken_of u ≡ Ok (Some new) → u ≡ Ok new
taken_some (Ok set) new h = cc
taken_some (Err e) new h = cc

pub was_taken : (u : Result InForce Error) (old new : InForce) (was : Bool) → Takes (taken_of u) old new (Ok was) → taken_of u ≡ Ok (Some new)
was_taken u old new true t = t
was_taken (Ok set) old new false t = cc
was_taken (Err e) old new false t = cc

-- what isn't held
pub not_held : {A : Type 0} (o : Option (Bor A)) (x : Option A) → false ≡ is_some o → option_copied o ≡ x → is_some x ≡ false
not_held None x n e = ap is_some (sym e)
not_held (Some b) x n e = let never : false ≡ true = n in cc

-- ---- the update

module _ (crypto : Crypto) (old : InForce) (v : Visit) (bytes : List ℕ) where
  pub record RolePut (new : InForce) : Type 0 where
    pub held : Held Targets
    pub bytes_is : held.bytes ≡ bytes
    pub authority : RoleAuthority
    pub delegated : delegation_of old v ≡ Ok authority
    pub other : is_top_level v.name ≡ false
    pub pinned : IsPinnedBy old.snapshot v.name held
    pub new_is : new ≡ with_role old v.name held

  pub role_put : (now : Option jiff.Timestamp) (new : InForce) → update_role_of crypto old v bytes now ≡ Ok new → RolePut new
  unfolding update_role_of
  role_put now new h =
      let a = step_ok (delegation_of old v) _ new h in
      let p = step_ok (role_pin_of old v.name now) _ new a.2 in
      let d = step_ok (role_document_of crypto a.0 p.0 v.name bytes now) _ new p.2 in
      let s = pinned_so old v.name p.0 now p.1 in
      let r = role_read crypto a.0 p.0 v.name bytes now d.0 d.1 in
      record {
        held = record { bytes = bytes; document = d.0 };
        bytes_is = refl;
        authority = a.0;
        delegated = a.1;
        other = not_top old v a.0 a.1;
        pinned = record {
          read = r.read;
          held = s.0;
          there = s.1;
          pin = p.0;
          pin_is = s.2;
          pinned = record { intact = (integrity_exactly p.0.length p.0.hashes bytes).0 r.intact; version_is = same_version p.0 (content_in d.0).version (version_so crypto a.0 p.0 v.name d.0 now r.checked) };
        };
        new_is = sym (ok_same _ new d.2);
      }

  pub role_stays : (now : Option jiff.Timestamp) (new : InForce) → update_role_of crypto old v bytes now ≡ Ok new → Stays crypto old new
  role_stays now new h =
      let p = role_put now new h in
      subst (Stays crypto old) (sym p.new_is) (record {
        authorised = λ k. (
          record {
            roots = k.roots;
            timestamp = k.timestamp;
            snapshot = k.snapshot;
            targets = subst (λ o. IfSome o (λ (t : Held Targets). MeetsRole crypto (content_in old.root) (codes "targets") t.document)) (sym (top_stays old v.name p.held p.other)) k.targets;
            roles = roles_more old v.name p.held p.pinned k.roles;
          },
          refl,
        );
        rises = refl;
        floor = floor_same old (with_role old v.name p.held) refl refl refl;
      })

  -- as it is promised
  pub role_updates_set : (now : Option jiff.Timestamp) (new : InForce) (result : Result ⊤ Error) → Updates (update_role_of crypto old v bytes now) old new result → AreAuthorised crypto (given_in old) old
      → UpdatesSet (update_role_of crypto old v bytes now) crypto old new result
  role_updates_set now new (Ok x) u auth =
      let s = role_stays now new u in
      let at = s.authorised auth in
      record { updates = u; given = at.1; authorised = subst (λ g. AreAuthorised crypto g new) (sym at.1) at.0; floor = s.floor }
  role_updates_set now new (Err e) u auth =
      record { updates = u; given = ap given_in u.0; authorised = subst (λ s. AreAuthorised crypto (given_in s) s) (sym u.0) auth; floor = (same crypto old new u.0).floor }

  -- its bytes are those that were judged
  pub role_there : (now : Option jiff.Timestamp) (new : InForce) → taken_of (update_role_of crypto old v bytes now) ≡ Ok (Some new) → option_map (λ (held : Held Targets). held.bytes) (at_name v.name new.targets) ≡ Some bytes
  role_there now new h =
      let p = role_put now new (taken_some (update_role_of crypto old v bytes now) new h) in
      ap (λ (s : InForce). option_map (λ (held : Held Targets). held.bytes) (at_name v.name s.targets)) p.new_is
      ∙ ap (option_map (λ (held : Held Targets). held.bytes)) (at_insert v.name v.name p.held old.targets ∙ ap (λ b. cond b (Some p.held) (at_name v.name old.targets)) (is_eq-slice_cmp v.name v.name ∙ (bytes_eq-Decides v.name v.name).1 refl))
      ∙ ap Some p.bytes_is
