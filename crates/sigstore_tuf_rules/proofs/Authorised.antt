-- The documents in force are authorised whatever was fetched and kept.
use Rattle.std.proofs.Common.{◌≡◌, ◌⊎◌, inl, inr, ℕ, ◌+◌, List, [], ◌∷◌, ◌++◌, length, Option, Some, None, Result, Ok, Err, codes, refl, sym, ap, ◌∙◌, subst, arith, length-append}
use Rattle.std.specs.Prelude.{⊤, IfSome}
use Rattle.std.specs.List.{AllZip, last_or}
use Rattle.jiff_core.specs.declared.timestamp.Timestamp as jiff
use Rattle.std.specs.BTreeMap.{insert_entry}
use Rattle.foundation.specs.Results.{step_ok, ok_same}
use Rattle.sigstore_types_parts.specs.Entries.{text_cmp, at_name}
use Rattle.sigstore_keys.specs.Crypto.{Crypto}
use Rattle.sigstore_tuf_parts.specs.declared.targets.Targets as declared_targets
use Rattle.sigstore_tuf_text.specs.declared.error.Error.{Error}
use Rattle.sigstore_tuf_parts.specs.declared.root.Root as declared
use Rattle.sigstore_tuf_parts.specs.Document.{Document, content_in}
use Rattle.sigstore_tuf_parts.specs.RootRoles.{root_document, meets_role_of, MeetsRole, IsNextRoot, AreNextRoots, Roots}
use Rattle.sigstore_tuf_rules.specs.declared.documents.Held.{Held}
use Rattle.sigstore_tuf_rules.specs.declared.documents.InForce.{InForce}
use Rattle.sigstore_tuf_rules.specs.declared.kind.Kind.{Kind}
use Rattle.sigstore_tuf_rules.specs.declared.kind.Kind.TheVariants.{Root, Timestamp, Snapshot, Targets}
use Rattle.sigstore_tuf_rules.specs.Update.{with_root, with_targets, first_root_of, Updates}
use Rattle.sigstore_tuf_rules.specs.Floor.{standing_of, KeepsFloor}
use Rattle.sigstore_tuf_rules.specs.Taking.{update_of, judged_of}
use Rattle.sigstore_tuf_rules.specs.Serving.{version_in}
use Rattle.sigstore_tuf_rules.specs.Trusted.{BeginsWith}
use Rattle.sigstore_tuf_rules.specs.Authorised.{IsPinnedBy, AreAuthorised, first_in, given_in, StaysAuthorised, UpdatesSet}
use Rattle.sigstore_tuf_outside.proofs.Files.{inserted}
use Rattle.sigstore_tuf_rules.proofs.Floors.{floor_stays, floor_joins, floor_above, floor_same, timestamp_floor, snapshot_floor}
use Rattle.sigstore_tuf_rules.proofs.Updates.{role_met, Puts, update_puts, judged_puts, top_inserted}

-- ---- a first root

pub first_root_authorised : (crypto : Crypto) (bytes : List ℕ) (set : InForce) → first_root_of crypto bytes ≡ Ok set → AreAuthorised crypto bytes set
unfolding first_root_of
first_root_authorised crypto bytes set h =
    let a = step_ok (root_document bytes) _ set h in
    let b = step_ok (meets_role_of crypto (content_in a.0) (codes "root") a.0) _ set a.2 in
    subst (AreAuthorised crypto bytes) (ok_same _ set b.2) (record {
      roots = record { begins = refl; first = a.0; documents = a.0 ∷ []; read = (a.1, tt); next = (refl, role_met crypto (content_in a.0) (codes "root") a.0 b.1, tt); last = refl };
      timestamp = tt;
      snapshot = tt;
      targets = tt;
      roles = λ name held h. cc;
    })

pub first_root_given : (crypto : Crypto) (bytes : List ℕ) (set : InForce) → first_root_of crypto bytes ≡ Ok set → given_in set ≡ bytes
unfolding first_root_of
first_root_given crypto bytes set h =
    let a = step_ok (root_document bytes) _ set h in
    let b = step_ok (meets_role_of crypto (content_in a.0) (codes "root") a.0) _ set a.2 in
    sym (ap given_in (ok_same _ set b.2))

pub first_root_is_authorised : (crypto : Crypto) (bytes : List ℕ) (set : InForce) → first_root_of crypto bytes ≡ Ok set → AreAuthorised crypto (given_in set) set
first_root_is_authorised crypto bytes set h =
    subst (λ g. AreAuthorised crypto g set) (sym (first_root_given crypto bytes set h)) (first_root_authorised crypto bytes set h)

-- ---- one root more

zip_more : {A B : Type 0} (R : A → B → Type 0) (xs : List A) (ys : List B) (x : A) (y : B) → AllZip R xs ys → R x y → AllZip R (xs ++ x ∷ []) (ys ++ y ∷ [])
zip_more R [] [] x y a r = (r, tt)
zip_more R [] (b ∷ bs) x y a r = absurd a
zip_more R (a ∷ rest) [] x y h r = absurd h
zip_more R (a ∷ rest) (b ∷ bs) x y h r = (h.0, zip_more R rest bs x y h.1 r)

last_more : {A : Type 0} (seed : Option A) (xs : List A) (x : A) → last_or seed (xs ++ x ∷ []) ≡ Some x
last_more seed [] x = refl
last_more seed (y ∷ ys) x = last_more (Some y) ys x

begins_more : (given bytes : List ℕ) (roots : List (List ℕ)) → BeginsWith given roots → BeginsWith given (roots ++ bytes ∷ [])
begins_more given bytes [] h = absurd h
begins_more given bytes (root ∷ roots) h = h

next_more : (crypto : Crypto) (root : Document declared.Root) (docs : List (Document declared.Root)) (last doc : Document declared.Root) → AreNextRoots crypto root docs → last_or (Some root) docs ≡ Some last → IsNextRoot crypto last doc
    → AreNextRoots crypto root (docs ++ doc ∷ [])
next_more crypto root [] last doc h is n = let same : root ≡ last = cc in (subst (λ r. IsNextRoot crypto r doc) (sym same) n, tt)
next_more crypto root (d ∷ ds) last doc h is n = (h.0, next_more crypto d ds last doc h.1 is n)

roots_more : (crypto : Crypto) (first : Document declared.Root) (docs : List (Document declared.Root)) (last doc : Document declared.Root) → Roots crypto first docs → last_or None docs ≡ Some last → IsNextRoot crypto last doc
    → Roots crypto first (docs ++ doc ∷ [])
roots_more crypto first [] last doc h is n = absurd h
roots_more crypto first (d ∷ ds) last doc h is n = (h.0, h.1, next_more crypto first ds last doc h.2 (ap (λ r. last_or (Some r) ds) (sym h.0) ∙ is) n)

first_more : (bytes : List ℕ) (roots : List (List ℕ)) (given : List ℕ) → BeginsWith given roots → first_in (roots ++ bytes ∷ []) ≡ first_in roots
first_more bytes [] given h = absurd h
first_more bytes (root ∷ roots) given h = refl

-- ---- one role more

pub roles_more : (old : InForce) (name : List ℕ) (held : Held declared_targets.Targets) → IsPinnedBy old.snapshot name held → ((q : List ℕ) (x : Held declared_targets.Targets) → at_name q old.targets ≡ Some x → IsPinnedBy old.snapshot q x)
    → (q : List ℕ) (x : Held declared_targets.Targets) → at_name q (insert_entry text_cmp old.targets name held) ≡ Some x → IsPinnedBy old.snapshot q x
roles_more old name held p k q x h = by_place (inserted q name held x old.targets h)
  where
    by_place : ((q ≡ name) × (x ≡ held)) ⊎ (at_name q old.targets ≡ Some x) → IsPinnedBy old.snapshot q x
    by_place (inl is) = subst (λ q. IsPinnedBy old.snapshot q x) (sym is.0) (subst (IsPinnedBy old.snapshot name) (sym is.1) p)
    by_place (inr there) = k q x there

-- ---- each document that is put in force

module _ (crypto : Crypto) where
  -- what is authorised stays so
  pub record Stays (old new : InForce) : Type 0 where
    pub authorised : AreAuthorised crypto (given_in old) old → AreAuthorised crypto (given_in old) new × (given_in new ≡ given_in old)
    pub rises : version_in new + length old.roots ≡ version_in old + length new.roots
    pub floor : KeepsFloor (standing_of old) (standing_of new)

  pub stays_same : (a : InForce) → Stays a a
  stays_same a = record { authorised = λ k. (k, refl); rises = refl; floor = floor_stays (standing_of a) }

  pub stays_joins : (a b c : InForce) → Stays a b → Stays b c → Stays a c
  stays_joins a b c p q = record {
    authorised = λ k.
        let at_b = p.authorised k in
        let at_c = q.authorised (subst (λ g. AreAuthorised crypto g b) (sym at_b.1) at_b.0) in
        (subst (λ g. AreAuthorised crypto g c) at_b.1 at_c.0, at_c.1 ∙ at_b.1);
    rises = omega (arith, p.rises, q.rises);
    floor = floor_joins (standing_of a) (standing_of b) (standing_of c) p.floor q.floor;
  }

  puts_stay : (k : Kind) (now : Option jiff.Timestamp) (old new : InForce) (bytes : List ℕ) → Puts crypto old bytes k now new → Stays old new
  puts_stay (Root number) now old new bytes p = subst (Stays old) (sym p.new_is) (record {
    authorised = λ k. (
      record {
        roots = record {
          begins = begins_more (given_in old) bytes old.roots k.roots.begins;
          first = k.roots.first;
          documents = k.roots.documents ++ p.doc ∷ [];
          read = zip_more (λ b d. root_document b ≡ Ok d) old.roots k.roots.documents bytes p.doc k.roots.read p.read;
          next = roots_more crypto k.roots.first k.roots.documents old.root p.doc k.roots.next k.roots.last p.next;
          last = last_more None k.roots.documents p.doc;
        };
        timestamp = tt;
        snapshot = tt;
        targets = tt;
        roles = λ name held h. cc;
      },
      first_more bytes old.roots (given_in old) k.roots.begins,
    );
    rises = omega (arith, p.next.number, length-append old.roots (bytes ∷ []));
    floor = floor_above old (with_root old bytes p.doc) p.next.number;
  })
  puts_stay Timestamp now old new bytes p = subst (Stays old) (sym p.new_is) (record {
    authorised = λ k. (record { roots = k.roots; timestamp = p.signed; snapshot = k.snapshot; targets = k.targets; roles = k.roles }, refl);
    rises = refl;
    floor = timestamp_floor old p.held p.newer;
  })
  puts_stay Snapshot now old new bytes p = subst (Stays old) (sym p.new_is) (record {
    authorised = λ k. (record { roots = k.roots; timestamp = k.timestamp; snapshot = p.signed; targets = tt; roles = λ name held h. cc }, refl);
    rises = refl;
    floor = snapshot_floor old p.held p.kept;
  })
  puts_stay Targets now old new bytes p = subst (Stays old) (sym p.new_is) (record {
    authorised = λ k. (
      record {
        roots = k.roots;
        timestamp = k.timestamp;
        snapshot = k.snapshot;
        targets = subst (λ o. IfSome o (λ (t : Held declared_targets.Targets). MeetsRole crypto (content_in old.root) (codes "targets") t.document)) (sym (top_inserted old p.held)) p.signed.met;
        roles = roles_more old (codes "targets") p.held p.pinned k.roles;
      },
      refl,
    );
    rises = refl;
    floor = floor_same old (with_targets old p.held) refl refl refl;
  })

  pub update_stays : (k : Kind) (now : Option jiff.Timestamp) (old new : InForce) (bytes : List ℕ) → update_of crypto k old bytes now ≡ Ok new → Stays old new
  update_stays k now old new bytes h = puts_stay k now old new bytes (update_puts crypto old bytes k now new h)

  pub judged_stays : (k : Kind) (now : Option jiff.Timestamp) (old new : InForce) (bytes : List ℕ) → judged_of crypto k old bytes now ≡ Ok (Some new) → Stays old new
  judged_stays k now old new bytes h = puts_stay k now old new bytes (judged_puts crypto old bytes k now new h)

  pub same : (old new : InForce) → new ≡ old → Stays old new
  same old new e = subst (Stays old) (sym e) (stays_same old)

-- as it is promised
pub is_stay : {crypto : Crypto} {old new : InForce} → Stays crypto old new → AreAuthorised crypto (given_in old) old → StaysAuthorised crypto old new
is_stay s k = let a = s.authorised k in record { given = a.1; authorised = λ k. a.0; rises = s.rises; floor = s.floor }

-- an update of a set
pub updates_set : (crypto : Crypto) (k : Kind) (now : Option jiff.Timestamp) (bytes : List ℕ) (old new : InForce) (result : Result ⊤ Error)
    → Updates (update_of crypto k old bytes now) old new result → AreAuthorised crypto (given_in old) old → UpdatesSet (update_of crypto k old bytes now) crypto old new result
updates_set crypto k now bytes old new (Ok x) u auth =
    let s = update_stays crypto k now old new bytes u in
    let at = s.authorised auth in
    record { updates = u; given = at.1; authorised = subst (λ g. AreAuthorised crypto g new) (sym at.1) at.0; floor = s.floor }
updates_set crypto k now bytes old new (Err e) u auth =
    record { updates = u; given = ap given_in u.0; authorised = subst (λ s. AreAuthorised crypto (given_in s) s) (sym u.0) auth; floor = (same crypto old new u.0).floor }
