-- A document that doesn't meet a role has the cause of its refusal.
use Rattle.std.proofs.Common.{◌≡◌, ℕ, ◌<◌, List, [], ◌∷◌, ◌++◌, filter, cond, Bool, true, false, ◌||◌, ◌==◌, nat_le, if◌then◌else◌, bytes_eq, Option, Some, None, ok_or, Result, Ok, Err, refl, sym, ap, subst, arith, ◌⊎◌, inl, inr}
use Rattle.std.specs.List.{list_any}
use Rattle.std.specs.Prelude.{⊤}
use Rattle.std.proofs.lemmas.Bool.Decides.{nat_tests}
use Rattle.std.proofs.lemmas.Slice.Eq.{bytes_eq-Decides}
use Rattle.foundation.specs.Steps.{◌>>=◌}
use Rattle.sigstore_types_parts.specs.Entries.{at_name}
use Rattle.sigstore_keys.specs.Crypto.{Crypto}
use Rattle.sigstore_tuf_parts.specs.declared.document.Signature.{Signature}
use Rattle.sigstore_tuf_text.specs.declared.error.Error.{Error}
use Rattle.sigstore_tuf_text.specs.declared.error.Error.TheVariants as tuf
use Rattle.sigstore_tuf_text.specs.declared.error.Rule.TheVariants as rule
use Rattle.sigstore_tuf_parts.specs.declared.keys.RoleKeys.{RoleKeys}
use Rattle.sigstore_tuf_parts.specs.declared.root.Root.{Root}
use Rattle.sigstore_tuf_parts.specs.Cause.{SignsTwice, SignedBy, MeetsCause, RoleCause}
use Rattle.sigstore_tuf_parts.specs.Document.{Document, signatures_in, text_in}
use Rattle.sigstore_tuf_parts.specs.RootRoles.{meets_role_of}
use Rattle.sigstore_tuf_parts.specs.Threshold.{Keys, is_among, is_counted, counted_of, ids_of, second_after, is_accepted, found_of, threshold_of, no_second, meets_of}
use Rattle.sigstore_tuf_parts.proofs.MeetsLaw.{or_true, once_from_none, distinct_filtered, all_sign, found_of_signs, found_is}
use Rattle.sigstore_tuf_parts.proofs.Steps.{same_refusal, refused_by}

-- ---- an id that signs twice

module _ (role : RoleKeys) where
  -- a signature of the id that counts stands in the list
  record HasOne (xs : List Signature) (id : List ℕ) : Type 0 where
    before : List Signature
    one : Signature
    after : List Signature
    stands : xs ≡ before ++ one ∷ after
    counts : is_counted role one ≡ true
    its : one.keyid ≡ id

  abbrev Stands : List (List ℕ) → List Signature → List ℕ → Type 0
  Stands seen xs id = ((is_among seen id ≡ true) × HasOne xs id) ⊎ SignsTwice role xs id

  one_later : (s : Signature) (xs : List Signature) (id : List ℕ) → HasOne xs id → HasOne (s ∷ xs) id
  one_later s xs id g = record { before = s ∷ g.before; one = g.one; after = g.after; stands = ap (λ l. s ∷ l) g.stands; counts = g.counts; its = g.its }

  twice_later : (s : Signature) (xs : List Signature) (id : List ℕ) → SignsTwice role xs id → SignsTwice role (s ∷ xs) id
  twice_later s xs id g =
      record {
        before = s ∷ g.before;
        first = g.first;
        between = g.between;
        second = g.second;
        after = g.after;
        stand = ap (λ l. s ∷ l) g.stand;
        first_counts = g.first_counts;
        second_counts = g.second_counts;
        first_its = g.first_its;
        second_its = g.second_its;
      }

  twice_here : (s : Signature) (xs : List Signature) (id : List ℕ) → is_counted role s ≡ true → s.keyid ≡ id → HasOne xs id → SignsTwice role (s ∷ xs) id
  twice_here s xs id c is g =
      record {
        before = [];
        first = s;
        between = g.before;
        second = g.one;
        after = g.after;
        stand = ap (λ l. s ∷ l) g.stands;
        first_counts = c;
        second_counts = g.counts;
        first_its = is;
        second_its = g.its;
      }

  stands_later : (seen : List (List ℕ)) (s : Signature) (xs : List Signature) (id : List ℕ) → Stands seen xs id → Stands seen (s ∷ xs) id
  stands_later seen s xs id (inl g) = inl (g.0, one_later s xs id g.1)
  stands_later seen s xs id (inr g) = inr (twice_later s xs id g)

  stands_new : (seen : List (List ℕ)) (s : Signature) (xs : List Signature) (id : List ℕ) → is_counted role s ≡ true → Stands (s.keyid ∷ seen) xs id → Stands seen (s ∷ xs) id
  stands_new seen s xs id c (inr g) = inr (twice_later s xs id g)
  stands_new seen s xs id c (inl g) = elim (or_true (bytes_eq s.keyid id) (is_among seen id) g.0) [
    | inl same ↦ inr (twice_here s xs id c ((bytes_eq-Decides s.keyid id).0 same) g.1)
    | inr later ↦ inl (later, one_later s xs id g.1)
  ]

  stands_counted : (seen : List (List ℕ)) (s : Signature) (xs : List Signature) (id : List ℕ) (b : Bool) → is_among seen s.keyid ≡ b → is_counted role s ≡ true
      → (second_after (s.keyid ∷ seen) (ids_of (counted_of role xs)) ≡ Some id → Stands (s.keyid ∷ seen) xs id)
      → (if b then Some s.keyid else second_after (s.keyid ∷ seen) (ids_of (counted_of role xs))) ≡ Some id → Stands seen (s ∷ xs) id
  stands_counted seen s xs id true p c later h =
      let is : s.keyid ≡ id = cc in
      inl (subst (λ i. is_among seen i ≡ true) is p, record { before = []; one = s; after = xs; stands = refl; counts = c; its = is })
  stands_counted seen s xs id false p c later h = stands_new seen s xs id c (later h)

  stands_one : (seen : List (List ℕ)) (s : Signature) (xs : List Signature) (id : List ℕ) (b : Bool) → is_counted role s ≡ b
      → ((others : List (List ℕ)) → second_after others (ids_of (counted_of role xs)) ≡ Some id → Stands others xs id)
      → second_after seen (ids_of (cond b (s ∷ counted_of role xs) (counted_of role xs))) ≡ Some id → Stands seen (s ∷ xs) id
  stands_one seen s xs id true c later h = stands_counted seen s xs id (is_among seen s.keyid) refl c (later (s.keyid ∷ seen)) h
  stands_one seen s xs id false c later h = stands_later seen s xs id (later seen h)

  stands : (xs : List Signature) (id : List ℕ) (seen : List (List ℕ)) → second_after seen (ids_of (counted_of role xs)) ≡ Some id → Stands seen xs id
  stands [] id seen h = cc
  stands (s ∷ xs) id seen h = stands_one seen s xs id (is_counted role s) refl (stands xs id) h

  signs_twice : (xs : List Signature) (id : List ℕ) → second_after [] (ids_of (counted_of role xs)) ≡ Some id → SignsTwice role xs id
  signs_twice xs id h = elim (stands xs id [] h) [
    | inl g ↦ cc
    | inr g ↦ g
  ]

-- ---- a document that doesn't meet what is asked

zero_of_test : (n : ℕ) → (n == 0) ≡ true → n ≡ 0
zero_of_test n h = grind (arith, nat_tests)

below_of_test : (m n : ℕ) → nat_le m n ≡ false → n < m
below_of_test m n h = grind (arith, nat_tests)

among_of_found : (id : List ℕ) (ids : List (List ℕ)) → list_any (bytes_eq id) ids ≡ true → is_among ids id ≡ true
among_of_found id [] h = h
among_of_found id (x ∷ ids) h = elim (or_true (bytes_eq id x) (list_any (bytes_eq id) ids) h) [
  | inl same ↦ rw ((bytes_eq-Decides x id).1 (sym ((bytes_eq-Decides id x).0 same))) refl
  | inr later ↦ by_first (bytes_eq x id) (among_of_found id ids later)
]
  where
    by_first : (b : Bool) → is_among ids id ≡ true → (b || is_among ids id) ≡ true
    by_first true h = refl
    by_first false h = h

module _ {T : Type 0} (crypto : Crypto) (keys : Keys) (role : RoleKeys) (name : List ℕ) (doc : Document T) (e : Error) where
  abbrev Cause : Error → Type 0
  Cause = MeetsCause crypto keys role name doc

  abbrev Ids : List (List ℕ)
  Ids = ids_of (counted_of role (signatures_in doc))

  abbrev Found : ℕ
  Found = found_of crypto keys role (signatures_in doc) (text_in doc)

  by_threshold : (b : Bool) → (role.threshold == 0) ≡ b → ◌≡◌ {A = Result ⊤ Error} (if b then Err (tuf.Malformed rule.Threshold) else Ok tt) (Err e) → Cause e
  by_threshold true p h = same_refusal Cause (tuf.Malformed rule.Threshold) e h (zero_of_test role.threshold p)
  by_threshold false p h = cc

  by_second : (o : Option (List ℕ)) → second_after [] Ids ≡ o → no_second name o ≡ Err e → Cause e
  by_second None p h = cc
  by_second (Some id) p h = same_refusal Cause (tuf.DuplicateSignature name id) e h (refl, signs_twice role (signatures_in doc) id p)

  none_second : (o : Option (List ℕ)) → no_second name o ≡ Ok tt → o ≡ None
  none_second None h = refl
  none_second (Some id) h = cc

  signed_by : second_after [] Ids ≡ None → SignedBy crypto keys role doc Found
  signed_by h =
      let accepted = filter (is_accepted crypto keys (text_in doc)) (counted_of role (signatures_in doc)) in
      record {
        ids = ids_of accepted;
        distinct = distinct_filtered (is_accepted crypto keys (text_in doc)) (counted_of role (signatures_in doc)) (once_from_none [] Ids h).1;
        sign = all_sign crypto keys role doc (signatures_in doc) (λ k s below at. (k, below, at));
        others = λ id g. among_of_found id (ids_of accepted) (found_of_signs crypto keys role doc id g);
        number = found_is crypto keys role doc;
      }

  by_count : second_after [] Ids ≡ None → (b : Bool) → nat_le role.threshold Found ≡ b
      → ◌≡◌ {A = Result ⊤ Error} (if b then Ok tt else Err (tuf.ThresholdNotMet name Found role.threshold)) (Err e) → Cause e
  by_count once true p h = cc
  by_count once false p h = same_refusal Cause (tuf.ThresholdNotMet name Found role.threshold) e h (refl, refl, below_of_test role.threshold Found p, signed_by once)

  pub meets_cause : meets_of crypto keys role name doc ≡ Err e → MeetsCause crypto keys role name doc e
  unfolding meets_of
  meets_cause h = elim (refused_by (threshold_of role.threshold) _ e h) [
    | inl first ↦ by_threshold (role.threshold == 0) refl first
    | inr g ↦ elim (refused_by (no_second name (second_after [] Ids)) _ e g.2) [
      | inl second ↦ by_second (second_after [] Ids) refl second
      | inr k ↦ by_count (none_second (second_after [] Ids) k.1) (nat_le role.threshold Found) refl k.2
    ]
  ]

module _ {T : Type 0} (crypto : Crypto) (root : Root) (name : List ℕ) (doc : Document T) (e : Error) where
  by_role : (o : Option RoleKeys) → at_name name root.roles ≡ o → (ok_or o (tuf.UnknownRole name) >>= λ role. meets_of crypto root.keys role name doc) ≡ Err e → RoleCause crypto root name doc e
  by_role None p h = same_refusal (RoleCause crypto root name doc) (tuf.UnknownRole name) e h (inl (refl, p))
  by_role (Some role) p h = inr (record { role = role; declared = p; cause = meets_cause crypto root.keys role name doc e h })

  pub role_cause : meets_role_of crypto root name doc ≡ Err e → RoleCause crypto root name doc e
  unfolding meets_role_of
  role_cause h = by_role (at_name name root.roles) refl h
