-- `meets_of` is Ok exactly where the relation holds.
use Rattle.std.proofs.Common.{◌≡◌, ◌↔◌, ℕ, zero, suc, ◌<◌, ◌≤◌, List, [], ◌∷◌, length, get_or, filter, Bool, true, false, cond, not, ◌||◌, ◌==◌, nat_le, if◌then◌else◌, bytes_eq, Option, Some, None, Result, Ok, Err, Contains, refl, sym, ap, ◌∙◌, subst, arith, le_trans, ◌⊎◌, inl, inr, ⊎_elim}
use Rattle.std.specs.List.{AllByRecursion, IsDistinct, list_any}
use Rattle.std.specs.Result.{result_ok}
use Rattle.std.specs.Prelude.{⊤}
use Rattle.std.specs.Cmp.Lexicographic.{nat_list_eq_equiv}
use Rattle.std.proofs.lemmas.Bool.Decides.{nat_tests}
use Rattle.std.proofs.lemmas.Slice.Eq.{bytes_eq-Decides}
use Rattle.std.proofs.lemmas.Map.Made.{length-le_from_is_member}
use Rattle.std.proofs.lemmas.List.Sums.{length-filter}
use Rattle.hex.specs.Hex.{decode_of}
use Rattle.hex.specs.declared.error.FromHexError.{FromHexError}
use Rattle.sigstore_types_parts.specs.Entries.{at_name}
use Rattle.sigstore_tuf_parts.specs.declared.document.Signature.{Signature}
use Rattle.sigstore_tuf_text.specs.declared.error.Error.{Error}
use Rattle.sigstore_tuf_text.specs.declared.error.Error.TheVariants.{Malformed, ThresholdNotMet}
use Rattle.sigstore_tuf_text.specs.declared.error.Rule.TheVariants as rule
use Rattle.sigstore_tuf_parts.specs.declared.keys.Key.{Key}
use Rattle.sigstore_tuf_parts.specs.declared.keys.RoleKeys.{RoleKeys}
use Rattle.foundation.specs.Steps.{◌>>=◌}
use Rattle.foundation.specs.Results.{and_true, not_true}
use Rattle.sigstore_keys.specs.declared.key.VerificationKey.{VerificationKey}
use Rattle.sigstore_keys.specs.Crypto.{Crypto}
use Rattle.sigstore_tuf_parts.specs.declared.verification.KeyFault.{KeyFault}
use Rattle.sigstore_tuf_parts.specs.Document.{Document, signatures_in, text_in}
use Rattle.sigstore_tuf_parts.specs.Crypto.{key_of}
use Rattle.sigstore_tuf_parts.specs.Threshold.{Keys, is_among, is_counted, counted_of, ids_of, second_after, is_accepted, is_accepted_by, is_accepted_under, is_accepted_raw, found_of, no_second, enough_of, meets_of}
use Rattle.sigstore_tuf_parts.specs.Meets.{Signs, Meets}

-- ---- ids that stand twice

or_false : (a b : Bool) → (a || b) ≡ false → (a ≡ false) × (b ≡ false)
or_false false b h = (refl, h)
or_false true b h = cc

pub or_true : (a b : Bool) → (a || b) ≡ true → (a ≡ true) ⊎ (b ≡ true)
or_true true b h = inl refl
or_true false b h = inr h

apart : (seen : List (List ℕ)) (id : List ℕ) (ids : List (List ℕ)) → AllByRecursion (λ x. is_among (id ∷ seen) x ≡ false) ids
    → AllByRecursion (λ x. is_among seen x ≡ false) ids × AllByRecursion (λ x. bytes_eq id x ≡ false) ids
apart seen id [] h = (tt, tt)
apart seen id (x ∷ ids) h =
    let here = or_false (bytes_eq id x) (is_among seen x) h.0 in
    let later = apart seen id ids h.1 in
    ((here.1, later.0), (here.0, later.1))

together : (seen : List (List ℕ)) (id : List ℕ) (ids : List (List ℕ)) → AllByRecursion (λ x. is_among seen x ≡ false) ids → AllByRecursion (λ x. bytes_eq id x ≡ false) ids
    → AllByRecursion (λ x. is_among (id ∷ seen) x ≡ false) ids
together seen id [] h k = tt
together seen id (x ∷ ids) h k = (rw (k.0, h.0), together seen id ids h.1 k.1)

abbrev pub Once : List (List ℕ) → List (List ℕ) → Type 0
Once seen ids = AllByRecursion (λ x. is_among seen x ≡ false) ids × IsDistinct bytes_eq ids

once_more : (seen : List (List ℕ)) (id : List ℕ) (ids : List (List ℕ)) (b : Bool) → is_among seen id ≡ b → (second_after (id ∷ seen) ids ≡ None → Once (id ∷ seen) ids)
    → (if b then Some id else second_after (id ∷ seen) ids) ≡ None → Once seen (id ∷ ids)
unfolding IsDistinct
once_more seen id ids true is later e = cc
once_more seen id ids false is later e =
    let rest = later e in
    let parts = apart seen id ids rest.0 in
    ((is, parts.0), (parts.1, rest.1))

pub once_from_none : (seen ids : List (List ℕ)) → second_after seen ids ≡ None → Once seen ids
unfolding IsDistinct
once_from_none seen [] e = (tt, tt)
once_from_none seen (id ∷ ids) e = once_more seen id ids (is_among seen id) refl (once_from_none (id ∷ seen) ids) e

none_from_once : (seen ids : List (List ℕ)) → AllByRecursion (λ x. is_among seen x ≡ false) ids → IsDistinct bytes_eq ids → second_after seen ids ≡ None
unfolding IsDistinct
none_from_once seen [] h d = refl
none_from_once seen (id ∷ ids) h d = rw h.0 (none_from_once (id ∷ seen) ids (together seen id ids h.1 d.0) d.1)

all_new : (ids : List (List ℕ)) → AllByRecursion (λ x. is_among [] x ≡ false) ids
all_new [] = tt
all_new (id ∷ ids) = (refl, all_new ids)

-- ---- a part of a list

all_more : (P : List ℕ → Type 0) (p : Signature → Bool) (s : Signature) (xs : List Signature) (b : Bool) → P s.keyid → AllByRecursion P (ids_of (filter p xs))
    → AllByRecursion P (ids_of (cond b (s ∷ filter p xs) (filter p xs)))
all_more P p s xs true here later = (here, later)
all_more P p s xs false here later = later

all_filtered : (P : List ℕ → Type 0) (p : Signature → Bool) (xs : List Signature) → AllByRecursion P (ids_of xs) → AllByRecursion P (ids_of (filter p xs))
all_filtered P p [] h = tt
all_filtered P p (s ∷ xs) h = all_more P p s xs (p s) h.0 (all_filtered P p xs h.1)

distinct_more : (p : Signature → Bool) (s : Signature) (xs : List Signature) (b : Bool) → AllByRecursion (λ x. bytes_eq s.keyid x ≡ false) (ids_of xs) → IsDistinct bytes_eq (ids_of (filter p xs))
    → IsDistinct bytes_eq (ids_of (cond b (s ∷ filter p xs) (filter p xs)))
unfolding IsDistinct
distinct_more p s xs true a d = (all_filtered (λ x. bytes_eq s.keyid x ≡ false) p xs a, d)
distinct_more p s xs false a d = d

pub distinct_filtered : (p : Signature → Bool) (xs : List Signature) → IsDistinct bytes_eq (ids_of xs) → IsDistinct bytes_eq (ids_of (filter p xs))
unfolding IsDistinct
distinct_filtered p [] d = tt
distinct_filtered p (s ∷ xs) d = distinct_more p s xs (p s) d.0 (distinct_filtered p xs d.1)

length-ids_of : (xs : List Signature) → length (ids_of xs) ≡ length xs
length-ids_of [] = refl
length-ids_of (s ∷ xs) = ap suc (length-ids_of xs)

-- ---- one signature

module _ {T : Type 0} (crypto : Crypto) (keys : Keys) (role : RoleKeys) (doc : Document T) where
  signs_raw : (s : Signature) → Contains (signatures_in doc) s → is_counted role s ≡ true → (key : Key) → at_name s.keyid keys ≡ Some key → (v : VerificationKey) → key_of crypto.armored crypto.key_in key ≡ Ok v
      → (r : Result (List ℕ) FromHexError) → decode_of s.sig ≡ r → is_accepted_raw crypto.accepts (text_in doc) v (result_ok r) ≡ true → Signs crypto keys role doc s.keyid
  signs_raw s there is key k v u (Err e) d h = cc
  signs_raw s there is key k v u (Ok raw) d h =
      let parts = and_true (is_among role.keyids s.keyid) (not (length s.sig == 0)) is in
      record { key = key; verifier = v; signature = s; raw = raw; named = parts.0; known = k; usable = u; there = there; its = refl; nonempty = not_true (length s.sig == 0) parts.1; hexadecimal = d; good = h }

  signs_under : (s : Signature) → Contains (signatures_in doc) s → is_counted role s ≡ true → (key : Key) → at_name s.keyid keys ≡ Some key → (v : Result VerificationKey KeyFault) → key_of crypto.armored crypto.key_in key ≡ v
      → is_accepted_under crypto.accepts (text_in doc) s.sig v ≡ true → Signs crypto keys role doc s.keyid
  signs_under s there is key k (Err fault) u h = cc
  signs_under s there is key k (Ok v) u h = signs_raw s there is key k v u (decode_of s.sig) refl h

  signs_known : (s : Signature) → Contains (signatures_in doc) s → is_counted role s ≡ true → (key : Option Key) → at_name s.keyid keys ≡ key
      → is_accepted_by crypto (text_in doc) s.sig key ≡ true → Signs crypto keys role doc s.keyid
  signs_known s there is None k h = cc
  signs_known s there is (Some key) k h = signs_under s there is key k (key_of crypto.armored crypto.key_in key) refl h

  signs_one : (s : Signature) → Contains (signatures_in doc) s → is_counted role s ≡ true → is_accepted crypto keys (text_in doc) s ≡ true → Signs crypto keys role doc s.keyid
  signs_one s there is h = signs_known s there is (at_name s.keyid keys) refl h

  abbrev pub Counts : Signature → Bool
  Counts = is_counted role

  abbrev pub Accepts : Signature → Bool
  Accepts = is_accepted crypto keys (text_in doc)

  -- ---- all of them

  abbrev pub AllSign : List Signature → Type 0
  AllSign xs = AllByRecursion (Signs crypto keys role doc) (ids_of xs)

  sign_accepted : (s : Signature) (xs : List Signature) (b : Bool) → Contains (signatures_in doc) s → is_counted role s ≡ true → Accepts s ≡ b → AllSign (filter Accepts xs)
      → AllSign (cond b (s ∷ filter Accepts xs) (filter Accepts xs))
  sign_accepted s xs true there is h later = (signs_one s there is h, later)
  sign_accepted s xs false there is h later = later

  sign_counted : (s : Signature) (xs : List Signature) (b : Bool) → Contains (signatures_in doc) s → Counts s ≡ b → AllSign (filter Accepts (filter Counts xs))
      → AllSign (filter Accepts (cond b (s ∷ filter Counts xs) (filter Counts xs)))
  sign_counted s xs true there is later = sign_accepted s (filter Counts xs) (Accepts s) there is refl later
  sign_counted s xs false there is later = later

  pub all_sign : (xs : List Signature) → ((k : ℕ) (s : Signature) → k < length xs → get_or xs k s ≡ s → Contains (signatures_in doc) s) → AllSign (filter Accepts (filter Counts xs))
  all_sign [] there = tt
  all_sign (s ∷ xs) there = sign_counted s xs (Counts s) (there 0 s (omega arith) refl) refl (all_sign xs (λ k t h e. there (suc k) t (omega arith) e))

  -- ---- each that signs was found

  abbrev pub IsFound : List Signature → List ℕ → Type 0
  IsFound xs id = list_any (bytes_eq id) (ids_of (filter Accepts (filter Counts xs))) ≡ true

  any_later : (test : List ℕ → Bool) (x : List ℕ) (xs : List (List ℕ)) → list_any test xs ≡ true → (test x || list_any test xs) ≡ true
  any_later test x xs h = go (test x)
    where
      go : (b : Bool) → (b || list_any test xs) ≡ true
      go true = refl
      go false = h

  found_accepted : (s : Signature) (xs : List Signature) (id : List ℕ) (b : Bool) → list_any (bytes_eq id) (ids_of (filter Accepts xs)) ≡ true
      → list_any (bytes_eq id) (ids_of (cond b (s ∷ filter Accepts xs) (filter Accepts xs))) ≡ true
  found_accepted s xs id true h = any_later (bytes_eq id) s.keyid (ids_of (filter Accepts xs)) h
  found_accepted s xs id false h = h

  found_later : (s : Signature) (xs : List Signature) (id : List ℕ) (b : Bool) → IsFound xs id → list_any (bytes_eq id) (ids_of (filter Accepts (cond b (s ∷ filter Counts xs) (filter Counts xs)))) ≡ true
  found_later s xs id true h = found_accepted s (filter Counts xs) id (Accepts s) h
  found_later s xs id false h = h

  found_here : (s : Signature) (xs : List Signature) → Counts s ≡ true → Accepts s ≡ true → IsFound (s ∷ xs) s.keyid
  found_here s xs c a = rw (c, a, nat_list_eq_equiv.refl s.keyid)

  found_at : (xs : List Signature) (k : ℕ) (s : Signature) → k < length xs → get_or xs k s ≡ s → Counts s ≡ true → Accepts s ≡ true → IsFound xs s.keyid
  found_at [] k s h e c a = absurd (omega arith)
  found_at (t ∷ xs) zero s h e c a = subst (λ u. IsFound (u ∷ xs) s.keyid) (sym e) (found_here s xs c a)
  found_at (t ∷ xs) (suc k) s h e c a = found_later t xs s.keyid (Counts t) (found_at xs k s (omega arith) e c a)

  -- an id that signs has a signature that counts and is accepted
  counts_of : (id : List ℕ) (g : Signs crypto keys role doc id) → Counts g.signature ≡ true
  counts_of id g = rw (g.its, g.named, g.nonempty)

  accepts_of : (id : List ℕ) (g : Signs crypto keys role doc id) → Accepts g.signature ≡ true
  accepts_of id g = rw (g.its, g.known, g.usable, g.hexadecimal) g.good

  pub found_of_signs : (id : List ℕ) → Signs crypto keys role doc id → IsFound (signatures_in doc) id
  found_of_signs id g =
      subst (λ i. IsFound (signatures_in doc) i) g.its (found_at (signatures_in doc) g.there.0 g.signature g.there.1 g.there.2 (counts_of id g) (accepts_of id g))

  found_of_same : (id q : List ℕ) (b : Bool) → bytes_eq q id ≡ b → (b || false) ≡ (b || false) → Signs crypto keys role doc id → b ≡ true → IsFound (signatures_in doc) q
  found_of_same id q b e t g is = subst (λ i. IsFound (signatures_in doc) i) (sym ((bytes_eq-Decides q id).0 (e ∙ is))) (found_of_signs id g)

  found_among : (ids : List (List ℕ)) → AllByRecursion (Signs crypto keys role doc) ids → (q : List ℕ) → list_any (bytes_eq q) ids ≡ true → IsFound (signatures_in doc) q
  found_among [] g q h = cc
  found_among (id ∷ ids) g q h = ⊎_elim (λ same. found_of_same id q (bytes_eq q id) refl refl g.0 same) (λ later. found_among ids g.1 q later) (or_true (bytes_eq q id) (list_any (bytes_eq q) ids) h)

  -- ---- counting

  pub found_is : length (ids_of (filter Accepts (filter Counts (signatures_in doc)))) ≡ found_of crypto keys role (signatures_in doc) (text_in doc)
  found_is = length-ids_of (filter Accepts (filter Counts (signatures_in doc))) ∙ length-filter Accepts (filter Counts (signatures_in doc))

  found_least : (ids : List (List ℕ)) → IsDistinct bytes_eq ids → AllByRecursion (Signs crypto keys role doc) ids → length ids ≤ found_of crypto keys role (signatures_in doc) (text_in doc)
  found_least ids d g =
      subst (λ n. length ids ≤ n) found_is (length-le_from_is_member nat_list_eq_equiv ids (ids_of (filter Accepts (filter Counts (signatures_in doc)))) d (found_among ids g))

-- ---- the law

le_of_test : (m n : ℕ) → nat_le m n ≡ true → m ≤ n
le_of_test m n h = grind (arith, nat_tests)

test_of_le : (m n : ℕ) → m ≤ n → nat_le m n ≡ true
test_of_le m n h = grind (arith, nat_tests)

at_least_one : (n : ℕ) → (n == 0) ≡ false → 1 ≤ n
at_least_one n h = grind (arith, nat_tests)

module _ {T : Type 0} (crypto : Crypto) (keys : Keys) (role : RoleKeys) (name : List ℕ) (doc : Document T) where
  abbrev Ids : List (List ℕ)
  Ids = ids_of (counted_of role (signatures_in doc))

  abbrev Found : ℕ
  Found = found_of crypto keys role (signatures_in doc) (text_in doc)

  enough_ok : (b : Bool) → nat_le role.threshold Found ≡ b → ◌≡◌ {A = Result ⊤ Error} (if b then Ok tt else Err (ThresholdNotMet name Found role.threshold)) (Ok tt) → role.threshold ≤ Found
  enough_ok true e h = le_of_test role.threshold Found e
  enough_ok false e h = cc

  meets_from_parts : 1 ≤ role.threshold → second_after [] Ids ≡ None → role.threshold ≤ Found → Meets crypto keys role doc
  meets_from_parts t s e =
      let once = (once_from_none [] Ids s).1 in
      record {
        threshold = t;
        once = once;
        ids = ids_of (filter (is_accepted crypto keys (text_in doc)) (counted_of role (signatures_in doc)));
        distinct = distinct_filtered (is_accepted crypto keys (text_in doc)) (counted_of role (signatures_in doc)) once;
        sign = all_sign crypto keys role doc (signatures_in doc) (λ k s h i. (k, h, i));
        enough = subst (λ n. role.threshold ≤ n) (sym (found_is crypto keys role doc)) e;
      }

  after_second : (o : Option (List ℕ)) → second_after [] Ids ≡ o → 1 ≤ role.threshold → (no_second name o >>= λ _. enough_of name Found role.threshold) ≡ Ok tt → Meets crypto keys role doc
  after_second (Some id) s t h = cc
  after_second None s t h = meets_from_parts t s (enough_ok (nat_le role.threshold Found) refl h)

  after_threshold : (b : Bool) → (role.threshold == 0) ≡ b → (◌>>=◌ {A = ⊤} (if b then Err (Malformed rule.Threshold) else Ok (tt {0})) (λ _. no_second name (second_after [] Ids) >>= λ _. enough_of name Found role.threshold)) ≡ Ok tt → Meets crypto keys role doc
  after_threshold true e h = cc
  after_threshold false e h = after_second (second_after [] Ids) refl (at_least_one role.threshold e) h

  meets_from_ok : meets_of crypto keys role name doc ≡ Ok tt → Meets crypto keys role doc
  unfolding meets_of
  meets_from_ok h = after_threshold (role.threshold == 0) refl h

  not_zero : (n : ℕ) → 1 ≤ n → (n == 0) ≡ false
  not_zero n h = grind (arith, nat_tests)

  ok_from_meets : Meets crypto keys role doc → meets_of crypto keys role name doc ≡ Ok tt
  unfolding meets_of
  ok_from_meets m =
      let least = found_least crypto keys role doc m.ids m.distinct m.sign in
      let fits : role.threshold ≤ Found = le_trans m.enough least in
      rw (not_zero role.threshold m.threshold, none_from_once [] Ids (all_new Ids) m.once, test_of_le role.threshold Found fits)

  pub meets_exactly : (meets_of crypto keys role name doc ≡ Ok tt) ↔ Meets crypto keys role doc
  meets_exactly = (meets_from_ok, ok_from_meets)
