-- The count of witnesses that cosigned reaches a number exactly where as many different keys have a good cosignature.
use Rattle.std.proofs.Common.{◌≡◌, ℕ, zero, suc, ◌≤◌, List, [], ◌∷◌, length, drop, Bool, true, false, ◌||◌, ◌==◌, if◌then◌else◌, bytes_eq, Option, Some, None, Contains, refl, sym, ap, subst, arith, le_trans, ◌⊎◌, inl, inr}
use Rattle.std.specs.Prelude.{filter_map}
use Rattle.std.specs.List.{AllByRecursion, list_any, cons_option}
use Rattle.std.specs.Cmp.Lexicographic.{nat_list_eq_equiv}
use Rattle.std.proofs.lemmas.Bool.Decides.{nat_tests}
use Rattle.std.proofs.lemmas.List.Folds.{Any-from_list_any, list_any-from_Any}
use Rattle.std.proofs.lemmas.Map.Made.{length-le_from_is_member}
use Rattle.std.proofs.lemmas.Slice.Eq.{bytes_eq-Decides}
use Rattle.foundation.specs.Results.{and_true}
use Rattle.sigstore_keys.specs.Distinct.{each_once}
use Rattle.sigstore_keys.specs.Good.{Judge}
use Rattle.sigstore_keys.specs.declared.scheme.SigningScheme.TheVariants.{Ed25519}
use Rattle.sigstore_entries.specs.Checkpoint.{signed_data_of}
use Rattle.sigstore_entries.specs.declared.checkpoint.Checkpoint.{Checkpoint}
use Rattle.sigstore_entries.specs.declared.signature_line.CheckpointSignature.{CheckpointSignature}
use Rattle.sigstore_log.specs.Signed.{looked_at}
use Rattle.log_witnesses.specs.Witness.{key_id_of}
use Rattle.log_witnesses.specs.Cosigned.{moment_of, cosigned_text, is_good_by, is_named, is_cosignature, has_cosigned, cosigner, cosigned_by}
use Rattle.log_witnesses.specs.IsCosigned.{Cosigns, IsCosigned, CosignedExactly}
use Rattle.log_witnesses.specs.declared.witness.Witness.{Witness}
use Rattle.log_witnesses.proofs.Once.{kept, distinct, distinct_none, Has, lost_none}

-- ---- members of a list

first : {A : Type 0} (x : A) (xs : List A) → Contains (x ∷ xs) x
first x xs = (0, omega arith, refl)

later : {A : Type 0} (x : A) (xs : List A) (y : A) → Contains xs y → Contains (x ∷ xs) y
later x xs y c = (suc c.0, omega (arith, c.1), c.2)

among_from_any : {X : Type 0} (p : X → Bool) (xs : List X) → list_any p xs ≡ true → (x : X) × Contains xs x × (p x ≡ true)
among_from_any p xs h = let a = Any-from_list_any p xs h in (a.1, (a.0, a.2, a.3), a.4)

any_from_among : {X : Type 0} (p : X → Bool) (xs : List X) (x : X) → Contains xs x → p x ≡ true → list_any p xs ≡ true
any_from_among p xs x there h = list_any-from_Any p xs (there.0, x, there.1, there.2, h)

same_number : (m n : ℕ) → (m == n) ≡ true → m ≡ n
same_number m n h = grind (arith, nat_tests)

test_of_same : (m n : ℕ) → m ≡ n → (m == n) ≡ true
test_of_same m n h = grind (arith, nat_tests)

or_true : (a b : Bool) → (a || b) ≡ true → (a ≡ true) ⊎ (b ≡ true)
or_true true b h = inl refl
or_true false b h = inr h

or_right : (a b : Bool) → b ≡ true → (a || b) ≡ true
or_right true b h = refl
or_right false b h = h

module _ (accepts : Judge) (all : List Witness) (checkpoint : Checkpoint) where
  abbrev Text : List ℕ
  Text = signed_data_of checkpoint

  abbrev Cosigner : Witness → Option (List ℕ)
  Cosigner = cosigner accepts checkpoint

  -- ---- one witness

  cosigns_by : (witness : Witness) → Contains all witness → (line : CheckpointSignature) → Contains (looked_at checkpoint.signatures) line
      → is_cosignature accepts Text witness line ≡ true → Cosigns accepts all checkpoint witness.key
  cosigns_by witness trusted line there h =
      let both = and_true (is_named witness line) (is_good_by accepts witness Text line.signature) h in
      let named = and_true (bytes_eq line.name witness.name) (bytes_eq line.key_id (key_id_of witness)) both.0 in
      let good = and_true (length line.signature == 72) (accepts Ed25519 witness.key (cosigned_text (moment_of line.signature) Text) (drop 8 line.signature)) both.1 in
      record {
        witness = witness;
        trusted = trusted;
        its = refl;
        line = line;
        there = there;
        name = (bytes_eq-Decides line.name witness.name).0 named.0;
        key_id = (bytes_eq-Decides line.key_id (key_id_of witness)).0 named.1;
        size = same_number (length line.signature) 72 good.0;
        good = good.1;
      }

  cosigns_one : (witness : Witness) → Contains all witness → has_cosigned accepts checkpoint witness ≡ true → Cosigns accepts all checkpoint witness.key
  cosigns_one witness trusted h =
      let one = among_from_any (is_cosignature accepts Text witness) (looked_at checkpoint.signatures) h in
      cosigns_by witness trusted one.0 one.1 one.2

  is_its : (key : List ℕ) (c : Cosigns accepts all checkpoint key) → is_cosignature accepts Text c.witness c.line ≡ true
  is_its key c =
      let good : accepts Ed25519 c.witness.key (cosigned_text (moment_of c.line.signature) Text) (drop 8 c.line.signature) ≡ true
      = subst (λ k. accepts Ed25519 k (cosigned_text (moment_of c.line.signature) Text) (drop 8 c.line.signature) ≡ true) (sym c.its) c.good in
      rw ((bytes_eq-Decides c.line.name c.witness.name).1 c.name, (bytes_eq-Decides c.line.key_id (key_id_of c.witness)).1 c.key_id, test_of_same (length c.line.signature) 72 c.size) good

  has_its : (key : List ℕ) (c : Cosigns accepts all checkpoint key) → has_cosigned accepts checkpoint c.witness ≡ true
  has_its key c = any_from_among (is_cosignature accepts Text c.witness) (looked_at checkpoint.signatures) c.line c.there (is_its key c)

  -- ---- all of them

  cosign_more : (witness : Witness) (keys : List (List ℕ)) (b : Bool) → Contains all witness → has_cosigned accepts checkpoint witness ≡ b
      → AllByRecursion (Cosigns accepts all checkpoint) keys → AllByRecursion (Cosigns accepts all checkpoint) (cons_option (if b then Some witness.key else None) keys)
  cosign_more witness keys true trusted is rest = (cosigns_one witness trusted is, rest)
  cosign_more witness keys false trusted is rest = rest

  all_cosign : (witnesses : List Witness) → ((w : Witness) → Contains witnesses w → Contains all w) → AllByRecursion (Cosigns accepts all checkpoint) (filter_map Cosigner witnesses)
  all_cosign [] there = tt
  all_cosign (witness ∷ witnesses) there =
      cosign_more witness (filter_map Cosigner witnesses) (has_cosigned accepts checkpoint witness) (there witness (first witness witnesses)) refl
      (all_cosign witnesses (λ w c. there w (later witness witnesses w c)))

  -- ---- each key that cosigned was found

  found_more : (key : List ℕ) (o : Option (List ℕ)) (keys : List (List ℕ)) → Has key keys → Has key (cons_option o keys)
  found_more key None keys has = has
  found_more key (Some other) keys has = or_right (bytes_eq key other) (list_any (λ x. bytes_eq key x) keys) has

  found_here : (witness : Witness) (keys : List (List ℕ)) (b : Bool) → b ≡ true → Has witness.key (cons_option (if b then Some witness.key else None) keys)
  found_here witness keys true is = ap (λ b. b || list_any (λ x. bytes_eq witness.key x) keys) (nat_list_eq_equiv.refl witness.key)
  found_here witness keys false is = cc

  found_at : (witnesses : List Witness) (w : Witness) → Contains witnesses w → has_cosigned accepts checkpoint w ≡ true → Has w.key (filter_map Cosigner witnesses)
  found_at [] w (k, l, e) h = absurd (omega (arith, l))
  found_at (x ∷ witnesses) w (zero, l, e) h =
      let its : has_cosigned accepts checkpoint x ≡ true = subst (λ v. has_cosigned accepts checkpoint v ≡ true) (sym e) h in
      subst (λ (v : Witness). Has v.key (filter_map Cosigner (x ∷ witnesses))) e (found_here x (filter_map Cosigner witnesses) (has_cosigned accepts checkpoint x) its)
  found_at (x ∷ witnesses) w (suc k, l, e) h =
      found_more w.key (Cosigner x) (filter_map Cosigner witnesses) (found_at witnesses w (k, omega (arith, l), e) h)

  abbrev Found : List (List ℕ)
  Found = filter_map Cosigner all

  found_key : (key : List ℕ) → Cosigns accepts all checkpoint key → Has key Found
  found_key key c = subst (λ k. Has k Found) c.its (found_at all c.witness c.trusted (has_its key c))

  found_first : (key q : List ℕ) (keys : List (List ℕ)) → Cosigns accepts all checkpoint key → (list_any (bytes_eq q) keys ≡ true → Has q Found)
      → (bytes_eq q key ≡ true) ⊎ (list_any (bytes_eq q) keys ≡ true) → Has q Found
  found_first key q keys c rest (inl same) = subst (λ k. Has k Found) (sym ((bytes_eq-Decides q key).0 same)) (found_key key c)
  found_first key q keys c rest (inr later) = rest later

  found_among : (keys : List (List ℕ)) → AllByRecursion (Cosigns accepts all checkpoint) keys → (q : List ℕ) → list_any (bytes_eq q) keys ≡ true → Has q Found
  found_among [] g q h = cc
  found_among (key ∷ keys) g q h = found_first key q keys g.0 (λ rest. found_among keys g.1 q rest) (or_true (bytes_eq q key) (list_any (bytes_eq q) keys) h)

  -- ---- the law

  from_count : (asked : ℕ) → asked ≤ cosigned_by accepts all checkpoint → IsCosigned accepts asked all checkpoint
  from_count asked enough = record {
    keys = each_once [] Found;
    distinct = distinct [] Found distinct_none;
    cosign = kept (Cosigns accepts all checkpoint) [] Found tt (all_cosign all (λ w c. c));
    enough = enough;
  }

  to_count : (asked : ℕ) → IsCosigned accepts asked all checkpoint → asked ≤ cosigned_by accepts all checkpoint
  to_count asked is =
      let most : length is.keys ≤ cosigned_by accepts all checkpoint
      = length-le_from_is_member nat_list_eq_equiv is.keys (each_once [] Found) is.distinct (λ q h. lost_none q [] Found (inr (found_among is.keys is.cosign q h))) in
      le_trans is.enough most

pub cosigned_exactly : CosignedExactly
cosigned_exactly accepts asked witnesses checkpoint = (from_count accepts witnesses checkpoint asked, to_count accepts witnesses checkpoint asked)
