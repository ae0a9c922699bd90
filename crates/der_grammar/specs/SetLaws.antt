-- Proofs: the laws of sets.
use Rattle.std.proofs.Common.{◌≡◌, ℕ, ◌+◌, Bool, true, false, cond, List, [], ◌∷◌}
use Rattle.std.proofs.Common.{◌++◌, length, Ok, Err, refl, sym, ap, subst, ◌∙◌, arith}
use Rattle.std.specs.Prelude.{◌&&◌}
use Rattle.std.specs.declared.cmp.Ordering.{Ordering}
use Rattle.std.specs.declared.cmp.Ordering.TheVariants.{Less, Equal, Greater}
use Rattle.std.specs.Ordering.{nat_cmp, is_lt}
use Rattle.std.proofs.lemmas.Cmp.{nat_list_cmp_total}
use Rattle.std.specs.Cmp.Lexicographic.{slice_cmp}
use Rattle.std.proofs.lemmas.Bool.{eqb-true}
use Rattle.std.proofs.lemmas.List.{length-append}
use Rattle.std.specs.List.Sorted.{IsPermutation}
use Rattle.std.proofs.lemmas.List.Sorted.{IsPermutation-refl, IsPermutation-trans, IsPermutation-cons}
use Rattle.std.proofs.lemmas.List.Sorted.{IsPermutation-insert, IsPermutation-map}
use Rattle.foundation.specs.Steps.{◌>>=◌}
use Rattle.foundation.specs.Results.{and_true}
use Rattle.der_grammar.specs.declared.error.DerError.TheVariants.{SetDuplicate, Value}
use Rattle.der_grammar.specs.Outcome.{Outcome}
use Rattle.der_grammar.specs.Tlv.{IsTag}
use Rattle.der_grammar.specs.Grammar.{Grammar, write}
use Rattle.der_grammar.specs.Law.{WritesAs, IsLawful}
use Rattle.der_grammar.specs.TlvLaws.{ok_is, bind_ok, passed}
use Rattle.der_grammar.specs.Many.{EachEncoded, many_of, write_each}
use Rattle.der_grammar.specs.ManyLaws.{many-found, many-only, each-written, each-writes}
use Rattle.der_grammar.specs.Sets.{Keyed, is_before, keyed, place, ordered, rises, values, distinct, set_from, rise}
use Rattle.der_grammar.specs.Sets.{is_set, IsSetOf, set_of}

-- ---- encodings and members

pub keyed-cons : {A : Type 0} (g : Grammar A) (x : A) (xs : List A) (key : List ℕ) (ks : List (Keyed A))
    → write g x ≡ Ok key → keyed g xs ≡ Ok ks → keyed g (x ∷ xs) ≡ Ok ((key, x) ∷ ks)
unfolding keyed
keyed-cons g x xs key ks p q = rw p (rw q refl)

-- each encoding is that of its member
abbrev pub AreKeyed : {A : Type 0} → Grammar A → List (Keyed A) → Type 0
AreKeyed g [] = Unit {0}
AreKeyed g (k ∷ ks) = (write g k.1 ≡ Ok k.0) × AreKeyed g ks

pub are_keyed : {A : Type 0} (g : Grammar A) (xs : List A) (ks : List (Keyed A)) → keyed g xs ≡ Ok ks → AreKeyed g ks
unfolding keyed
are_keyed g [] ks e = subst (λ z. AreKeyed g z) (ok_is [] ks e) tt
are_keyed g (x ∷ xs) ks e =
    let m = bind_ok (write g x) (λ key. keyed g xs >>= λ ks. Ok ((key, x) ∷ ks)) ks e in
    let n = bind_ok (keyed g xs) (λ ks. Ok ((m.0, x) ∷ ks)) ks m.2 in
    subst (λ z. AreKeyed g z) (ok_is ((m.0, x) ∷ n.0) ks n.2) (m.1, are_keyed g xs n.0 n.1)

pub keyed-values : {A : Type 0} (g : Grammar A) (xs : List A) (ks : List (Keyed A)) → keyed g xs ≡ Ok ks → values ks ≡ xs
unfolding keyed
keyed-values g [] ks e = subst (λ z. values z ≡ []) (ok_is [] ks e) refl
keyed-values {A} g (x ∷ xs) ks e =
    let m = bind_ok (write g x) (λ key. keyed g xs >>= λ ks. Ok ((key, x) ∷ ks)) ks e in
    let n = bind_ok (keyed g xs) (λ ks. Ok ((m.0, x) ∷ ks)) ks m.2 in
    let later = keyed-values g xs n.0 n.1 in
    subst (λ (z : List (Keyed A)). values z ≡ x ∷ xs) (ok_is ((m.0, x) ∷ n.0) ks n.2) (ap (λ (z : List A). x ∷ z) later)

pub keyed-again : {A : Type 0} (g : Grammar A) (ks : List (Keyed A)) → AreKeyed g ks → keyed g (values ks) ≡ Ok ks
unfolding keyed
keyed-again g [] h = refl
keyed-again g (k ∷ ks) h = keyed-cons g k.1 (values ks) k.0 ks h.0 (keyed-again g ks h.1)

choice-keyed : {A : Type 0} (g : Grammar A) (b : Bool) (xs ys : List (Keyed A)) → AreKeyed g xs → AreKeyed g ys → AreKeyed g (cond b xs ys)
choice-keyed g true xs ys h k = h
choice-keyed g false xs ys h k = k

place-keyed : {A : Type 0} (g : Grammar A) (x : Keyed A) (ys : List (Keyed A)) → write g x.1 ≡ Ok x.0 → AreKeyed g ys
    → AreKeyed g (place x ys)
place-keyed g x [] h k = (h, tt)
place-keyed g x (y ∷ ys) h k = choice-keyed g (is_before y x) (y ∷ place x ys) (x ∷ y ∷ ys) (k.0, place-keyed g x ys h k.1) (h, k)

pub ordered-keyed : {A : Type 0} (g : Grammar A) (ks : List (Keyed A)) → AreKeyed g ks → AreKeyed g (ordered ks)
ordered-keyed g [] h = tt
ordered-keyed g (k ∷ ks) h = place-keyed g k (ordered ks) h.0 (ordered-keyed g ks h.1)

-- ---- a list that rises is in order

less_from_test : (o : Ordering) → is_lt o ≡ true → o ≡ Less
less_from_test Less e = refl
less_from_test Equal e = absurd cc
less_from_test Greater e = absurd cc

pub not_both_before : {A : Type 0} (x y : Keyed A) → is_before x y ≡ true → is_before y x ≡ false
not_both_before x y e =
    let less : slice_cmp nat_cmp x.0 y.0 ≡ Less = less_from_test (slice_cmp nat_cmp x.0 y.0) e in
    let greater : slice_cmp nat_cmp y.0 x.0 ≡ Greater = nat_list_cmp_total.antisymm y.0 x.0 ∙ rw less refl in
    ap is_lt greater

rises-rest : {A : Type 0} (x : Keyed A) (xs : List (Keyed A)) → rises (x ∷ xs) ≡ true → rises xs ≡ true
rises-rest x [] e = refl
rises-rest x (y ∷ ys) e = (and_true (is_before x y) (rises (y ∷ ys)) e).1

place-first : {A : Type 0} (x : Keyed A) (ys : List (Keyed A)) → rises (x ∷ ys) ≡ true → place x ys ≡ x ∷ ys
place-first x [] e = refl
place-first x (y ∷ ys) e = let no = not_both_before x y (and_true (is_before x y) (rises (y ∷ ys)) e).0 in rw no refl

pub ordered-same : {A : Type 0} (ks : List (Keyed A)) → rises ks ≡ true → ordered ks ≡ ks
ordered-same [] e = refl
ordered-same (x ∷ xs) e = ap (place x) (ordered-same xs (rises-rest x xs e)) ∙ place-first x xs e

-- what stands behind the test of a set
pub record IsRising {A : Type 0} (g : Grammar A) (xs : List A) : Type 0 where
  pub keys : List (Keyed A)
  pub are : keyed g xs ≡ Ok keys
  pub rise_so : rises keys ≡ true

rising : {A : Type 0} (g : Grammar A) (xs : List A) (r : Outcome (List (Keyed A))) → keyed g xs ≡ r → rise r ≡ true → IsRising g xs
rising g xs (Ok ks) is e = record { keys = ks; are = is; rise_so = e }
rising g xs (Err d) is e = absurd cc

pub set_is_rising : {A : Type 0} (g : Grammar A) (xs : List A) → is_set g xs ≡ true → IsRising g xs
unfolding is_set
set_is_rising g xs e = rising g xs (keyed g xs) refl e

pub rising_is_set : {A : Type 0} (g : Grammar A) (xs : List A) (ks : List (Keyed A)) → keyed g xs ≡ Ok ks
    → rises ks ≡ true → is_set g xs ≡ true
unfolding is_set
rising_is_set g xs ks e r = rw e r

-- a set is the set of its members
pub set_from-same : {A : Type 0} (g : Grammar A) (xs : List A) → is_set g xs ≡ true → set_from g xs ≡ Ok xs
unfolding set_from
set_from-same {A} g xs e =
    let h = set_is_rising g xs e in
    let are = h.are in
    let same = ordered-same h.keys h.rise_so in
    let up = h.rise_so in
    rw (are, same, up) (ap (λ (z : List A). Ok z) (keyed-values g xs h.keys are))

-- the set of members is a set
pub set_from-is_set : {A : Type 0} (g : Grammar A) (members a : List A) → set_from g members ≡ Ok a → is_set g a ≡ true
unfolding set_from
set_from-is_set {A} g members a e =
    let m = bind_ok (keyed g members) (λ ks. distinct (ordered ks)) a e in
    let p = passed (rises (ordered m.0)) SetDuplicate (Ok (values (ordered m.0))) a m.2 in
    let k = keyed-again g (ordered m.0) (ordered-keyed g m.0 (are_keyed g members m.0 m.1)) in
    subst (λ (z : List A). is_set g z ≡ true) (ok_is (values (ordered m.0)) a p.1)
    (rising_is_set g (values (ordered m.0)) (ordered m.0) k p.0)

-- ---- lengths

abbrev pub texts : {A : Type 0} → List (Keyed A) → List ℕ
texts [] = []
texts (k ∷ ks) = k.0 ++ texts ks

write_each-cons : {A : Type 0} (g : Grammar A) (y : A) (ys : List A) (a b : List ℕ) → write g y ≡ Ok a
    → write_each g ys ≡ Ok b → write_each g (y ∷ ys) ≡ Ok (a ++ b)
unfolding write_each
write_each-cons g y ys a b p q = rw p (rw q refl)

pub write_each-values : {A : Type 0} (g : Grammar A) (ks : List (Keyed A)) → AreKeyed g ks → write_each g (values ks) ≡ Ok (texts ks)
unfolding write_each
write_each-values g [] h = refl
write_each-values g (k ∷ ks) h = write_each-cons g k.1 (values ks) k.0 (texts ks) h.0 (write_each-values g ks h.1)

choice-length : {A : Type 0} (b : Bool) (xs ys : List (Keyed A)) (n : ℕ) → length (texts xs) ≡ n → length (texts ys) ≡ n
    → length (texts (cond b xs ys)) ≡ n
choice-length true xs ys n h k = h
choice-length false xs ys n h k = k

place-length : {A : Type 0} (x : Keyed A) (ys : List (Keyed A)) → length (texts (place x ys)) ≡ length x.0 + length (texts ys)
place-length x [] = length-append x.0 []
place-length x (y ∷ ys) =
    choice-length (is_before y x) (y ∷ place x ys) (x ∷ y ∷ ys) (length x.0 + length (y.0 ++ texts ys))
    (omega (arith, length-append y.0 (texts (place x ys)), length-append y.0 (texts ys), place-length x ys))
    (length-append x.0 (y.0 ++ texts ys))

ordered-length : {A : Type 0} (ks : List (Keyed A)) → length (texts (ordered ks)) ≡ length (texts ks)
ordered-length [] = refl
ordered-length (k ∷ ks) = omega (arith, place-length k (ordered ks), ordered-length ks, length-append k.0 (texts ks))

pub set_from-length : {A : Type 0} (g : Grammar A) (members a : List A) (text : List ℕ) → set_from g members ≡ Ok a
    → write_each g members ≡ Ok text → WritesAs (write_each g a) text
unfolding set_from
set_from-length {A} g members a text e w =
    let m = bind_ok (keyed g members) (λ ks. distinct (ordered ks)) a e in
    let p = passed (rises (ordered m.0)) SetDuplicate (Ok (values (ordered m.0))) a m.2 in
    let k = are_keyed g members m.0 m.1 in
    let before : Path (Outcome (List ℕ)) (Ok (texts m.0)) (Ok text) =
    sym (write_each-values g m.0 k) ∙ ap (write_each g) (keyed-values g members m.0 m.1) ∙ w in
    let after = write_each-values g (ordered m.0) (ordered-keyed g m.0 k) in
    subst (λ (z : List A). WritesAs (write_each g z) text) (ok_is (values (ordered m.0)) a p.1)
    (texts (ordered m.0), after, ordered-length m.0 ∙ ap length (ok_is (texts m.0) text before))

-- ---- a set has the members that were put in

placed-permutes : {A : Type 0} (x y : Keyed A) (ys others : List (Keyed A)) (b : Bool) → IsPermutation (x ∷ ys) others
    → IsPermutation (x ∷ y ∷ ys) (cond b (y ∷ others) (x ∷ y ∷ ys))
placed-permutes x y ys others true h =
    IsPermutation-trans (x ∷ y ∷ ys) (y ∷ x ∷ ys) (y ∷ others) (IsPermutation-insert (y ∷ ys) 1 x) (IsPermutation-cons y (x ∷ ys) others h)
placed-permutes x y ys others false h = IsPermutation-refl (x ∷ y ∷ ys)

place-permutes : {A : Type 0} (x : Keyed A) (ys : List (Keyed A)) → IsPermutation (x ∷ ys) (place x ys)
place-permutes x [] = IsPermutation-refl (x ∷ [])
place-permutes x (y ∷ ys) = placed-permutes x y ys (place x ys) (is_before y x) (place-permutes x ys)

ordered-permutes : {A : Type 0} (ks : List (Keyed A)) → IsPermutation ks (ordered ks)
ordered-permutes [] = IsPermutation-refl []
ordered-permutes (x ∷ xs) =
    IsPermutation-trans (x ∷ xs) (x ∷ ordered xs) (place x (ordered xs))
    (IsPermutation-cons x xs (ordered xs) (ordered-permutes xs)) (place-permutes x (ordered xs))

set_from-permutes : {A : Type 0} (g : Grammar A) (members a : List A) → set_from g members ≡ Ok a → IsPermutation members a
unfolding set_from
set_from-permutes {A} g members a e =
    let m = bind_ok (keyed g members) (λ ks. distinct (ordered ks)) a e in
    let p = passed (rises (ordered m.0)) SetDuplicate (Ok (values (ordered m.0))) a m.2 in
    subst (λ (z : List A). IsPermutation z a) (keyed-values g members m.0 m.1)
    (subst (λ (z : List A). IsPermutation (values m.0) z) (ok_is (values (ordered m.0)) a p.1)
    (IsPermutation-map (λ k. k.1) m.0 (ordered m.0) (ordered-permutes m.0)))

pub set_from-members : {A : Type 0} (g : Grammar A) (members a : List A) → set_from g members ≡ Ok a → IsSetOf g members a
set_from-members g members a e =
    let h = set_is_rising g a (set_from-is_set g members a e) in
    record { same = set_from-permutes g members a e; keys = h.keys; are = h.are; rise_so = h.rise_so }

-- ---- the laws

set-written : {A : Type 0} (g : Grammar A) (lawful : IsLawful g) (a : List A) (c : List ℕ)
    → cond (is_set g a) (write_each g a) (Err Value) ≡ Ok c → (members : List A) × EachEncoded g members c × (set_from g members ≡ Ok a)
set-written g lawful a c e =
    let p = passed (is_set g a) Value (write_each g a) c e in
    (a, each-written g lawful a c p.1, set_from-same g a p.0)

set-writes : {A : Type 0} (g : Grammar A) (lawful : IsLawful g) (a : List A) (c : List ℕ) (members : List A)
    → EachEncoded g members c → set_from g members ≡ Ok a → WritesAs (cond (is_set g a) (write_each g a) (Err Value)) c
set-writes g lawful a c members s e =
    let w = each-writes g lawful members c s in
    let l = set_from-length g members a w.0 e w.1 in
    let t : is_set g a ≡ true = set_from-is_set g members a e in
    let lw = l.1 in
    (l.0, rw (t, lw) refl, l.2 ∙ w.2)

pub set_of-lawful : {A : Type 0} (g : Grammar A) → IsLawful g → IsLawful (set_of g)
set_of-lawful {A} g lawful = record {
  tags = λ t e. subst IsTag (sym (eqb-true t 49 e)) (omega arith, omega arith);
  found = λ t c a ok fits e.
      let m = bind_ok (many_of g c) (set_from g) a e in
      (eqb-true t 49 ok, (m.0, many-found g lawful c m.0 fits m.1, m.2));
  only = λ t c a s.
      let e0 = s.0 in
      let e1 = many-only g lawful s.1.0 c s.1.1 in
      let e2 = s.1.2 in
      (rw e0 refl, rw e1 e2);
  written = λ a c e. (refl, set-written g lawful a c e);
  writes = λ t c a s. (sym s.0, set-writes g lawful a c s.1.0 s.1.1 s.1.2);
  same = λ t c a p s. absurd cc;
}
