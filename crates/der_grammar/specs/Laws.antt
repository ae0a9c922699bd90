-- Proofs: the laws of a grammar from those of its parts.
use Rattle.std.proofs.Common.{◌≡◌, ◌⊎◌, ℕ, suc, ◌<◌, Bool, true, false, cond, ltb, eqb, List, [], ◌∷◌, ◌++◌, length}
use Rattle.std.proofs.Common.{Option, Some, None, Ok, refl, sym, ap, subst, ◌∙◌, append_assoc, arith, inl, inr, eq-eqb}
use Rattle.std.specs.Prelude.{◌&&◌, ◌||◌}
use Rattle.std.proofs.lemmas.Bool.{ltb-true, lt-ltb, eqb-true}
use Rattle.std.proofs.lemmas.List.{length-append, append-nil, append_cancel_right, nil_from_length}
use Rattle.der_grammar.specs.declared.error.DerError.TheVariants.{Tag, Trailing, TooLong, Value}
use Rattle.der_grammar.specs.Outcome.{Outcome}
use Rattle.foundation.specs.Steps.{◌>>=◌}
use Rattle.foundation.specs.Results.{and_true}
use Rattle.der_grammar.specs.Tlv.{IsTag, IsBytes, tlv, length_bytes, tlv_at}
use Rattle.der_grammar.specs.Grammar.{Grammar, Fields, read, read_body, ended, read_all, framed, write, Encodes}
use Rattle.der_grammar.specs.Grammar.{primitive, implicit, sequence, mapped, one, begins, IsEncodedOption}
use Rattle.der_grammar.specs.Grammar.{write_option, read_option, optional, AreEncoded, both, mapped_fields, refined}
use Rattle.der_grammar.specs.Grammar.{refined_fields, unless_default, or_default, defaulted}
use Rattle.der_grammar.specs.Law.{WritesAs, IsLawful, IsTaken, AreLawful}
use Rattle.der_grammar.specs.TlvLaws.{ok_is, bind_ok, passed, not_refused, chosen, tlv_takes, tlv_again}

-- ---- tests

or_false : (a b c : Bool) → (a || (b && c)) ≡ false → (a ≡ false) × (b ≡ true → c ≡ false)
or_false true b c e = absurd cc
or_false false true true e = absurd cc
or_false false true false e = (refl, λ h. refl)
or_false false false c e = (refl, λ h. absurd cc)

pub begins-append : (test : ℕ → Bool) (text rest : List ℕ) → begins test text ≡ true → begins test (text ++ rest) ≡ true
begins-append test [] rest h = absurd cc
begins-append test (t ∷ text) rest h = h

-- ---- one value

framed_is : (tag : ℕ) (c text : List ℕ) → framed tag c ≡ Ok text → (length c < 268435456) × (tlv tag c ≡ text)
framed_is tag c text e =
    let p = passed (ltb (length c) 268435456) TooLong (Ok (tlv tag c)) text e in
    (ltb-true _ _ p.0, ok_is _ _ p.1)

framed_again : (tag : ℕ) (c : List ℕ) → length c < 268435456 → framed tag c ≡ Ok (tlv tag c)
framed_again tag c fits = let t : ltb (length c) 268435456 ≡ true = lt-ltb _ _ fits in rw t refl

length-tlv : (tag : ℕ) (c d : List ℕ) → length c ≡ length d → length (tlv tag c) ≡ length (tlv tag d)
unfolding tlv
length-tlv tag c d e = ap suc (length-append (length_bytes (length c)) c ∙ rw e (sym (length-append (length_bytes (length d)) d)))

pub one-found : {A : Type 0} (g : Grammar A) (lawful : IsLawful g) (bytes : List ℕ) (a : A) (rest : List ℕ)
    → IsBytes bytes → read g bytes ≡ Ok (a, rest) → IsTaken (one g) bytes a rest
unfolding read
one-found {A} g lawful bytes a rest fits e =
    let m = bind_ok (tlv_at bytes) (read_body g) (a, rest) e in
    let t = m.0 in
    let p = passed (g.accepts t.0) Tag (g.value t.0 t.1 >>= λ a. Ok (a, t.2)) (a, rest) m.2 in
    let v = bind_ok (g.value t.0 t.1) (λ a. Ok (a, t.2)) (a, rest) p.1 in
    let piece = tlv_takes bytes t.0 t.1 t.2 fits m.1 in
    let s = lawful.found t.0 t.1 v.0 p.0 piece.value_bytes v.1 in
    subst (λ (x : A × List ℕ). IsTaken (one g) bytes x.0 x.1) (ok_is (v.0, t.2) (a, rest) v.2)
    (record {
      text = tlv t.0 t.1;
      whole = piece.whole;
      rest_bytes = piece.rest_bytes;
      encoded = record { tag = t.0; contents = t.1; fits = piece.fits; encoded = s; whole = refl };
    })

pub one-only : {A : Type 0} (g : Grammar A) (lawful : IsLawful g) (a : A) (text rest : List ℕ) → Encodes g a text
    → read g (text ++ rest) ≡ Ok (a, rest)
unfolding read
one-only g lawful a text rest s =
    let o = lawful.only s.tag s.contents a s.encoded in
    let again = tlv_again s.tag s.contents rest (lawful.tags s.tag o.0) s.fits in
    let accepted = o.0 in
    let valued = o.1 in
    rw (s.whole, again) (rw (accepted, valued) refl)

pub one-written : {A : Type 0} (g : Grammar A) (lawful : IsLawful g) (a : A) (text : List ℕ) → write g a ≡ Ok text → Encodes g a text
unfolding write
one-written g lawful a text e =
    let m = bind_ok (g.contents a) (framed (g.tag a)) text e in
    let f = framed_is (g.tag a) m.0 text m.2 in
    record { tag = g.tag a; contents = m.0; fits = f.0; encoded = lawful.written a m.0 m.1; whole = sym f.1 }

pub one-writes : {A : Type 0} (g : Grammar A) (lawful : IsLawful g) (a : A) (text : List ℕ) → Encodes g a text → WritesAs (write g a) text
unfolding write
one-writes g lawful a text s =
    let w = lawful.writes s.tag s.contents a s.encoded in
    let e0 = w.0 in
    let e1 = w.1.1 in
    let fits : length w.1.0 < 268435456 = omega (arith, w.1.2, s.fits) in
    (tlv s.tag w.1.0, rw (e1, e0) (framed_again s.tag w.1.0 fits), length-tlv s.tag w.1.0 s.contents w.1.2 ∙ ap length (sym s.whole))

pub one-same : {A : Type 0} (g : Grammar A) (lawful : IsLawful g) (a : A) (text : List ℕ) → g.plain ≡ true
    → Encodes g a text → write g a ≡ Ok text
unfolding write
one-same g lawful a text p s =
    let e0 = (lawful.writes s.tag s.contents a s.encoded).0 in
    let e1 = lawful.same s.tag s.contents a p s.encoded in
    rw (e1, e0, s.whole) (framed_again s.tag s.contents s.fits)

pub one-front : {A : Type 0} (g : Grammar A) (lawful : IsLawful g) (a : A) (text : List ℕ) → Encodes g a text → begins g.accepts text ≡ true
unfolding tlv
one-front g lawful a text s = rw s.whole (lawful.only s.tag s.contents a s.encoded).0

pub one-lawful : {A : Type 0} (g : Grammar A) → IsLawful g → AreLawful (one g)
one-lawful g lawful = record {
  found = one-found g lawful;
  only = λ a text rest s h. one-only g lawful a text rest s;
  written = one-written g lawful;
  writes = one-writes g lawful;
  same = one-same g lawful;
  front = λ a text s. inr (one-front g lawful a text s);
}

-- ---- a value that may be left out

option-found : {A : Type 0} (g : Grammar A) (lawful : IsLawful g) (bytes : List ℕ) (o : Option A) (rest : List ℕ)
    → IsBytes bytes → read_option g bytes ≡ Ok (o, rest) → IsTaken (optional g) bytes o rest
unfolding read_option
option-found {A} g lawful bytes o rest fits e =
    elim (chosen (begins g.accepts bytes) _ _ _ e) [
      | inl p ↦
          let m = bind_ok (read g bytes) (λ x. Ok (Some x.0, x.1)) (o, rest) p.1 in
          let t = one-found g lawful bytes m.0.0 m.0.1 fits m.1 in
          subst (λ (x : Option A × List ℕ). IsTaken (optional g) bytes x.0 x.1) (ok_is (Some m.0.0, m.0.1) (o, rest) m.2)
          (record { text = t.text; whole = t.whole; encoded = t.encoded; rest_bytes = t.rest_bytes })
      | inr p ↦
          subst (λ (x : Option A × List ℕ). IsTaken (optional g) bytes x.0 x.1) (ok_is (None, bytes) (o, rest) p.1)
          (record { text = []; whole = refl; encoded = refl; rest_bytes = fits })
    ]

option-only : {A : Type 0} (g : Grammar A) (lawful : IsLawful g) (o : Option A) (text rest : List ℕ)
    → IsEncodedOption g o text → begins g.accepts rest ≡ false → read_option g (text ++ rest) ≡ Ok (o, rest)
unfolding read_option
option-only g lawful None text rest s h = rw (s, h) refl
option-only g lawful (Some a) text rest s h =
    let b = begins-append g.accepts text rest (one-front g lawful a text s) in
    let r = one-only g lawful a text rest s in
    rw (b, r) refl

option-written : {A : Type 0} (g : Grammar A) (lawful : IsLawful g) (o : Option A) (text : List ℕ)
    → write_option g o ≡ Ok text → IsEncodedOption g o text
option-written g lawful None text e = sym (ok_is [] text e)
option-written g lawful (Some a) text e = one-written g lawful a text e

option-writes : {A : Type 0} (g : Grammar A) (lawful : IsLawful g) (o : Option A) (text : List ℕ)
    → IsEncodedOption g o text → WritesAs (write_option g o) text
option-writes g lawful None text s = ([], refl, ap length (sym s))
option-writes g lawful (Some a) text s = one-writes g lawful a text s

option-same : {A : Type 0} (g : Grammar A) (lawful : IsLawful g) (o : Option A) (text : List ℕ) → g.plain ≡ true
    → IsEncodedOption g o text → write_option g o ≡ Ok text
option-same g lawful None text p s = ap (λ (z : List ℕ). Ok z) (sym s)
option-same g lawful (Some a) text p s = one-same g lawful a text p s

option-front : {A : Type 0} (g : Grammar A) (lawful : IsLawful g) (o : Option A) (text : List ℕ)
    → IsEncodedOption g o text → ((text ≡ []) × (true ≡ true)) ⊎ (begins g.accepts text ≡ true)
option-front g lawful None text s = inl (s, refl)
option-front g lawful (Some a) text s = inr (one-front g lawful a text s)

pub optional-lawful : {A : Type 0} (g : Grammar A) → IsLawful g → AreLawful (optional g)
optional-lawful g lawful = record {
  found = option-found g lawful;
  only = option-only g lawful;
  written = option-written g lawful;
  writes = option-writes g lawful;
  same = option-same g lawful;
  front = option-front g lawful;
}

-- ---- two parts

follows : {A B : Type 0} (f : Fields A) (g : Fields B) (text rest : List ℕ) → ((t : ℕ) → g.first t ≡ true → f.stops t ≡ false)
    → (((text ≡ []) × (g.may_be_empty ≡ true)) ⊎ (begins g.first text ≡ true)) → begins (both f g).stops rest ≡ false
    → (begins f.stops (text ++ rest) ≡ false) × (begins g.stops rest ≡ false)
follows f g [] [] apart (inl p) h = (refl, refl)
follows f g [] (t ∷ rest) apart (inl p) h = let o = or_false (g.stops t) g.may_be_empty (f.stops t) h in (o.1 p.1, o.0)
follows f g (t ∷ text) rest apart (inl p) h = absurd (let e = p.0 in cc)
follows f g [] rest apart (inr p) h = absurd cc
follows f g (t ∷ text) [] apart (inr p) h = (apart t p, refl)
follows f g (t ∷ text) (u ∷ rest) apart (inr p) h = (apart t p, (or_false (g.stops u) g.may_be_empty (f.stops u) h).0)

both-front : {A B : Type 0} (f : Fields A) (g : Fields B) (x y : List ℕ)
    → (((x ≡ []) × (f.may_be_empty ≡ true)) ⊎ (begins f.first x ≡ true))
    → (((y ≡ []) × (g.may_be_empty ≡ true)) ⊎ (begins g.first y ≡ true))
    → (((x ++ y ≡ []) × ((both f g).may_be_empty ≡ true)) ⊎ (begins (both f g).first (x ++ y) ≡ true))
both-front f g [] [] (inl p) (inl q) = inl (refl, let a = p.1 in let b = q.1 in rw (a, b) refl)
both-front f g [] (t ∷ y) (inl p) (inl q) = absurd (let e = q.0 in cc)
both-front f g (t ∷ x) y (inl p) q = absurd (let e = p.0 in cc)
both-front f g [] [] (inl p) (inr q) = absurd cc
both-front f g [] (t ∷ y) (inl p) (inr q) = inr (let a = p.1 in rw (a, q) (or_true (f.first t)))
  where
    or_true : (b : Bool) → (b || true) ≡ true
    or_true true = refl
    or_true false = refl
both-front f g [] y (inr p) q = absurd cc
both-front f g (t ∷ x) y (inr p) q = inr (rw p refl)

both-found : {A B : Type 0} (f : Fields A) (g : Fields B) (lf : AreLawful f) (lg : AreLawful g) (bytes : List ℕ)
    (x : A × B) (rest : List ℕ) → IsBytes bytes → (both f g).value_at bytes ≡ Ok (x, rest) → IsTaken (both f g) bytes x rest
both-found {A} {B} f g lf lg bytes x rest fits e =
    let m = bind_ok (f.value_at bytes) (λ x. g.value_at x.1 >>= λ y. Ok ((x.0, y.0), y.1)) (x, rest) e in
    let n = bind_ok (g.value_at m.0.1) (λ y. Ok ((m.0.0, y.0), y.1)) (x, rest) m.2 in
    let t = lf.found bytes m.0.0 m.0.1 fits m.1 in
    let u = lg.found m.0.1 n.0.0 n.0.1 t.rest_bytes n.1 in
    subst (λ (z : (A × B) × List ℕ). IsTaken (both f g) bytes z.0 z.1) (ok_is ((m.0.0, n.0.0), n.0.1) (x, rest) n.2)
    (record {
      text = t.text ++ u.text;
      whole = t.whole ∙ ap (λ (z : List ℕ). t.text ++ z) u.whole ∙ sym (append_assoc t.text u.text n.0.1);
      encoded = record { front = t.text; back = u.text; whole = refl; first = t.encoded; second = u.encoded };
      rest_bytes = u.rest_bytes;
    })

both-only : {A B : Type 0} (f : Fields A) (g : Fields B) (lf : AreLawful f) (lg : AreLawful g)
    (apart : (t : ℕ) → g.first t ≡ true → f.stops t ≡ false) (x : A × B) (text rest : List ℕ) → AreEncoded f g x text
    → begins (both f g).stops rest ≡ false → (both f g).value_at (text ++ rest) ≡ Ok (x, rest)
both-only f g lf lg apart x text rest s h =
    let w = follows f g s.back rest apart (lg.front x.1 s.back s.second) h in
    let a = lf.only x.0 s.front (s.back ++ rest) s.first w.0 in
    let b = lg.only x.1 s.back rest s.second w.1 in
    rw (s.whole, append_assoc s.front s.back rest, a) (rw b refl)

both-written : {A B : Type 0} (f : Fields A) (g : Fields B) (lf : AreLawful f) (lg : AreLawful g) (x : A × B)
    (text : List ℕ) → (both f g).text x ≡ Ok text → AreEncoded f g x text
both-written f g lf lg x text e =
    let m = bind_ok (f.text x.0) (λ a. g.text x.1 >>= λ b. Ok (a ++ b)) text e in
    let n = bind_ok (g.text x.1) (λ b. Ok (m.0 ++ b)) text m.2 in
    record {
      front = m.0;
      back = n.0;
      whole = sym (ok_is (m.0 ++ n.0) text n.2);
      first = lf.written x.0 m.0 m.1;
      second = lg.written x.1 n.0 n.1;
    }

both-writes : {A B : Type 0} (f : Fields A) (g : Fields B) (lf : AreLawful f) (lg : AreLawful g) (x : A × B)
    (text : List ℕ) → AreEncoded f g x text → WritesAs ((both f g).text x) text
both-writes f g lf lg x text s =
    let a = lf.writes x.0 s.front s.first in
    let b = lg.writes x.1 s.back s.second in
    let ea = a.1 in
    let eb = b.1 in
    (a.0 ++ b.0, rw (ea, eb) refl, omega (arith, length-append a.0 b.0, length-append s.front s.back, ap length s.whole, a.2, b.2))

both-same : {A B : Type 0} (f : Fields A) (g : Fields B) (lf : AreLawful f) (lg : AreLawful g) (x : A × B)
    (text : List ℕ) → (f.plain && g.plain) ≡ true → AreEncoded f g x text → (both f g).text x ≡ Ok text
both-same f g lf lg x text p s =
    let q = and_true f.plain g.plain p in
    let ea = lf.same x.0 s.front q.0 s.first in
    let eb = lg.same x.1 s.back q.1 s.second in
    rw (ea, eb, s.whole) refl

pub both-lawful : {A B : Type 0} (f : Fields A) (g : Fields B) → AreLawful f → AreLawful g
    → ((t : ℕ) → g.first t ≡ true → f.stops t ≡ false) → AreLawful (both f g)
both-lawful f g lf lg apart = record {
  found = both-found f g lf lg;
  only = both-only f g lf lg apart;
  written = both-written f g lf lg;
  writes = both-writes f g lf lg;
  same = both-same f g lf lg;
  front =
      λ x text s. subst (λ (z : List ℕ). ((z ≡ []) × ((both f g).may_be_empty ≡ true))
      ⊎ (begins (both f g).first z ≡ true)) (sym s.whole)
      (both-front f g s.front s.back (lf.front x.0 s.front s.first) (lg.front x.1 s.back s.second));
}

-- ---- other values, other tags

pub mapped_fields-lawful : {A B : Type 0} (to : A → B) (back : B → A) (f : Fields A) → ((a : A) → back (to a) ≡ a)
    → ((b : B) → to (back b) ≡ b) → AreLawful f → AreLawful (mapped_fields to back f)
mapped_fields-lawful {A} {B} to back f there again lf = record {
  found = λ bytes b rest fits e.
      let m = bind_ok (f.value_at bytes) (λ x. Ok (to x.0, x.1)) (b, rest) e in
      let t = lf.found bytes m.0.0 m.0.1 fits m.1 in
      subst (λ (z : B × List ℕ). IsTaken (mapped_fields to back f) bytes z.0 z.1) (ok_is (to m.0.0, m.0.1) (b, rest) m.2)
      (record {
        text = t.text;
        whole = t.whole;
        encoded = subst (λ (a : A). f.IsEncoded a t.text) (sym (there m.0.0)) t.encoded;
        rest_bytes = t.rest_bytes;
      });
  only = λ b text rest s h. let e = lf.only (back b) text rest s h in let i = again b in rw e (rw i refl);
  written = λ b. lf.written (back b);
  writes = λ b. lf.writes (back b);
  same = λ b. lf.same (back b);
  front = λ b. lf.front (back b);
}

pub mapped-lawful : {A B : Type 0} (to : A → B) (back : B → A) (g : Grammar A) → ((a : A) → back (to a) ≡ a)
    → ((b : B) → to (back b) ≡ b) → IsLawful g → IsLawful (mapped to back g)
mapped-lawful {A} {B} to back g there again lg = record {
  tags = lg.tags;
  found = λ t c b ok fits e.
      let m = bind_ok (g.value t c) (λ x. Ok (to x)) b e in
      let s = lg.found t c m.0 ok fits m.1 in
      subst (λ (z : B). g.IsEncoded (back z) t c) (ok_is (to m.0) b m.2) (subst (λ (a : A). g.IsEncoded a t c) (sym (there m.0)) s);
  only = λ t c b s. let o = lg.only t c (back b) s in let e = o.1 in let i = again b in (o.0, rw e (rw i refl));
  written = λ b. lg.written (back b);
  writes = λ t c b. lg.writes t c (back b);
  same = λ t c b. lg.same t c (back b);
}

pub primitive-lawful : (tag : ℕ) (test : List ℕ → Bool) → IsTag tag → IsLawful (primitive tag test)
primitive-lawful tag test tagged = record {
  tags = λ t e. subst IsTag (sym (eqb-true t tag e)) tagged;
  found = λ t c a ok fits e. let p = passed (test c) Value (Ok c) a e in let is = ok_is c a p.1 in
      (eqb-true t tag ok, subst (λ (z : List ℕ). test z ≡ true) is p.0, is);
  only = λ t c a s. let e0 = s.0 in let e1 = s.1 in let e2 = s.2 in (rw e0 (eq-eqb tag tag refl), rw e2 (rw e1 refl));
  written = λ a c e. let p = passed (test a) Value (Ok a) c e in (refl, p.0, sym (ok_is a c p.1));
  writes = λ t c a s. let e1 = s.1 in (sym s.0, (a, rw e1 refl, ap length (sym s.2)));
  same = λ t c a p s. let e1 = s.1 in rw e1 (ap (λ (z : List ℕ). Ok z) (sym s.2));
}

pub implicit-lawful : {A : Type 0} (tag own : ℕ) (g : Grammar A) → IsTag tag → ((a : A) → g.tag a ≡ own)
    → g.accepts own ≡ true → IsLawful g → IsLawful (implicit tag own g)
implicit-lawful {A} tag own g tagged fixed accepted lg = record {
  tags = λ t e. subst IsTag (sym (eqb-true t tag e)) tagged;
  found = λ t c a ok fits e. (eqb-true t tag ok, lg.found own c a accepted fits e);
  only = λ t c a s. let e0 = s.0 in (rw e0 (eq-eqb tag tag refl), (lg.only own c a s.1).1);
  written = λ a c e. (refl, subst (λ (t : ℕ). g.IsEncoded a t c) (fixed a) (lg.written a c e));
  writes = λ t c a s. (sym s.0, (lg.writes own c a s.1).1);
  same = λ t c a p s. lg.same own c a p s.1;
}

pub sequence-lawful : {A : Type 0} (tag : ℕ) (f : Fields A) → IsTag tag → AreLawful f → IsLawful (sequence tag f)
sequence-lawful {A} tag f tagged lf = record {
  tags = λ t e. subst IsTag (sym (eqb-true t tag e)) tagged;
  found = λ t c a ok fits e.
      let m = bind_ok (f.value_at c) ended a e in
      let p = passed (eqb (length m.0.1) 0) Trailing (Ok m.0.0) a m.2 in
      let t = lf.found c m.0.0 m.0.1 fits m.1 in
      let nothing : m.0.1 ≡ [] = nil_from_length m.0.1 (eqb-true _ _ p.0) in
      let whole : c ≡ t.text = t.whole ∙ ap (λ (r : List ℕ). t.text ++ r) nothing ∙ append-nil t.text in (
        eqb-true _ tag ok,
        subst (λ (z : A). f.IsEncoded z c) (ok_is m.0.0 a p.1)
            (subst (λ (z : List ℕ). f.IsEncoded m.0.0 z) (sym whole) t.encoded),
      );
  only = λ t c a s. let e0 = s.0 in
      let e : f.value_at c ≡ Ok (a, []) = ap f.value_at (sym (append-nil c)) ∙ lf.only a c [] s.1 refl in
      (rw e0 (eq-eqb tag tag refl), rw e refl);
  written = λ a c e. (refl, lf.written a c e);
  writes = λ t c a s. (sym s.0, lf.writes a c s.1);
  same = λ t c a p s. lf.same a c p s.1;
}

-- ---- partial maps

pub refined-lawful : {A B : Type 0} (to : A → Outcome B) (back : B → A) (g : Grammar A)
    → ((a : A) (b : B) → to a ≡ Ok b → back b ≡ a) → ((b other : B) → to (back b) ≡ Ok other → other ≡ b) → IsLawful g
    → IsLawful (refined to back g)
refined-lawful {A} {B} to back g again fixed lg = record {
  tags = lg.tags;
  found = λ t c b ok fits e.
      let m = bind_ok (g.value t c) to b e in
      let is = again m.0 b m.2 in
      (ap to is ∙ m.2, subst (λ (a : A). g.IsEncoded a t c) (sym is) (lg.found t c m.0 ok fits m.1));
  only = λ t c b s. let o = lg.only t c (back b) s.1 in let e = o.1 in (o.0, rw e s.0);
  written = λ b c e. let m = bind_ok (to (back b)) (λ same. g.contents (back b)) c e in
      (m.1 ∙ ap (λ z. Ok z) (fixed b m.0 m.1), lg.written (back b) c m.2);
  writes = λ t c b s. let e = s.0 in let w = lg.writes t c (back b) s.1 in (w.0, (w.1.0, rw e w.1.1, w.1.2));
  same = λ t c b p s. let e = s.0 in rw e (lg.same t c (back b) p s.1);
}

pub refined_fields-lawful : {A B : Type 0} (to : A → Outcome B) (back : B → A) (f : Fields A)
    → ((a : A) (b : B) → to a ≡ Ok b → back b ≡ a) → ((b other : B) → to (back b) ≡ Ok other → other ≡ b) → AreLawful f
    → AreLawful (refined_fields to back f)
refined_fields-lawful {A} {B} to back f again fixed lf = record {
  found = λ bytes b rest fits e.
      let m = bind_ok (f.value_at bytes) (λ x. to x.0 >>= λ b. Ok (b, x.1)) (b, rest) e in
      let n = bind_ok (to m.0.0) (λ b. Ok (b, m.0.1)) (b, rest) m.2 in
      let t = lf.found bytes m.0.0 m.0.1 fits m.1 in
      let is = again m.0.0 n.0 n.1 in
      subst (λ (z : B × List ℕ). IsTaken (refined_fields to back f) bytes z.0 z.1) (ok_is (n.0, m.0.1) (b, rest) n.2)
      (record {
        text = t.text;
        whole = t.whole;
        encoded = (ap to is ∙ n.1, subst (λ (a : A). f.IsEncoded a t.text) (sym is) t.encoded);
        rest_bytes = t.rest_bytes;
      });
  only = λ b text rest s h. let e = lf.only (back b) text rest s.1 h in let i = s.0 in rw e (rw i refl);
  written = λ b text e. let m = bind_ok (to (back b)) (λ same. f.text (back b)) text e in
      (m.1 ∙ ap (λ z. Ok z) (fixed b m.0 m.1), lf.written (back b) text m.2);
  writes = λ b text s. let e = s.0 in let w = lf.writes (back b) text s.1 in (w.0, rw e w.1, w.2);
  same = λ b text p s. let e = s.0 in rw e (lf.same (back b) text p s.1);
  front = λ b text s. lf.front (back b) text s.1;
}

-- ---- defaults

default-again : {A : Type 0} (is_default : A → Bool) (d : A) → is_default d ≡ true → (o : Option A) (a : A)
    → or_default is_default d o ≡ Ok a → unless_default is_default a ≡ o
default-again is_default d tested None a e = let is = ok_is d a e in subst (λ z. unless_default is_default z ≡ None) is (rw tested refl)
default-again is_default d tested (Some b) a e =
    let p = not_refused (is_default b) Value (Ok b) a e in
    let no = p.0 in
    subst (λ z. unless_default is_default z ≡ Some b) (ok_is b a p.1) (rw no refl)

default-fixed : {A : Type 0} (is_default : A → Bool) (d : A) → ((a : A) → is_default a ≡ true → a ≡ d)
    → (a other : A) (b : Bool) → is_default a ≡ b → or_default is_default d (cond b None (Some a)) ≡ Ok other → other ≡ a
default-fixed is_default d only_one a other true is e = sym (ok_is d other e) ∙ sym (only_one a is)
default-fixed is_default d only_one a other false is e = let p = not_refused (is_default a) Value (Ok a) other e in sym (ok_is a other p.1)

pub defaulted-lawful : {A : Type 0} (is_default : A → Bool) (d : A) (g : Grammar A) → is_default d ≡ true
    → ((a : A) → is_default a ≡ true → a ≡ d) → IsLawful g → AreLawful (defaulted is_default d g)
defaulted-lawful is_default d g tested only_one lg =
    refined_fields-lawful (or_default is_default d) (unless_default is_default) (optional g)
    (default-again is_default d tested)
    (λ a other e. default-fixed is_default d only_one a other (is_default a) refl e) (optional-lawful g lg)

-- ---- whole texts

pub all-found : {A : Type 0} (g : Grammar A) (lawful : IsLawful g) (bytes : List ℕ) (a : A) → IsBytes bytes
    → read_all g bytes ≡ Ok a → Encodes g a bytes
unfolding read_all
all-found g lawful bytes a fits e =
    let m = bind_ok (read g bytes) ended a e in
    let p = passed (eqb (length m.0.1) 0) Trailing (Ok m.0.0) a m.2 in
    let t = one-found g lawful bytes m.0.0 m.0.1 fits m.1 in
    let nothing : m.0.1 ≡ [] = nil_from_length m.0.1 (eqb-true _ _ p.0) in
    let whole : bytes ≡ t.text = t.whole ∙ ap (λ (r : List ℕ). t.text ++ r) nothing ∙ append-nil t.text in
    subst (λ z. Encodes g z bytes) (ok_is m.0.0 a p.1) (subst (λ (z : List ℕ). Encodes g m.0.0 z) (sym whole) t.encoded)

pub all-only : {A : Type 0} (g : Grammar A) (lawful : IsLawful g) (bytes : List ℕ) (a : A) → Encodes g a bytes → read_all g bytes ≡ Ok a
unfolding read_all
all-only g lawful bytes a s =
    let e : read g bytes ≡ Ok (a, []) = ap (read g) (sym (append-nil bytes)) ∙ one-only g lawful a bytes [] s in
    rw e refl

pub all-writes : {A : Type 0} (g : Grammar A) (lawful : IsLawful g) (bytes : List ℕ) (a : A) → Encodes g a bytes
    → WritesAs (write g a) bytes
all-writes g lawful bytes a s = one-writes g lawful a bytes s

pub no_prefix : {A : Type 0} (g : Grammar A) (lawful : IsLawful g) (a b : A) (x y v w : List ℕ) → Encodes g a x
    → Encodes g b y → x ++ v ≡ y ++ w → (a ≡ b) × (x ≡ y)
no_prefix {A} g lawful a b x y v w s t e =
    let m : Path (Outcome (A × List ℕ)) (Ok (a, v)) (Ok (b, w)) =
    sym (one-only g lawful a x v s) ∙ ap (read g) e ∙ one-only g lawful b y w t in
    let p = ok_is (a, v) (b, w) m in
    let q : v ≡ w = ap (λ (z : A × List ℕ). z.1) p in
    (ap (λ (z : A × List ℕ). z.0) p, append_cancel_right x y v (e ∙ ap (λ (z : List ℕ). y ++ z) (sym q)))

pub all-same : {A : Type 0} (g : Grammar A) (lawful : IsLawful g) (bytes : List ℕ) (a : A) → g.plain ≡ true
    → Encodes g a bytes → write g a ≡ Ok bytes
all-same g lawful bytes a p s = one-same g lawful a bytes p s
