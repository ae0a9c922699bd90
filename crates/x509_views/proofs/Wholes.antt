-- What was read is encoded so, and what is left stands at the end.
use Rattle.std.proofs.Common.{◌≡◌, ℕ, ◌-◌, Bool, true, false, cond, eqb, List, [], ◌∷◌, ◌++◌, length, take, Ok, Err, refl, sym, ap, subst, ◌∙◌, append_assoc, arith}
use Rattle.std.proofs.lemmas.Bool.{eqb-true}
use Rattle.std.proofs.lemmas.List.{take_at, length-append, append-nil}
use Rattle.foundation.specs.Steps.{◌>>=◌}
use Rattle.der_grammar.specs.declared.error.DerError.TheVariants as der
use Rattle.der_grammar.specs.Outcome.{Outcome}
use Rattle.der_grammar.specs.Tlv.{IsBytes, IsTlv, tlv, tlv_at}
use Rattle.der_grammar.specs.TlvLaws.{tlv_takes}
use Rattle.der_core.specs.Strings.{is_int}
use Rattle.spki_core.specs.declared.error.X509Error.{X509Error}
use Rattle.spki_core.specs.declared.error.X509Error.TheVariants.{Der}
use Rattle.spki_core.specs.Reading.{Reading, of_der, with_tag, contents_at, encoded_at, int_at, before, at_end}
use Rattle.x509_views.proofs.Lists.{bind_reads, reading_is}

pub passes : {A : Type 0} (b : Bool) (e : X509Error) (r : Reading A) (y : A) → cond b r (Err e) ≡ Ok y → (b ≡ true) × (r ≡ Ok y)
passes true e r y h = (refl, h)
passes false e r y h = absurd cc

-- ---- a value at the front

abbrev one : ℕ × List ℕ × List ℕ → Reading (List ℕ × List ℕ)
one t = Ok (t.1, t.2)

whole_so : (tag : ℕ) (bytes : List ℕ) (r : Outcome (ℕ × List ℕ × List ℕ)) (c rest : List ℕ) → IsBytes bytes → tlv_at bytes ≡ r → (of_der r >>= with_tag tag) ≡ Ok (c, rest) → IsTlv bytes tag c rest
whole_so tag bytes (Err e) c rest fits at h = absurd cc
whole_so tag bytes (Ok t) c rest fits at h =
    let p = passes (eqb t.0 tag) (Der der.Tag) (one t) (c, rest) h in
    let same : t.0 ≡ tag = eqb-true t.0 tag p.0 in
    let parts = reading_is (t.1, t.2) (c, rest) p.1 in
    let k : IsTlv bytes t.0 t.1 t.2 = tlv_takes bytes t.0 t.1 t.2 fits at in
    let l : IsTlv bytes tag t.1 t.2 = subst (λ (z : ℕ). IsTlv bytes z t.1 t.2) same k in
    subst (λ (z : List ℕ × List ℕ). IsTlv bytes tag z.0 z.1) parts l

pub contents-whole : (tag : ℕ) (bytes c rest : List ℕ) → IsBytes bytes → contents_at tag bytes ≡ Ok (c, rest) → IsTlv bytes tag c rest
unfolding contents_at
contents-whole tag bytes c rest fits h = whole_so tag bytes (tlv_at bytes) c rest fits refl h

-- ---- what is left

-- the rest stands at the end of the bytes
pub record Follows (bytes rest : List ℕ) : Type 0 where
  pub front : List ℕ
  pub whole : bytes ≡ front ++ rest
  pub fits : IsBytes rest

pub stays : (bytes : List ℕ) → IsBytes bytes → Follows bytes bytes
stays bytes fits = record { front = []; whole = refl; fits = fits }

pub further : (a b c : List ℕ) → Follows a b → Follows b c → Follows a c
further a b c f g = record { front = f.front ++ g.front; whole = f.whole ∙ ap (λ (z : List ℕ). f.front ++ z) g.whole ∙ sym (append_assoc f.front g.front c); fits = g.fits }

pub behind-tlv-follows : (bytes c rest : List ℕ) (tag : ℕ) → IsTlv bytes tag c rest → Follows bytes rest
behind-tlv-follows bytes c rest tag k = record { front = tlv tag c; whole = k.whole; fits = k.rest_bytes }

pub contents-follow : (tag : ℕ) (bytes c rest : List ℕ) → IsBytes bytes → contents_at tag bytes ≡ Ok (c, rest) → Follows bytes rest
contents-follow tag bytes c rest fits h = behind-tlv-follows bytes c rest tag (contents-whole tag bytes c rest fits h)

-- what stands before the rest
pub before-is : (bytes rest : List ℕ) (f : Follows bytes rest) → before bytes rest ≡ f.front
before-is bytes rest f =
    let k : length f.front ≡ length bytes - length rest = omega (arith, ap length f.whole, length-append f.front rest) in
    ap (λ (z : List ℕ). take (length bytes - length rest) z) f.whole ∙ take_at f.front rest (length bytes - length rest) k

pub joins : (bytes rest : List ℕ) → Follows bytes rest → bytes ≡ before bytes rest ++ rest
joins bytes rest f = f.whole ∙ ap (λ (z : List ℕ). z ++ rest) (sym (before-is bytes rest f))

-- ---- the end

none_left : (rest : List ℕ) → length rest ≡ 0 → rest ≡ []
none_left [] e = refl
none_left (b ∷ rest) e = absurd (omega arith)

pub alone : (bytes front rest : List ℕ) → bytes ≡ front ++ rest → rest ≡ [] → bytes ≡ front
alone bytes front rest whole none = whole ∙ ap (λ (z : List ℕ). front ++ z) none ∙ append-nil front

pub in-two : (bytes a b rest : List ℕ) → bytes ≡ a ++ rest → rest ≡ b → bytes ≡ a ++ b
in-two bytes a b rest whole same = whole ∙ ap (λ (z : List ℕ). a ++ z) same

pub in-three : (bytes a b c rest last : List ℕ) → bytes ≡ a ++ rest → rest ≡ b ++ last → last ≡ c → bytes ≡ a ++ b ++ c
in-three bytes a b c rest last whole then end = whole ∙ ap (λ (z : List ℕ). a ++ z) (in-two rest b c last then end) ∙ sym (append_assoc a b c)

pub ends-so : {A : Type 0} (a : A) (rest : List ℕ) (y : A) → at_end a rest ≡ Ok y → (a ≡ y) × (rest ≡ [])
ends-so a rest y h =
    let p = passes (eqb (length rest) 0) (Der der.Trailing) (Ok a) y h in
    (reading_is a y p.1, none_left rest (eqb-true (length rest) 0 p.0))

-- ---- a value whose contents are read further

pub record Inner {A : Type 0} (tag : ℕ) (bytes : List ℕ) (f : List ℕ → Reading A) (a : A) (rest : List ℕ) : Type 0 where
  pub contents : List ℕ
  pub read : contents_at tag bytes ≡ Ok (contents, rest)
  pub value : f contents ≡ Ok a

abbrev pub valued : {A : Type 0} → (List ℕ → Reading A) → List ℕ × List ℕ → Reading (A × List ℕ)
valued f x = f x.0 >>= λ v. Ok (v, x.1)

pub inner-so : {A : Type 0} (tag : ℕ) (bytes : List ℕ) (f : List ℕ → Reading A) (a : A) (rest : List ℕ) → (contents_at tag bytes >>= valued f) ≡ Ok (a, rest) → Inner tag bytes f a rest
inner-so {A} tag bytes f a rest h =
    let m = bind_reads (contents_at tag bytes) (valued f) (a, rest) h in
    let v = bind_reads (f m.0.0) _ (a, rest) m.2 in
    let same = reading_is (v.0, m.0.1) (a, rest) v.2 in
    let is : m.0.1 ≡ rest = ap (λ (z : A × List ℕ). z.1) same in
    record {
      contents = m.0.0;
      read = subst (λ (z : List ℕ). contents_at tag bytes ≡ Ok (m.0.0, z)) is m.1;
      value = subst (λ (z : A). f m.0.0 ≡ Ok z) (ap (λ (z : A × List ℕ). z.0) same) v.1;
    }

pub inner-follows : {A : Type 0} (tag : ℕ) (bytes : List ℕ) (f : List ℕ → Reading A) (a : A) (rest : List ℕ) → IsBytes bytes → Inner tag bytes f a rest → Follows bytes rest
inner-follows tag bytes f a rest fits i = contents-follow tag bytes i.contents rest fits i.read

pub int-follows : (bytes c rest : List ℕ) → IsBytes bytes → int_at bytes ≡ Ok (c, rest) → Follows bytes rest
unfolding int_at
int-follows bytes c rest fits h =
    let m = bind_reads (contents_at 2 bytes) _ (c, rest) h in
    let p = passes (is_int m.0.0) (Der der.Value) (Ok m.0) (c, rest) m.2 in
    subst (λ (z : List ℕ × List ℕ). Follows bytes z.1) (reading_is m.0 (c, rest) p.1) (contents-follow 2 bytes m.0.0 m.0.1 fits m.1)

pub encoded-follows : (tag : ℕ) (bytes c rest : List ℕ) → IsBytes bytes → encoded_at tag bytes ≡ Ok (c, rest) → Follows bytes rest
unfolding encoded_at
encoded-follows tag bytes c rest fits h =
    let m = bind_reads (contents_at tag bytes) _ (c, rest) h in
    let is : m.0.1 ≡ rest = ap (λ (z : List ℕ × List ℕ). z.1) (reading_is (tlv tag m.0.0, m.0.1) (c, rest) m.2) in
    subst (λ (z : List ℕ). Follows bytes z) is (contents-follow tag bytes m.0.0 m.0.1 fits m.1)
