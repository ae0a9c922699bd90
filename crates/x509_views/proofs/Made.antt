-- What a certificate that was read is made of.
use Rattle.std.proofs.Common.{◌≡◌, ◌⊎◌, ℕ, ◌<◌, Bool, true, false, cond, eqb, List, [], ◌∷◌, ◌++◌, length, Option, Some, None, Ok, refl, sym, ap, subst, ◌∙◌, inl, inr}
use Rattle.std.specs.Prelude.{nat_le}
use Rattle.std.proofs.lemmas.Bool.{eqb-true}
use Rattle.der_grammar.specs.declared.error.DerError.TheVariants as der
use Rattle.der_grammar.specs.Tlv.{IsBytes, IsTlv, tlv}
use Rattle.der_core.specs.Strings.{is_bit_string}
use Rattle.spki_core.specs.declared.error.X509Error.TheVariants.{Der}
use Rattle.spki_core.specs.Reading.{Reading, contents_at, encoded_at, oid_at, any_at, int_at, bits_of, bits_at, begins_with, before}
use Rattle.spki_core.specs.Spki.{Algorithm, Spki, algorithm_of, algorithm_at, spki_of, spki_at, spki_view_of}
use Rattle.x509_views.specs.Extensions.{distinct_of}
use Rattle.x509_views.specs.Certificates.{Front, Middle, Tail, Signed, Certificate, version_of, version_at, serial_at, front_at, validity_of, middle_at, behind_identifier, list_of, list_at, tail_of, signed_of, same_algorithm, full_octets, signature_at, parts_of, certificate_of}
use Rattle.x509_views.proofs.Lists.{bind_reads, reading_is}
use Rattle.x509_views.proofs.Wholes.{passes, contents-whole, Follows, stays, further, contents-follow, joins, alone, in-two, in-three, ends-so, inner-so, inner-follows, int-follows, encoded-follows}

chooses : {A : Type 0} (b : Bool) (x y z : Reading A) → cond b x y ≡ z → ((b ≡ true) × (x ≡ z)) ⊎ ((b ≡ false) × (y ≡ z))
chooses true x y z e = inl (refl, e)
chooses false x y z e = inr (refl, e)

-- ---- each part leaves what stands at the end

version-follows : (bytes : List ℕ) (v : ℕ) (rest : List ℕ) → IsBytes bytes → version_at bytes ≡ Ok (v, rest) → Follows bytes rest
unfolding version_at
version-follows bytes v rest fits h = elim (chooses (begins_with 160 bytes) _ _ _ h) [
  | inl p ↦ inner-follows 160 bytes version_of v rest fits (inner-so 160 bytes version_of v rest p.1)
  | inr p ↦ let is : bytes ≡ rest = ap (λ (z : ℕ × List ℕ). z.1) (reading_is (0, bytes) (v, rest) p.1) in subst (λ (z : List ℕ). Follows bytes z) is (stays bytes fits)
]

serial-follows : (bytes c rest : List ℕ) → IsBytes bytes → serial_at bytes ≡ Ok (c, rest) → Follows bytes rest
unfolding serial_at
serial-follows bytes c rest fits h =
    let m = bind_reads (int_at bytes) _ (c, rest) h in
    let p = passes (nat_le (length m.0.0) 21) (Der der.Value) (Ok m.0) (c, rest) m.2 in
    subst (λ (z : List ℕ × List ℕ). Follows bytes z.1) (reading_is m.0 (c, rest) p.1) (int-follows bytes m.0.0 m.0.1 fits m.1)

algorithm-follows : (bytes : List ℕ) (a : Algorithm) (rest : List ℕ) → IsBytes bytes → algorithm_at bytes ≡ Ok (a, rest) → Follows bytes rest
unfolding algorithm_at
algorithm-follows bytes a rest fits h = inner-follows 48 bytes algorithm_of a rest fits (inner-so 48 bytes algorithm_of a rest h)

front-follows : (bytes : List ℕ) (f : Front) (rest : List ℕ) → IsBytes bytes → front_at bytes ≡ Ok (f, rest) → Follows bytes rest
unfolding front_at
front-follows bytes f rest fits h =
    let v = bind_reads (version_at bytes) _ (f, rest) h in
    let s = bind_reads (serial_at v.0.1) _ (f, rest) v.2 in
    let a = bind_reads (algorithm_at s.0.1) _ (f, rest) s.2 in
    let i = bind_reads (encoded_at 48 a.0.1) _ (f, rest) a.2 in
    let fv = version-follows bytes v.0.0 v.0.1 fits v.1 in
    let fs = serial-follows v.0.1 s.0.0 s.0.1 fv.fits s.1 in
    let fa = algorithm-follows s.0.1 a.0.0 a.0.1 fs.fits a.1 in
    let fi = encoded-follows 48 a.0.1 i.0.0 i.0.1 fa.fits i.1 in
    let is : i.0.1 ≡ rest = ap (λ (z : Front × List ℕ). z.1) (reading_is (record { version = v.0.0; serial = s.0.0; algorithm = a.0.0.encoded; issuer = i.0.0 }, i.0.1) (f, rest) i.2) in
    subst (λ (z : List ℕ). Follows bytes z) is (further _ _ _ fv (further _ _ _ fs (further _ _ _ fa fi)))

middle-follows : (bytes : List ℕ) (m : Middle) (rest : List ℕ) → IsBytes bytes → middle_at bytes ≡ Ok (m, rest) → Follows bytes rest
unfolding middle_at
middle-follows bytes m rest fits h =
    let v = bind_reads (contents_at 48 bytes) _ (m, rest) h in
    let t = bind_reads (validity_of v.0.0) _ (m, rest) v.2 in
    let s = bind_reads (encoded_at 48 v.0.1) _ (m, rest) t.2 in
    let k = bind_reads (contents_at 48 s.0.1) _ (m, rest) s.2 in
    let r = bind_reads (spki_of k.0.0) _ (m, rest) k.2 in
    let fv = contents-follow 48 bytes v.0.0 v.0.1 fits v.1 in
    let fs = encoded-follows 48 v.0.1 s.0.0 s.0.1 fv.fits s.1 in
    let fk = contents-follow 48 s.0.1 k.0.0 k.0.1 fs.fits k.1 in
    let is : k.0.1 ≡ rest = ap (λ (z : Middle × List ℕ). z.1) (reading_is (record { not_before = t.0.0; not_after = t.0.1; subject = s.0.0; spki = tlv 48 k.0.0 }, k.0.1) (m, rest) r.2) in
    subst (λ (z : List ℕ). Follows bytes z) is (further _ _ _ fv (further _ _ _ fs fk))

identifier-follows : (tag : ℕ) (bytes rest : List ℕ) → IsBytes bytes → behind_identifier tag bytes ≡ Ok rest → Follows bytes rest
unfolding behind_identifier
identifier-follows tag bytes rest fits h = elim (chooses (begins_with tag bytes) _ _ _ h) [
  | inl p ↦
      let m = bind_reads (contents_at tag bytes) _ rest p.1 in
      subst (λ (z : List ℕ). Follows bytes z) (reading_is m.0.1 rest m.2) (contents-follow tag bytes m.0.0 m.0.1 fits m.1)
  | inr p ↦ subst (λ (z : List ℕ). Follows bytes z) (reading_is bytes rest p.1) (stays bytes fits)
]

-- ---- the extensions

pub record ListFacts (bytes list : List ℕ) : Type 0 where
  pub whole : bytes ≡ tlv 163 (tlv 48 list)
  pub fits : length list < 268435456
  pub outer_fits : length (tlv 48 list) < 268435456
  pub once : distinct_of list ≡ Ok tt

list-facts : (bytes x list rest : List ℕ) → IsTlv bytes 163 x rest → rest ≡ [] → list_of x ≡ Ok list → ListFacts bytes list
unfolding list_of
list-facts bytes x list rest k none h =
    let m = bind_reads (contents_at 48 x) _ list h in
    let d = bind_reads (distinct_of m.0.0) _ list m.2 in
    let e = ends-so m.0.0 m.0.1 list d.2 in
    let l = contents-whole 48 x m.0.0 m.0.1 k.value_bytes m.1 in
    let inner : x ≡ tlv 48 list = alone x (tlv 48 m.0.0) m.0.1 l.whole e.1 ∙ ap (tlv 48) e.0 in
    record {
      whole = alone bytes (tlv 163 x) rest k.whole none ∙ ap (tlv 163) inner;
      fits = subst (λ (z : List ℕ). length z < 268435456) e.0 l.fits;
      outer_fits = subst (λ (z : List ℕ). length z < 268435456) inner k.fits;
      once = subst (λ (z : List ℕ). distinct_of z ≡ Ok tt) e.0 d.1;
    }

abbrev some_list : List ℕ → Option (List ℕ)
some_list list = Some list

abbrev no_list : Option (List ℕ)
no_list = None

some_is : (x y : List ℕ) → some_list x ≡ some_list y → x ≡ y
some_is x y e = cc

-- the list that was read, and what was left
list-some : (bytes list rest : List ℕ) → IsBytes bytes → list_at bytes ≡ Ok (some_list list, rest) → rest ≡ [] → ListFacts bytes list
unfolding list_at
list-some bytes list rest fits h none = elim (chooses (begins_with 163 bytes) _ _ _ h) [
  | inl p ↦
      let m = bind_reads (contents_at 163 bytes) _ (some_list list, rest) p.1 in
      let l = bind_reads (list_of m.0.0) _ (some_list list, rest) m.2 in
      let same = reading_is (some_list l.0, m.0.1) (some_list list, rest) l.2 in
      let is : l.0 ≡ list = some_is l.0 list (ap (λ (z : Option (List ℕ) × List ℕ). z.0) same) in
      let end : m.0.1 ≡ [] = ap (λ (z : Option (List ℕ) × List ℕ). z.1) same ∙ none in
      list-facts bytes m.0.0 list m.0.1 (contents-whole 163 bytes m.0.0 m.0.1 fits m.1) end (subst (λ (z : List ℕ). list_of m.0.0 ≡ Ok z) is l.1)
  | inr p ↦ let e : no_list ≡ some_list list = ap (λ (z : Option (List ℕ) × List ℕ). z.0) (reading_is (no_list, bytes) (some_list list, rest) p.1) in absurd cc
]

-- ---- the signed part

pub record TailFacts (contents list : List ℕ) (t : Tail) : Type 0 where
  pub whole : contents ≡ t.front ++ tlv 163 (tlv 48 list)
  pub list_facts : ListFacts (tlv 163 (tlv 48 list)) list

tail-facts : (contents bytes list : List ℕ) (t : Tail) → Follows contents bytes → tail_of contents bytes ≡ Ok t → t.extensions ≡ some_list list → TailFacts contents list t
unfolding tail_of
tail-facts contents bytes list t f h some =
    let a = bind_reads (behind_identifier 129 bytes) _ t h in
    let b = bind_reads (behind_identifier 130 a.0) _ t a.2 in
    let l = bind_reads (list_at b.0) _ t b.2 in
    let fa = identifier-follows 129 bytes a.0 f.fits a.1 in
    let fb = identifier-follows 130 a.0 b.0 fa.fits b.1 in
    let e = ends-so (record { front = before contents b.0; extensions = l.0.0 }) l.0.1 t l.2 in
    let here : l.0.0 ≡ some_list list = ap (λ (z : Tail). z.extensions) e.0 ∙ some in
    let read : list_at b.0 ≡ Ok (some_list list, l.0.1) = subst (λ (z : Option (List ℕ)). list_at b.0 ≡ Ok (z, l.0.1)) here l.1 in
    let facts = list-some b.0 list l.0.1 fb.fits read e.1 in
    let parts : contents ≡ before contents b.0 ++ b.0 = joins contents b.0 (further _ _ _ f (further _ _ _ fa fb)) in
    record {
      whole = parts ∙ ap (λ (z : List ℕ). z ++ b.0) (ap (λ (z : Tail). z.front) e.0) ∙ ap (λ (z : List ℕ). t.front ++ z) facts.whole;
      list_facts = subst (λ (z : List ℕ). ListFacts z list) facts.whole facts;
    }

signed-facts : (contents list : List ℕ) (s : Signed) → IsBytes contents → signed_of contents ≡ Ok s → s.tail.extensions ≡ some_list list → TailFacts contents list s.tail
unfolding signed_of
signed-facts contents list s fits h some =
    let f = bind_reads (front_at contents) _ s h in
    let m = bind_reads (middle_at f.0.1) _ s f.2 in
    let t = bind_reads (tail_of contents m.0.1) _ s m.2 in
    let is : t.0 ≡ s.tail = ap (λ (z : Signed). z.tail) (reading_is (record { front = f.0.0; middle = m.0.0; tail = t.0 }) s t.2) in
    let ff = front-follows contents f.0.0 f.0.1 fits f.1 in
    let fm = middle-follows f.0.1 m.0.0 m.0.1 ff.fits m.1 in
    tail-facts contents m.0.1 list s.tail (further _ _ _ ff fm) (subst (λ (z : Tail). tail_of contents m.0.1 ≡ Ok z) is t.1) some

-- ---- the certificate

pub record CertificateFacts (contents : List ℕ) (c : Certificate) : Type 0 where
  -- the contents of the signed part
  pub body : List ℕ
  pub body_bytes : IsBytes body
  pub body_fits : length body < 268435456
  pub tbs_is : c.tbs ≡ tlv 48 body
  pub signed_is : signed_of body ≡ Ok c.signed
  pub whole : contents ≡ c.tbs ++ tlv 48 c.algorithm ++ tlv 3 (0 ∷ c.signature)

algorithm-encoded : (contents : List ℕ) (a : Algorithm) → algorithm_of contents ≡ Ok a → contents ≡ a.encoded
unfolding algorithm_of
algorithm-encoded contents a h =
    let o = bind_reads (oid_at contents) _ a h in
    let p = bind_reads (any_at o.0.1) _ a o.2 in
    ap (λ (z : Algorithm). z.encoded) (ends-so (record { encoded = contents; oid = o.0.0; parameters = p.0.0 }) p.0.1 a p.2).0

algorithm-whole : (bytes : List ℕ) (a : Algorithm) (rest : List ℕ) → IsBytes bytes → algorithm_at bytes ≡ Ok (a, rest) → IsTlv bytes 48 a.encoded rest
unfolding algorithm_at
algorithm-whole bytes a rest fits h =
    let i = inner-so 48 bytes algorithm_of a rest h in
    subst (λ (z : List ℕ). IsTlv bytes 48 z rest) (algorithm-encoded i.contents a i.value) (contents-whole 48 bytes i.contents rest fits i.read)

full-bits : (contents : List ℕ) (bits : ℕ × List ℕ) (octets : List ℕ) → bits_of contents ≡ Ok bits → full_octets bits ≡ Ok octets → contents ≡ 0 ∷ octets
full-bits [] bits octets b f = absurd cc
full-bits (u ∷ more) bits octets b f =
    let p = passes (is_bit_string (u ∷ more)) (Der der.Value) (Ok (u, more)) bits b in
    let same = reading_is (u, more) bits p.1 in
    let q = passes (eqb bits.0 0) (Der der.Value) (Ok bits.1) octets f in
    let zero_bits : u ≡ 0 = ap (λ (z : ℕ × List ℕ). z.0) same ∙ eqb-true bits.0 0 q.0 in
    let more_is : more ≡ octets = ap (λ (z : ℕ × List ℕ). z.1) same ∙ reading_is bits.1 octets q.1 in
    ap (λ (z : ℕ). z ∷ more) zero_bits ∙ ap (λ (z : List ℕ). 0 ∷ z) more_is

signature-whole : (bytes octets rest : List ℕ) → IsBytes bytes → signature_at bytes ≡ Ok (octets, rest) → IsTlv bytes 3 (0 ∷ octets) rest
unfolding signature_at bits_at
signature-whole bytes octets rest fits h =
    let b = bind_reads (bits_at bytes) _ (octets, rest) h in
    let f = bind_reads (full_octets b.0.0) _ (octets, rest) b.2 in
    let same = reading_is (f.0, b.0.1) (octets, rest) f.2 in
    let i = inner-so 3 bytes bits_of b.0.0 b.0.1 b.1 in
    let octets_are : full_octets b.0.0 ≡ Ok octets = subst (λ (z : List ℕ). full_octets b.0.0 ≡ Ok z) (ap (λ (z : List ℕ × List ℕ). z.0) same) f.1 in
    let k = contents-whole 3 bytes i.contents b.0.1 fits i.read in
    let l : IsTlv bytes 3 (0 ∷ octets) b.0.1 = subst (λ (z : List ℕ). IsTlv bytes 3 z b.0.1) (full-bits i.contents b.0.0 octets i.value octets_are) k in
    subst (λ (z : List ℕ). IsTlv bytes 3 (0 ∷ octets) z) (ap (λ (z : List ℕ × List ℕ). z.1) same) l

pub parts-facts : (contents : List ℕ) (c : Certificate) → IsBytes contents → parts_of contents ≡ Ok c → CertificateFacts contents c
unfolding parts_of
parts-facts contents c fits h =
    let t = bind_reads (contents_at 48 contents) _ c h in
    let s = bind_reads (signed_of t.0.0) _ c t.2 in
    let a = bind_reads (algorithm_at t.0.1) _ c s.2 in
    let q = bind_reads (same_algorithm s.0.front.algorithm a.0.0.encoded) _ c a.2 in
    let g = bind_reads (signature_at a.0.1) _ c q.2 in
    let e = ends-so (record { tbs = tlv 48 t.0.0; signed = s.0; algorithm = a.0.0.encoded; signature = g.0.0 }) g.0.1 c g.2 in
    let kt = contents-whole 48 contents t.0.0 t.0.1 fits t.1 in
    let ka = algorithm-whole t.0.1 a.0.0 a.0.1 kt.rest_bytes a.1 in
    let kg = signature-whole a.0.1 g.0.0 g.0.1 ka.rest_bytes g.1 in
    let last : a.0.1 ≡ tlv 3 (0 ∷ g.0.0) = alone a.0.1 (tlv 3 (0 ∷ g.0.0)) g.0.1 kg.whole e.1 in
    let all : contents ≡ tlv 48 t.0.0 ++ tlv 48 a.0.0.encoded ++ tlv 3 (0 ∷ g.0.0) =
    in-three contents (tlv 48 t.0.0) (tlv 48 a.0.0.encoded) (tlv 3 (0 ∷ g.0.0)) t.0.1 a.0.1 kt.whole ka.whole last in
    record {
      body = t.0.0;
      body_bytes = kt.value_bytes;
      body_fits = kt.fits;
      tbs_is = sym (ap (λ (z : Certificate). z.tbs) e.0);
      signed_is = s.1 ∙ ap (λ (z : Certificate). Ok z.signed) e.0;
      whole = all ∙ ap (λ (z : Certificate). z.tbs ++ tlv 48 z.algorithm ++ tlv 3 (0 ∷ z.signature)) e.0;
    }

pub record ReadFacts (bytes : List ℕ) (c : Certificate) : Type 0 where
  pub contents : List ℕ
  pub facts : CertificateFacts contents c
  pub whole : bytes ≡ tlv 48 contents

pub read-facts : (bytes : List ℕ) (c : Certificate) → IsBytes bytes → certificate_of bytes ≡ Ok c → ReadFacts bytes c
unfolding certificate_of
read-facts bytes c fits h =
    let o = bind_reads (contents_at 48 bytes) _ c h in
    let p = bind_reads (parts_of o.0.0) _ c o.2 in
    let e = ends-so p.0 o.0.1 c p.2 in
    let k = contents-whole 48 bytes o.0.0 o.0.1 fits o.1 in
    record {
      contents = o.0.0;
      facts = subst (λ (z : Certificate). CertificateFacts o.0.0 z) e.0 (parts-facts o.0.0 p.0 k.value_bytes p.1);
      whole = alone bytes (tlv 48 o.0.0) o.0.1 k.whole e.1;
    }

-- ---- the laws

pub is-its-parts : (bytes : List ℕ) (c : Certificate) → IsBytes bytes → certificate_of bytes ≡ Ok c → bytes ≡ tlv 48 (c.tbs ++ tlv 48 c.algorithm ++ tlv 3 (0 ∷ c.signature))
is-its-parts bytes c fits h = let r = read-facts bytes c fits h in r.whole ∙ ap (tlv 48) r.facts.whole

pub record ExtensionFacts (c : Certificate) (list : List ℕ) : Type 0 where
  pub whole : c.tbs ≡ tlv 48 (c.signed.tail.front ++ tlv 163 (tlv 48 list))
  pub fits : length (c.signed.tail.front ++ tlv 163 (tlv 48 list)) < 268435456
  pub list_facts : ListFacts (tlv 163 (tlv 48 list)) list

pub extension-facts : (bytes : List ℕ) (c : Certificate) (list : List ℕ) → IsBytes bytes → certificate_of bytes ≡ Ok c → c.signed.tail.extensions ≡ some_list list → ExtensionFacts c list
extension-facts bytes c list fits h some =
    let r = read-facts bytes c fits h in
    let t = signed-facts r.facts.body list c.signed r.facts.body_bytes r.facts.signed_is some in
    record {
      whole = r.facts.tbs_is ∙ ap (tlv 48) t.whole;
      fits = subst (λ (z : List ℕ). length z < 268435456) t.whole r.facts.body_fits;
      list_facts = t.list_facts;
    }

-- ---- keys

bits-of : (contents : List ℕ) (bits : ℕ × List ℕ) → bits_of contents ≡ Ok bits → contents ≡ bits.0 ∷ bits.1
bits-of [] bits b = absurd cc
bits-of (u ∷ more) bits b =
    let p = passes (is_bit_string (u ∷ more)) (Der der.Value) (Ok (u, more)) bits b in
    ap (λ (z : ℕ × List ℕ). z.0 ∷ z.1) (reading_is (u, more) bits p.1)

spki-whole : (contents : List ℕ) (s : Spki) → IsBytes contents → spki_of contents ≡ Ok s → contents ≡ tlv 48 s.algorithm.encoded ++ tlv 3 (s.unused_bits ∷ s.key)
unfolding spki_of bits_at
spki-whole contents s fits h =
    let a = bind_reads (algorithm_at contents) _ s h in
    let b = bind_reads (bits_at a.0.1) _ s a.2 in
    let e = ends-so (record { algorithm = a.0.0; unused_bits = b.0.0.0; key = b.0.0.1 }) b.0.1 s b.2 in
    let ka = algorithm-whole contents a.0.0 a.0.1 fits a.1 in
    let i = inner-so 3 a.0.1 bits_of b.0.0 b.0.1 b.1 in
    let kb = contents-whole 3 a.0.1 i.contents b.0.1 ka.rest_bytes i.read in
    let last : a.0.1 ≡ tlv 3 (b.0.0.0 ∷ b.0.0.1) = alone a.0.1 (tlv 3 i.contents) b.0.1 kb.whole e.1 ∙ ap (tlv 3) (bits-of i.contents b.0.0 i.value) in
    in-two contents (tlv 48 a.0.0.encoded) (tlv 3 (b.0.0.0 ∷ b.0.0.1)) a.0.1 ka.whole last ∙ ap (λ (z : Spki). tlv 48 z.algorithm.encoded ++ tlv 3 (z.unused_bits ∷ z.key)) e.0

pub key-is-its-parts : (bytes : List ℕ) (s : Spki) → IsBytes bytes → spki_view_of bytes ≡ Ok s → bytes ≡ tlv 48 (tlv 48 s.algorithm.encoded ++ tlv 3 (s.unused_bits ∷ s.key))
unfolding spki_view_of spki_at
key-is-its-parts bytes s fits h =
    let o = bind_reads (spki_at bytes) _ s h in
    let e = ends-so o.0.0 o.0.1 s o.2 in
    let i = inner-so 48 bytes spki_of o.0.0 o.0.1 o.1 in
    let k = contents-whole 48 bytes i.contents o.0.1 fits i.read in
    let whole : bytes ≡ tlv 48 i.contents = alone bytes (tlv 48 i.contents) o.0.1 k.whole e.1 in
    whole ∙ ap (tlv 48) (spki-whole i.contents o.0.0 k.value_bytes i.value) ∙ ap (λ (z : Spki). tlv 48 (tlv 48 z.algorithm.encoded ++ tlv 3 (z.unused_bits ∷ z.key))) e.0
