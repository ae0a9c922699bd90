-- A signing time is short, so that its attribute can be written.
use Rattle.std.proofs.Common.{◌≡◌, ℕ, ◌<◌, true, ltb, eqb, List, [], ◌∷◌, length, Ok, refl, ap, arith}
use Rattle.std.specs.Prelude.{ℤ, is_ok}
use Rattle.std.proofs.lemmas.Bool.{lt-ltb, eqb-true}
use Rattle.der_grammar.specs.declared.error.DerError.TheVariants.{Value}
use Rattle.der_grammar.specs.Choices.{is_tag}
use Rattle.der_grammar.specs.Grammar.{Grammar, framed, write}
use Rattle.der_grammar.specs.Sets.{keyed, set_from}
use Rattle.der_grammar.specs.Tlv.{tlv}
use Rattle.der_grammar.specs.TlvLaws.{passed}
use Rattle.der_core.specs.declared.civil.Civil.{Civil}
use Rattle.der_core.specs.Times.{utc_of, generalized_of}
use Rattle.x509_core.specs.declared.attribute.Attribute.{Attribute}
use Rattle.x509_core.specs.declared.time.Time.{Time}
use Rattle.x509_core.specs.declared.time.Time.TheVariants.{Utc, General}
use Rattle.x509_core.specs.Types.{time_type}
use Rattle.cms_parts.specs.Values.{any_from}
use Rattle.cms.specs.Attributes.{attribute_of, IsSigningTime}

utc_length : (bytes : List ℕ) (c : Civil) → utc_of bytes ≡ Ok c → length bytes ≡ 13
unfolding utc_of
utc_length bytes c e = eqb-true (length bytes) 13 (passed (eqb (length bytes) 13) Value _ c e).0

generalized_length : (bytes : List ℕ) (c : Civil) → generalized_of bytes ≡ Ok c → length bytes ≡ 15
unfolding generalized_of
generalized_length bytes c e = eqb-true (length bytes) 15 (passed (eqb (length bytes) 15) Value _ c e).0

short : (tag : ℕ) (c : List ℕ) → length c < 268435456 → framed tag c ≡ Ok (tlv tag c)
short tag c fits = let t : ltb (length c) 268435456 ≡ true = lt-ltb _ _ fits in rw t refl

abbrev with_value : List ℕ → ℕ × List ℕ → Attribute
with_value oid value = record { oid = oid; values = value ∷ [] }

attribute_there : {A : Type 0} (g : Grammar A) (oid : List ℕ) (a : A) (c encoding : List ℕ) → g.contents a ≡ Ok c
    → framed (g.tag a) c ≡ Ok encoding → is_tag (g.tag a) ≡ true → attribute_of g oid a ≡ Ok (with_value oid (g.tag a, c))
unfolding attribute_of any_from set_from keyed write
attribute_there g oid a c encoding e f tagged = rw e (rw f (rw tagged (rw f refl)))

pub time_there : (oid : List ℕ) (instant : ℤ) (t : Time) → IsSigningTime instant t
    → (a : Attribute) × (attribute_of time_type.grammar oid t ≡ Ok a)
time_there oid instant (Utc t) h =
    let reads : is_ok (utc_of t) ≡ true = ap is_ok h.1 in
    let is = utc_length t h.0 h.1 in (
      with_value oid (23, t),
      attribute_there time_type.grammar oid (Utc t) t (tlv 23 t) (rw reads refl) (short 23 t (omega (arith, is))) refl,
    )
time_there oid instant (General t) h =
    let reads : is_ok (generalized_of t) ≡ true = ap is_ok h.0.1 in
    let is = generalized_length t h.0.0 h.0.1 in (
      with_value oid (24, t),
      attribute_there time_type.grammar oid (General t) t (tlv 24 t) (rw reads refl) (short 24 t (omega (arith, is))) refl,
    )
