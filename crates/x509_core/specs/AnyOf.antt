-- A value with one of some tags, kept as encoded.
use Rattle.std.specs.Prelude.{◌≡◌, ℕ, Bool, true, false, ◌&&◌, ◌||◌, List, [], ◌∷◌, length, Some, Ok, Err, if◌then◌else◌}
use Rattle.std.proofs.Common.{refl, sym, ap, subst, eqb}
use Rattle.std.proofs.lemmas.Bool.{eqb-true}
use Rattle.der_grammar.specs.declared.error.DerError.TheVariants.{Value}
use Rattle.der_grammar.specs.Tlv.{IsTag}
use Rattle.der_grammar.specs.Grammar.{Grammar}
use Rattle.der_grammar.specs.Law.{IsLawful}
use Rattle.der_grammar.specs.Choices.{is_tag}
use Rattle.der_grammar.specs.TlvLaws.{ok_is, passed}
use Rattle.der_grammar.specs.Types.{AsnType, is_in, valid}

abbrev pub any_of : List ℕ → Grammar (ℕ × List ℕ)
any_of tags = record {
  accepts = λ t. is_in t tags;
  IsEncoded = λ a t c. (is_in a.0 tags ≡ true) × (a.0 ≡ t) × (a.1 ≡ c);
  value = λ t c. Ok (t, c);
  tag = λ a. a.0;
  contents = λ a. if is_in a.0 tags then Ok a.1 else Err Value;
  plain = true;
}

both_so : (a b : Bool) → (a && b) ≡ true → (a ≡ true) × (b ≡ true)
both_so true b e = (refl, e)
both_so false b e = absurd cc

one_so : (a b : Bool) (P : Type 0) → (a ≡ true → P) → (b ≡ true → P) → (a || b) ≡ true → P
one_so true b P f g e = f refl
one_so false b P f g e = g e

abbrev pub are_tags : List ℕ → Bool
are_tags [] = true
are_tags (t ∷ ts) = is_tag t && are_tags ts

in_tags : (t : ℕ) (tags : List ℕ) → are_tags tags ≡ true → is_in t tags ≡ true → IsTag t
in_tags t [] ok e = absurd cc
in_tags t (u ∷ tags) ok e =
    let p = both_so (is_tag u) (are_tags tags) ok in
    one_so (eqb t u) (is_in t tags) (IsTag t)
    (λ same. valid t (subst (λ (z : ℕ). is_tag z ≡ true) (sym (eqb-true t u same)) p.0)) (λ later. in_tags t tags p.1 later) e

pub any_of-lawful : (tags : List ℕ) → are_tags tags ≡ true → IsLawful (any_of tags)
any_of-lawful tags ok = record {
  tags = λ t e. in_tags t tags ok e;
  found = λ t c a is fits e. let same = ok_is (t, c) a e in
      subst (λ (z : ℕ × List ℕ). (is_in z.0 tags ≡ true) × (z.0 ≡ t) × (z.1 ≡ c)) same (is, refl, refl);
  only = λ t c a s. let e0 = s.0 in let e1 = s.1 in let e2 = s.2 in (subst (λ (z : ℕ). is_in z tags ≡ true) e1 e0, rw (← e1, ← e2) refl);
  written = λ a c e. let p = passed (is_in a.0 tags) Value (Ok a.1) c e in (p.0, refl, ok_is a.1 c p.1);
  writes = λ t c a s. let e0 = s.0 in (s.1, (a.1, rw e0 refl, ap length s.2));
  same = λ t c a p s. let e0 = s.0 in rw e0 (ap (λ (z : List ℕ). Ok z) s.2);
}

abbrev pub any_of_type : (tags : List ℕ) → are_tags tags ≡ true → AsnType (ℕ × List ℕ)
any_of_type tags ok = record { grammar = any_of tags; lawful = any_of-lawful tags ok; tags = Some tags; tagged = λ t e. e }
