-- Types as one term each: a grammar with its laws, made of those of its parts. Each premise is a test that
-- computes, so that `refl` meets it.
use Rattle.std.specs.Prelude.{◌≡◌, ℕ, ◌⊎◌, Bool, true, false, not, List, [], ◌∷◌, ◌++◌, Option, Some, None, Ok, ◌==◌}
use Rattle.std.specs.Prelude.{◌&&◌, ◌||◌, if◌then◌else◌}
use Rattle.std.specs.Str.{bytes_eq}
use Rattle.std.proofs.Common.{refl, sym, subst, cond, eqb, inl, inr}
use Rattle.std.proofs.lemmas.Bool.{eqb-true}
use Rattle.std.proofs.lemmas.Slice.Eq.{bytes_eq-Decides}
use Rattle.der_grammar.specs.Tlv.{IsTag}
use Rattle.der_grammar.specs.Grammar.{Grammar, Fields, primitive, implicit, sequence, one, optional, both}
use Rattle.der_grammar.specs.Grammar.{mapped_fields, mapped, refined, defaulted}
use Rattle.der_grammar.specs.Choices.{is_tag, explicit, either, either-lawful, any, any-lawful}
use Rattle.der_grammar.specs.Outcome.{Outcome}
use Rattle.der_grammar.specs.Many.{sequence_of}
use Rattle.der_grammar.specs.Sets.{set_of}
use Rattle.der_grammar.specs.Law.{IsLawful, AreLawful}
use Rattle.der_grammar.specs.Laws.{primitive-lawful, implicit-lawful, sequence-lawful, one-lawful, optional-lawful}
use Rattle.der_grammar.specs.Laws.{both-lawful, mapped_fields-lawful, mapped-lawful, refined-lawful}
use Rattle.der_grammar.specs.Laws.{defaulted-lawful}
use Rattle.der_grammar.specs.ManyLaws.{sequence_of-lawful}
use Rattle.der_grammar.specs.SetLaws.{set_of-lawful}

-- tags: these, or every one where there is no list
abbrev pub Tags : Type 0
Tags = Option (List ℕ)

abbrev pub is_in : ℕ → List ℕ → Bool
is_in t [] = false
is_in t (u ∷ us) = (t == u) || is_in t us

abbrev pub IsIn : ℕ → Tags → Type 0
IsIn t None = Unit {0}
IsIn t (Some us) = is_in t us ≡ true

abbrev pub are_apart : List ℕ → List ℕ → Bool
are_apart [] us = true
are_apart (t ∷ ts) us = not (is_in t us) && are_apart ts us

abbrev pub apart : Tags → Tags → Bool
apart None None = false
apart None (Some []) = true
apart None (Some (u ∷ us)) = false
apart (Some ts) None = false
apart (Some ts) (Some us) = are_apart ts us

abbrev pub joined : Tags → Tags → Tags
joined None us = None
joined (Some ts) None = None
joined (Some ts) (Some us) = Some (ts ++ us)

-- a type: its grammar, with its laws and the tags that its values may have
pub record AsnType (A : Type 0) : Type 1 where
  pub grammar : Grammar A
  pub lawful : IsLawful grammar
  pub tags : Tags
  pub tagged : (t : ℕ) → grammar.accepts t ≡ true → IsIn t tags

-- the same of members
pub record Components (A : Type 0) : Type 1 where
  pub fields : Fields A
  pub lawful : AreLawful fields
  pub first : Tags
  pub stops : Tags
  pub begins_so : (t : ℕ) → fields.first t ≡ true → IsIn t first
  pub stops_so : (t : ℕ) → fields.stops t ≡ true → IsIn t stops

-- ---- lemmas

or_left : (a b : Bool) → a ≡ true → (a || b) ≡ true
or_left true b e = refl
or_left false b e = absurd cc

or_right : (a b : Bool) → b ≡ true → (a || b) ≡ true
or_right true b e = refl
or_right false b e = e

or_cases : (a b : Bool) → (a || b) ≡ true → (a ≡ true) ⊎ (b ≡ true)
or_cases true b e = inl refl
or_cases false b e = inr e

and_cases : (a b : Bool) → (a && b) ≡ true → (a ≡ true) × (b ≡ true)
and_cases true b e = (refl, e)
and_cases false b e = absurd cc

not_true : (a : Bool) → not a ≡ true → a ≡ true → ⊥
not_true true e f = absurd cc
not_true false e f = absurd cc

no_member : (t : ℕ) (ts us : List ℕ) → are_apart ts us ≡ true → is_in t ts ≡ true → is_in t us ≡ true → ⊥
no_member t [] us e f g = absurd cc
no_member t (u ∷ ts) us e f g =
    let p = and_cases (not (is_in u us)) (are_apart ts us) e in
    elim (or_cases (eqb t u) (is_in t ts) f) [
      | inl same ↦ not_true (is_in u us) p.0 (subst (λ (z : ℕ). is_in z us ≡ true) (eqb-true t u same) g)
      | inr later ↦ no_member t ts us p.1 later g
    ]

pub none_of_both : (t : ℕ) (x y : Tags) → apart x y ≡ true → IsIn t x → IsIn t y → ⊥
none_of_both t None None e f g = absurd cc
none_of_both t None (Some []) e f g = absurd cc
none_of_both t None (Some (u ∷ us)) e f g = absurd cc
none_of_both t (Some ts) None e f g = absurd cc
none_of_both t (Some ts) (Some us) e f g = no_member t ts us e f g

pub false_if_not : (b : Bool) → (b ≡ true → ⊥) → b ≡ false
false_if_not true h = absurd (h refl)
false_if_not false h = refl

in_append_left : (t : ℕ) (ts us : List ℕ) → is_in t ts ≡ true → is_in t (ts ++ us) ≡ true
in_append_left t [] us e = absurd cc
in_append_left t (u ∷ ts) us e =
    elim (or_cases (eqb t u) (is_in t ts) e) [ inl p ↦ or_left (eqb t u) _ p | inr p ↦ or_right (eqb t u) _ (in_append_left t ts us p) ]

in_append_right : (t : ℕ) (ts us : List ℕ) → is_in t us ≡ true → is_in t (ts ++ us) ≡ true
in_append_right t [] us e = e
in_append_right t (u ∷ ts) us e = or_right (eqb t u) _ (in_append_right t ts us e)

in_left : (t : ℕ) (x y : Tags) → IsIn t x → IsIn t (joined x y)
in_left t None y h = tt
in_left t (Some ts) None h = tt
in_left t (Some ts) (Some us) h = in_append_left t ts us h

in_right : (t : ℕ) (x y : Tags) → IsIn t y → IsIn t (joined x y)
in_right t None y h = tt
in_right t (Some ts) None h = tt
in_right t (Some ts) (Some us) h = in_append_right t ts us h

pub valid : (t : ℕ) → is_tag t ≡ true → IsTag t
valid t e = any-lawful.tags t e

pub just_one : (t tag : ℕ) → eqb t tag ≡ true → is_in t (tag ∷ []) ≡ true
just_one t tag e = or_left (eqb t tag) false e

pub may_join : (t : ℕ) (a b c : Bool) (x y : Tags) → (a ≡ true → IsIn t x) → (c ≡ true → IsIn t y)
    → (a || (b && c)) ≡ true → IsIn t (cond b (joined x y) x)
may_join t a true c x y f g e = elim (or_cases a c e) [ inl p ↦ in_left t x y (f p) | inr p ↦ in_right t x y (g p) ]
may_join t a false c x y f g e = elim (or_cases a false e) [ inl p ↦ f p | inr p ↦ absurd cc ]

pub either_tag : (t : ℕ) (a b : Bool) (x y : Tags) → (a ≡ true → IsIn t x) → (b ≡ true → IsIn t y) → (a || b) ≡ true → IsIn t (joined x y)
either_tag t a b x y f g e = elim (or_cases a b e) [ inl p ↦ in_left t x y (f p) | inr p ↦ in_right t x y (g p) ]

pub nothing_stops : (t : ℕ) → false ≡ true → is_in t [] ≡ true
nothing_stops t e = e

-- ---- types

abbrev pub primitive_type : (tag : ℕ) (test : List ℕ → Bool) → is_tag tag ≡ true → AsnType (List ℕ)
primitive_type tag test ok =
    record {
      grammar = primitive tag test;
      lawful = primitive-lawful tag test (valid tag ok);
      tags = Some (tag ∷ []);
      tagged = λ t e. just_one t tag e;
    }

abbrev pub any_type : AsnType (ℕ × List ℕ)
any_type = record { grammar = any; lawful = any-lawful; tags = None; tagged = λ t e. tt }

abbrev pub sequence_type : {A : Type 0} → Components A → AsnType A
sequence_type r =
    record {
      grammar = sequence 48 r.fields;
      lawful = sequence-lawful 48 r.fields (valid 48 refl) r.lawful;
      tags = Some (48 ∷ []);
      tagged = λ t e. just_one t 48 e;
    }

abbrev pub set_of_type : {A : Type 0} → AsnType A → AsnType (List A)
set_of_type k =
    record { grammar = set_of k.grammar; lawful = set_of-lawful k.grammar k.lawful; tags = Some (49 ∷ []); tagged = λ t e. just_one t 49 e }

abbrev pub sequence_of_type : {A : Type 0} → AsnType A → AsnType (List A)
sequence_of_type k =
    record {
      grammar = sequence_of k.grammar;
      lawful = sequence_of-lawful k.grammar k.lawful;
      tags = Some (48 ∷ []);
      tagged = λ t e. just_one t 48 e;
    }

-- values seen as others, where a partial map gives one
abbrev pub refined_type : {A B : Type 0} (to : A → Outcome B) (back : B → A) (k : AsnType A)
    → ((a : A) (b : B) → to a ≡ Ok b → back b ≡ a) → ((b other : B) → to (back b) ≡ Ok other → other ≡ b) → AsnType B
refined_type to back k again fixed =
    record {
      grammar = refined to back k.grammar;
      lawful = refined-lawful to back k.grammar again fixed k.lawful;
      tags = k.tags;
      tagged = k.tagged;
    }

abbrev pub implicit_type : {A : Type 0} (tag own : ℕ) (k : AsnType A) → is_tag tag ≡ true → k.grammar.accepts own ≡ true
    → ((a : A) → k.grammar.tag a ≡ own) → AsnType A
implicit_type tag own k ok accepted fixed =
    record {
      grammar = implicit tag own k.grammar;
      lawful = implicit-lawful tag own k.grammar (valid tag ok) fixed accepted k.lawful;
      tags = Some (tag ∷ []);
      tagged =
          λ t e. just_one t tag e;
    }

abbrev pub explicit_type : {A : Type 0} (tag : ℕ) (k : AsnType A) → is_tag tag ≡ true → AsnType A
explicit_type tag k ok =
    record {
      grammar = explicit tag k.grammar;
      lawful = sequence-lawful tag (one k.grammar) (valid tag ok) (one-lawful k.grammar k.lawful);
      tags =
          Some (tag ∷ []);
      tagged = λ t e. just_one t tag e;
    }

abbrev pub required_component : {A : Type 0} → AsnType A → Components A
required_component k =
    record {
      fields = one k.grammar;
      lawful = one-lawful k.grammar k.lawful;
      first = k.tags;
      stops = Some [];
      begins_so = k.tagged;
      stops_so = λ t e. nothing_stops t e;
    }

abbrev pub optional_component : {A : Type 0} → AsnType A → Components (Option A)
optional_component k =
    record {
      fields = optional k.grammar;
      lawful = optional-lawful k.grammar k.lawful;
      first = k.tags;
      stops = k.tags;
      begins_so = k.tagged;
      stops_so = k.tagged;
    }

-- the default is the one value that passes the test
abbrev pub default_component : {A : Type 0} (is_default : A → Bool) (d : A) (k : AsnType A) → is_default d ≡ true
    → ((a : A) → is_default a ≡ true → a ≡ d) → Components A
default_component is_default d k tested only_one =
    record {
      fields = defaulted is_default d k.grammar;
      lawful = defaulted-lawful is_default d k.grammar tested only_one k.lawful;
      first = k.tags;
      stops =
          k.tags;
      begins_so = k.tagged;
      stops_so = k.tagged;
    }

-- the same of values that are octets
abbrev pub octets_by_default : List ℕ → AsnType (List ℕ) → Components (List ℕ)
octets_by_default d k = default_component (bytes_eq d) d k ((bytes_eq-Decides d d).1 refl) (λ a e. sym ((bytes_eq-Decides d a).0 e))

abbrev pub followed_by : {A B : Type 0} (f : Components A) (g : Components B) → apart g.first f.stops ≡ true → Components (A × B)
followed_by f g ok = record {
  fields = both f.fields g.fields;
  lawful =
      both-lawful f.fields g.fields f.lawful g.lawful
      (λ t e. false_if_not (f.fields.stops t) (λ s. none_of_both t g.first f.stops ok (g.begins_so t e) (f.stops_so t s)));
  first = if f.fields.may_be_empty then joined f.first g.first else f.first;
  stops = if g.fields.may_be_empty then joined g.stops f.stops else g.stops;
  begins_so =
      λ t e. may_join t (f.fields.first t) f.fields.may_be_empty (g.fields.first t) f.first g.first (f.begins_so t) (g.begins_so t) e;
  stops_so = λ t e. may_join t (g.fields.stops t) g.fields.may_be_empty (f.fields.stops t) g.stops f.stops (g.stops_so t) (f.stops_so t) e;
}

abbrev pub components_as : {A B : Type 0} (to : A → B) (back : B → A) (r : Components A) → ((a : A) → back (to a) ≡ a)
    → ((b : B) → to (back b) ≡ b) → Components B
components_as to back r there again =
    record {
      fields = mapped_fields to back r.fields;
      lawful = mapped_fields-lawful to back r.fields there again r.lawful;
      first = r.first;
      stops = r.stops;
      begins_so =
          r.begins_so;
      stops_so = r.stops_so;
    }

abbrev pub choice_type : {A B C : Type 0} (to : A ⊎ B → C) (back : C → A ⊎ B) (k : AsnType A) (l : AsnType B)
    → apart l.tags k.tags ≡ true → ((x : A ⊎ B) → back (to x) ≡ x) → ((c : C) → to (back c) ≡ c) → AsnType C
choice_type to back k l ok there again = record {
  grammar = mapped to back (either k.grammar l.grammar);
  lawful =
      mapped-lawful to back _ there again
      (either-lawful k.grammar l.grammar k.lawful l.lawful
      (λ t e. false_if_not (k.grammar.accepts t) (λ s. none_of_both t l.tags k.tags ok (l.tagged t e) (k.tagged t s))));
  tags = joined k.tags l.tags;
  tagged = λ t e. either_tag t (k.grammar.accepts t) (l.grammar.accepts t) k.tags l.tags (k.tagged t) (l.tagged t) e;
}
