-- What the values of a type look like in DER.
use Rattle.std.specs.Prelude.{◌≡◌, ℕ, ◌<◌, Bool, true, false, List, [], ◌∷◌, ◌++◌, length, Option, Some, None, Ok, Err}
use Rattle.std.specs.Prelude.{nat_lt, ◌==◌, ◌&&◌, ◌||◌, if◌then◌else◌}
use Rattle.std.specs.declared.cmp.Ordering.{Ordering}
use Rattle.std.specs.Ordering.{nat_cmp}
use Rattle.std.specs.Cmp.Lexicographic.{slice_cmp}
use Rattle.foundation.specs.Steps.{◌>>=◌}
use Rattle.der_grammar.specs.declared.error.DerError.TheVariants.{Tag, Trailing, TooLong, Value}
use Rattle.der_grammar.specs.Outcome.{Outcome}
use Rattle.der_grammar.specs.Tlv.{tlv, tlv_at}

-- a type whose values are one tag with its contents each
pub record Grammar (A : Type 0) : Type 1 where
  -- the tags that its values have
  pub accepts : ℕ → Bool
  -- this tag with these contents encodes the value, the members of its sets in any order
  pub IsEncoded : A → ℕ → List ℕ → Type 0
  -- the value of a tag and contents, or the first refusal
  pub value : ℕ → List ℕ → Outcome A
  -- the tag and the contents that are written, the members of sets in ascending order
  pub tag : A → ℕ
  pub contents : A → Outcome (List ℕ)
  -- whether no set is within
  pub plain : Bool

-- a part of the contents: one component or several
pub record Fields (A : Type 0) : Type 1 where
  pub IsEncoded : A → List ℕ → Type 0
  -- the value at the front and what follows, or the first refusal
  pub value_at : List ℕ → Outcome (A × List ℕ)
  pub text : A → Outcome (List ℕ)
  -- the tags that it may begin with, and whether it may be empty
  pub first : ℕ → Bool
  pub may_be_empty : Bool
  -- the tags that may not follow it, since a component that is left out at its end has them
  pub stops : ℕ → Bool
  pub plain : Bool

-- ---- one value

abbrev pub read_body : {A : Type 0} → Grammar A → (ℕ × List ℕ × List ℕ) → Outcome (A × List ℕ)
read_body g t = if g.accepts t.0 then (g.value t.0 t.1 >>= λ a. Ok (a, t.2)) else Err Tag

-- the value at the front, and what follows
unfoldable pub read : {A : Type 0} → Grammar A → List ℕ → Outcome (A × List ℕ)
read g bytes = tlv_at bytes >>= read_body g

abbrev pub ended : {A : Type 0} → A × List ℕ → Outcome A
ended x = if length x.1 == 0 then Ok x.0 else Err Trailing

-- the value of all the bytes
unfoldable pub read_all : {A : Type 0} → Grammar A → List ℕ → Outcome A
read_all g bytes = read g bytes >>= ended

-- a tag with contents of fewer than 2^28 bytes
abbrev pub framed : ℕ → List ℕ → Outcome (List ℕ)
framed tag contents = if nat_lt (length contents) 268435456 then Ok (tlv tag contents) else Err TooLong

-- the one encoding that is written
unfoldable pub write : {A : Type 0} → Grammar A → A → Outcome (List ℕ)
write g a = g.contents a >>= framed (g.tag a)

-- the order of the encodings, octet by octet (X.690, 11.6)
unfoldable pub order_of : {A : Type 0} → Grammar A → A → A → Outcome Ordering
order_of g a b = write g a >>= λ x. write g b >>= λ y. Ok (slice_cmp nat_cmp x y)

-- the bytes encode the value
pub record Encodes {A : Type 0} (g : Grammar A) (a : A) (bytes : List ℕ) : Type 0 where
  pub tag : ℕ
  pub contents : List ℕ
  pub fits : length contents < 268435456
  pub encoded : g.IsEncoded a tag contents
  pub whole : bytes ≡ tlv tag contents

-- what was written is behind what was there
abbrev pub Appended : Outcome (List ℕ) → List ℕ → List ℕ → Type 0
Appended outcome old new = (more : List ℕ) × (outcome ≡ Ok more) × (new ≡ old ++ more)

-- what was there is kept as the front
abbrev pub KeepsFront : List ℕ → List ℕ → Type 0
KeepsFront old new = (more : List ℕ) × (new ≡ old ++ more)

-- ---- grammars from grammars

-- a primitive type: the contents are the value, which meets a test
abbrev pub primitive : ℕ → (List ℕ → Bool) → Grammar (List ℕ)
primitive tag test = record {
  accepts = λ t. t == tag;
  IsEncoded = λ a t c. (t ≡ tag) × (test a ≡ true) × (c ≡ a);
  value = λ t c. if test c then Ok c else Err Value;
  tag = λ a. tag;
  contents = λ a. if test a then Ok a else Err Value;
  plain = true;
}

-- an implicit tag, in the place of the type's own (X.690, 8.14.3)
abbrev pub implicit : {A : Type 0} → ℕ → ℕ → Grammar A → Grammar A
implicit tag own g = record {
  accepts = λ t. t == tag;
  IsEncoded = λ a t c. (t ≡ tag) × g.IsEncoded a own c;
  value = λ t c. g.value own c;
  tag = λ a. tag;
  contents = g.contents;
  plain = g.plain;
}

-- these components, and no more, under a tag (X.690, 8.9)
abbrev pub sequence : {A : Type 0} → ℕ → Fields A → Grammar A
sequence tag f = record {
  accepts = λ t. t == tag;
  IsEncoded = λ a t c. (t ≡ tag) × f.IsEncoded a c;
  value = λ t c. f.value_at c >>= ended;
  tag = λ a. tag;
  contents = f.text;
  plain = f.plain;
}

-- values seen as others, one for one
abbrev pub mapped : {A B : Type 0} → (A → B) → (B → A) → Grammar A → Grammar B
mapped to back g = record {
  accepts = g.accepts;
  IsEncoded = λ b. g.IsEncoded (back b);
  value = λ t c. g.value t c >>= λ a. Ok (to a);
  tag = λ b. g.tag (back b);
  contents = λ b. g.contents (back b);
  plain = g.plain;
}

-- values seen as others, where a partial map gives one: ranges, enumerations, times
abbrev pub refined : {A B : Type 0} → (A → Outcome B) → (B → A) → Grammar A → Grammar B
refined to back g = record {
  accepts = g.accepts;
  IsEncoded = λ b t c. (to (back b) ≡ Ok b) × g.IsEncoded (back b) t c;
  value = λ t c. g.value t c >>= to;
  tag = λ b. g.tag (back b);
  contents = λ b. to (back b) >>= λ same. g.contents (back b);
  plain = g.plain;
}

-- ---- components

abbrev pub one : {A : Type 0} → Grammar A → Fields A
one g = record {
  IsEncoded = Encodes g;
  value_at = read g;
  text = write g;
  first = g.accepts;
  may_be_empty = false;
  stops = λ t. false;
  plain = g.plain;
}

-- whether the bytes begin with such a tag
abbrev pub begins : (ℕ → Bool) → List ℕ → Bool
begins test [] = false
begins test (t ∷ bytes) = test t

abbrev pub IsEncodedOption : {A : Type 0} → Grammar A → Option A → List ℕ → Type 0
IsEncodedOption g None bytes = bytes ≡ []
IsEncodedOption g (Some a) bytes = Encodes g a bytes

abbrev pub write_option : {A : Type 0} → Grammar A → Option A → Outcome (List ℕ)
write_option g None = Ok []
write_option g (Some a) = write g a

unfoldable pub read_option : {A : Type 0} → Grammar A → List ℕ → Outcome (Option A × List ℕ)
read_option g bytes = if begins g.accepts bytes then (read g bytes >>= λ x. Ok (Some x.0, x.1)) else Ok (None, bytes)

-- an OPTIONAL component (X.690, 8.9.3)
abbrev pub optional : {A : Type 0} → Grammar A → Fields (Option A)
optional g = record {
  IsEncoded = IsEncodedOption g;
  value_at = read_option g;
  text = write_option g;
  first = g.accepts;
  may_be_empty = true;
  stops = g.accepts;
  plain = g.plain;
}

-- two texts, one after the other
pub record AreEncoded {A B : Type 0} (f : Fields A) (g : Fields B) (x : A × B) (bytes : List ℕ) : Type 0 where
  pub front : List ℕ
  pub back : List ℕ
  pub whole : bytes ≡ front ++ back
  pub first : f.IsEncoded x.0 front
  pub second : g.IsEncoded x.1 back

abbrev pub both : {A B : Type 0} → Fields A → Fields B → Fields (A × B)
both f g = record {
  IsEncoded = AreEncoded f g;
  value_at = λ bytes. f.value_at bytes >>= λ x. g.value_at x.1 >>= λ y. Ok ((x.0, y.0), y.1);
  text = λ x. f.text x.0 >>= λ a. g.text x.1 >>= λ b. Ok (a ++ b);
  first = λ t. f.first t || (f.may_be_empty && g.first t);
  may_be_empty = f.may_be_empty && g.may_be_empty;
  stops = λ t. g.stops t || (g.may_be_empty && f.stops t);
  plain = f.plain && g.plain;
}

abbrev pub mapped_fields : {A B : Type 0} → (A → B) → (B → A) → Fields A → Fields B
mapped_fields to back f = record {
  IsEncoded = λ b. f.IsEncoded (back b);
  value_at = λ bytes. f.value_at bytes >>= λ x. Ok (to x.0, x.1);
  text = λ b. f.text (back b);
  first = f.first;
  may_be_empty = f.may_be_empty;
  stops = f.stops;
  plain = f.plain;
}

-- components of which some values aren't allowed, or that a partial map gives
abbrev pub refined_fields : {A B : Type 0} → (A → Outcome B) → (B → A) → Fields A → Fields B
refined_fields to back f = record {
  IsEncoded = λ b bytes. (to (back b) ≡ Ok b) × f.IsEncoded (back b) bytes;
  value_at = λ bytes. f.value_at bytes >>= λ x. to x.0 >>= λ b. Ok (b, x.1);
  text = λ b. to (back b) >>= λ same. f.text (back b);
  first = f.first;
  may_be_empty = f.may_be_empty;
  stops = f.stops;
  plain = f.plain;
}

-- ---- a component with a DEFAULT, which isn't written (X.690, 11.5)

-- the component as it is written: left out where it is the default
abbrev pub unless_default : {A : Type 0} → (A → Bool) → A → Option A
unless_default is_default a = if is_default a then None else Some a

-- the value of a component, refused where the default was written
abbrev pub or_default : {A : Type 0} → (A → Bool) → A → Option A → Outcome A
or_default is_default d None = Ok d
or_default is_default d (Some a) = if is_default a then Err Value else Ok a

abbrev pub defaulted : {A : Type 0} → (A → Bool) → A → Grammar A → Fields A
defaulted is_default d g = refined_fields (or_default is_default d) (unless_default is_default) (optional g)
