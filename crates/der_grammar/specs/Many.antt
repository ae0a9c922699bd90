-- Values one after the other: SEQUENCE OF (X.690, 8.10).
use Rattle.std.specs.Prelude.{◌≡◌, ℕ, zero, suc, true, List, [], ◌∷◌, ◌++◌, length, Ok, Err}
use Rattle.foundation.specs.Steps.{◌>>=◌}
use Rattle.der_grammar.specs.declared.error.DerError.TheVariants.{Truncated}
use Rattle.der_grammar.specs.Outcome.{Outcome}
use Rattle.der_grammar.specs.Grammar.{Grammar, Fields, Encodes, read, write, sequence}

-- a text with P, and behind it one with Q
pub record IsConcat (text : List ℕ) (P Q : List ℕ → Type 0) : Type 0 where
  pub front : List ℕ
  pub back : List ℕ
  pub whole : text ≡ front ++ back
  pub first : P front
  pub others : Q back

-- the encodings of the members, one after the other
abbrev pub EachEncoded : {A : Type 0} → Grammar A → List A → List ℕ → Type 0
EachEncoded g [] text = text ≡ []
EachEncoded g (x ∷ xs) text = IsConcat text (Encodes g x) (EachEncoded g xs)

-- at most n values, up to the end
unfoldable pub many_at : {A : Type 0} → ℕ → Grammar A → List ℕ → Outcome (List A)
many_at n g [] = Ok []
many_at zero g (b ∷ bytes) = Err Truncated
many_at (suc n) g (b ∷ bytes) = read g (b ∷ bytes) >>= λ x. many_at n g x.1 >>= λ xs. Ok (x.0 ∷ xs)

-- the values up to the end, of which there are no more than bytes
unfoldable pub many_of : {A : Type 0} → Grammar A → List ℕ → Outcome (List A)
many_of g bytes = many_at (length bytes) g bytes

unfoldable pub write_each : {A : Type 0} → Grammar A → List A → Outcome (List ℕ)
write_each g [] = Ok []
write_each g (x ∷ xs) = write g x >>= λ a. write_each g xs >>= λ b. Ok (a ++ b)

abbrev pub many : {A : Type 0} → Grammar A → Fields (List A)
many g = record {
  IsEncoded = EachEncoded g;
  value_at = λ bytes. many_of g bytes >>= λ xs. Ok (xs, []);
  text = write_each g;
  first = g.accepts;
  may_be_empty = true;
  stops = λ t. true;
  plain = g.plain;
}

abbrev pub sequence_of : {A : Type 0} → Grammar A → Grammar (List A)
sequence_of g = sequence 48 (many g)
