-- Algorithm identifiers and keys (RFC 5280, 4.1.1.2 and 4.1.2.7), as parts of their bytes.
use Rattle.std.specs.Prelude.{ℕ, List, Option, Ok}
use Rattle.foundation.specs.Steps.{◌>>=◌}
use Rattle.spki_core.specs.Reading.{Reading, contents_at, oid_at, any_at, bits_at, at_end}
use Rattle.der_grammar.specs.Tags.{sequence_tag}

-- AlgorithmIdentifier ::= SEQUENCE { algorithm OBJECT IDENTIFIER, parameters ANY OPTIONAL }
pub record Algorithm : Type 0 where
  -- the contents of the SEQUENCE
  pub encoded : List ℕ
  pub oid : List ℕ
  -- the parameters as they are encoded
  pub parameters : Option (List ℕ)

unfoldable pub algorithm_of : List ℕ → Reading Algorithm
algorithm_of contents = do
  oid ← oid_at contents
  parameters ← any_at oid.1
  at_end (record { encoded = contents; oid = oid.0; parameters = parameters.0 }) parameters.1

unfoldable pub algorithm_at : List ℕ → Reading (Algorithm × List ℕ)
algorithm_at bytes = do
  contents ← contents_at sequence_tag bytes
  algorithm ← algorithm_of contents.0
  Ok (algorithm, contents.1)

-- SubjectPublicKeyInfo ::= SEQUENCE { algorithm AlgorithmIdentifier, subjectPublicKey BIT STRING }
pub record Spki : Type 0 where
  pub algorithm : Algorithm
  pub unused_bits : ℕ
  pub key : List ℕ

unfoldable pub spki_of : List ℕ → Reading Spki
spki_of contents = do
  algorithm ← algorithm_at contents
  bits ← bits_at algorithm.1
  at_end (record { algorithm = algorithm.0; unused_bits = bits.0.0; key = bits.0.1 }) bits.1

unfoldable pub spki_at : List ℕ → Reading (Spki × List ℕ)
spki_at bytes = do
  contents ← contents_at sequence_tag bytes
  spki ← spki_of contents.0
  Ok (spki, contents.1)

-- the parts of a key that all the bytes encode, or the first refusal in reading order
unfoldable pub spki_view_of : List ℕ → Reading Spki
spki_view_of bytes = do
  spki ← spki_at bytes
  at_end spki.0 spki.1
