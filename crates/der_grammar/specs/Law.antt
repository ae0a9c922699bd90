-- The laws of grammars.
use Rattle.std.specs.Prelude.{◌≡◌, ℕ, ◌⊎◌, true, false, List, [], ◌++◌, length, Ok}
use Rattle.der_grammar.specs.Tlv.{IsTag, IsBytes}
use Rattle.der_grammar.specs.Outcome.{Outcome}
use Rattle.der_grammar.specs.Grammar.{Grammar, Fields, begins}

-- the value can be written, in as many bytes
abbrev pub WritesAs : Outcome (List ℕ) → List ℕ → Type 0
WritesAs outcome text = (written : List ℕ) × (outcome ≡ Ok written) × (length written ≡ length text)

pub record IsLawful {A : Type 0} (g : Grammar A) : Type 0 where
  pub tags : (t : ℕ) → g.accepts t ≡ true → IsTag t
  -- what is read is encoded so, and what is encoded so is read
  pub found : (t : ℕ) (c : List ℕ) (a : A) → g.accepts t ≡ true → IsBytes c → g.value t c ≡ Ok a → g.IsEncoded a t c
  pub only : (t : ℕ) (c : List ℕ) (a : A) → g.IsEncoded a t c → (g.accepts t ≡ true) × (g.value t c ≡ Ok a)
  -- what is written is encoded so, and what has an encoding can be written
  pub written : (a : A) (c : List ℕ) → g.contents a ≡ Ok c → g.IsEncoded a (g.tag a) c
  pub writes : (t : ℕ) (c : List ℕ) (a : A) → g.IsEncoded a t c → (g.tag a ≡ t) × WritesAs (g.contents a) c
  -- without sets there is one encoding, the one that is written
  pub same : (t : ℕ) (c : List ℕ) (a : A) → g.plain ≡ true → g.IsEncoded a t c → g.contents a ≡ Ok c

-- what was taken from the front
pub record IsTaken {A : Type 0} (f : Fields A) (bytes : List ℕ) (a : A) (rest : List ℕ) : Type 0 where
  pub text : List ℕ
  pub whole : bytes ≡ text ++ rest
  pub encoded : f.IsEncoded a text
  pub rest_bytes : IsBytes rest

pub record AreLawful {A : Type 0} (f : Fields A) : Type 0 where
  pub found : (bytes : List ℕ) (a : A) (rest : List ℕ) → IsBytes bytes → f.value_at bytes ≡ Ok (a, rest) → IsTaken f bytes a rest
  pub only : (a : A) (text rest : List ℕ) → f.IsEncoded a text → begins f.stops rest ≡ false → f.value_at (text ++ rest) ≡ Ok (a, rest)
  pub written : (a : A) (text : List ℕ) → f.text a ≡ Ok text → f.IsEncoded a text
  pub writes : (a : A) (text : List ℕ) → f.IsEncoded a text → WritesAs (f.text a) text
  pub same : (a : A) (text : List ℕ) → f.plain ≡ true → f.IsEncoded a text → f.text a ≡ Ok text
  pub front : (a : A) (text : List ℕ) → f.IsEncoded a text → ((text ≡ []) × (f.may_be_empty ≡ true)) ⊎ (begins f.first text ≡ true)
