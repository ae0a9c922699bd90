-- RSA public keys (RFC 8017, A.1.1), as parts of their bytes.
use Rattle.std.specs.Prelude.{ℕ, ◌+◌, ◌-◌, ◌*◌, List, [], ◌∷◌, ◌==◌, length, min, ◌^◌, if◌then◌else◌}
use Rattle.std.specs.Int.{leading_zeros, w8}
use Rattle.foundation.specs.Steps.{◌>>=◌}
use Rattle.der_grammar.specs.Tags.{sequence_tag}
use Rattle.spki_core.specs.declared.rsa.RsaKeyView.{RsaKeyView}
use Rattle.spki_core.specs.Reading.{Reading, contents_at, uint_at, at_end}

-- RSAPublicKey ::= SEQUENCE { modulus INTEGER, publicExponent INTEGER }, both from 0 on, as their contents
pub record RsaKey : Type 0 where
  pub modulus : List ℕ
  pub exponent : List ℕ

unfoldable pub rsa_parts_of : List ℕ → Reading RsaKey
rsa_parts_of contents = do
  modulus ← uint_at contents
  exponent ← uint_at modulus.1
  at_end (record { modulus = modulus.0; exponent = exponent.0 }) exponent.1

-- the key that all the bytes encode, or the first refusal in reading order
unfoldable pub rsa_key_of : List ℕ → Reading RsaKey
rsa_key_of bytes = do
  contents ← contents_at sequence_tag bytes
  key ← rsa_parts_of contents.0
  at_end key contents.1

abbrev pub rsa_key_parts : RsaKeyView → RsaKey
rsa_key_parts key = record { modulus = key.modulus.now; exponent = key.exponent.now }

-- the number of bits of a number's octets, the most significant first, without leading zeros
abbrev pub bit_length : List ℕ → ℕ
bit_length [] = 0
bit_length (a ∷ more) = if a == 0 then bit_length more else 8 * length more + (8 - leading_zeros w8 a)

-- at most the greatest number of 64 bits
abbrev pub counted : ℕ → ℕ
counted n = min n (2 ^ 64 - 1)
