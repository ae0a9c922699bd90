-- Digests that are written in one text are one.
use Rattle.std.proofs.Common.{◌≡◌, ℕ, zero, suc, List, [], ◌∷◌, ◌++◌, slice_index, sym, ap, ◌∙◌, arith}
use Rattle.std.specs.Int.{w32, to_be_bytes}
use Rattle.foundation.specs.Results.{ok_same}
use Rattle.hex.specs.Hex.{encode_lower, decode_of, IsBytes}
use Rattle.hex.proofs.HexLemmas.{decode_of-encode_lower}
use Rattle.sha2.specs.Sha256.{sha256, digest_bytes, final_hash, initial_hash_256}

joined : (a b : List ℕ) → IsBytes a → IsBytes b → IsBytes (a ++ b)
joined [] b p q i = q i
joined (x ∷ a) b p q zero = p 0
joined (x ∷ a) b p q (suc i) = joined a b (λ k. p (suc k)) q i

word_octets : (n : ℕ) → IsBytes (to_be_bytes w32 n)
word_octets n zero = omega arith
word_octets n (suc zero) = omega arith
word_octets n (suc (suc zero)) = omega arith
word_octets n (suc (suc (suc zero))) = omega arith
word_octets n (suc (suc (suc (suc i)))) = omega arith

digest_octets : (h : List ℕ) (n : ℕ) → IsBytes (digest_bytes h n)
unfolding digest_bytes
digest_octets h zero i = omega arith
digest_octets h (suc n) i = joined (digest_bytes h n) (to_be_bytes w32 (slice_index h n)) (digest_octets h n) (word_octets (slice_index h n)) i

sha256_octets : (m : List ℕ) → IsBytes (sha256 m)
unfolding sha256
sha256_octets m = digest_octets (final_hash initial_hash_256 m) 8

pub one_text : (m n : List ℕ) → encode_lower (sha256 m) ≡ encode_lower (sha256 n) → sha256 m ≡ sha256 n
one_text m n e =
    ok_same (sha256 m) (sha256 n)
    (sym (decode_of-encode_lower (sha256 m) (sha256_octets m)) ∙ (ap decode_of e ∙ decode_of-encode_lower (sha256 n) (sha256_octets n)))
