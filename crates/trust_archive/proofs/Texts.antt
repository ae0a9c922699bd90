-- Octets that are a text.
use Rattle.std.proofs.Common.{◌≡◌, ℕ, List, Bool, true, false, Ok, Err, refl, length}
use Rattle.std.specs.Str.{IsUtf8, is_utf8}
use Rattle.std.proofs.lemmas.Str.{IsUtf8-from_is_utf8, is_utf8-from_IsUtf8}
use Rattle.trust_archive.specs.declared.error.Unread.TheVariants.{Left}
use Rattle.trust_archive.specs.Grammar.{octets_at, utf8_at}

pub not_text : (bs : List ℕ) → (IsUtf8 bs → ⊥) → is_utf8 bs ≡ false
not_text bs isnt = by_test (is_utf8 bs) refl
  where
    by_test : (b : Bool) → is_utf8 bs ≡ b → is_utf8 bs ≡ false
    by_test true e = absurd (isnt (IsUtf8-from_is_utf8 bs e))
    by_test false e = e

pub utf8_ok : (n : ℕ) (bytes front rest text : List ℕ) → octets_at n bytes ≡ Ok (front, rest) → text ≡ front → IsUtf8 front → utf8_at n bytes ≡ Ok (text, rest)
unfolding utf8_at
utf8_ok n bytes front rest text is same u = rw (is, is_utf8-from_IsUtf8 front u, same) refl

pub utf8_not : (n : ℕ) (bytes front rest : List ℕ) → octets_at n bytes ≡ Ok (front, rest) → (IsUtf8 front → ⊥) → utf8_at n bytes ≡ Err (Left (length bytes))
unfolding utf8_at
utf8_not n bytes front rest is u = rw (is, not_text front u) refl
