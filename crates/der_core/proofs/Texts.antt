-- Tests of texts.
use Rattle.std.proofs.Common.{◌≡◌, ℕ, Bool, true, false, List, Result, Ok, Err, refl, sym}
use Rattle.std.specs.Prelude.{MatchResult, is_ok}
use Rattle.std.specs.Str.{IsUtf8, is_utf8}
use Rattle.std.proofs.lemmas.Str.{IsUtf8-from_is_utf8, is_utf8-from_IsUtf8}

not_so : (bs : List ℕ) (b : Bool) → is_utf8 bs ≡ b → (IsUtf8 bs → ⊥) → false ≡ b
not_so bs true e h = absurd (h (IsUtf8-from_is_utf8 bs e))
not_so bs false e h = refl

pub utf8_answer : {S E : Type 0} (bs : List ℕ) (r : Result S E) (P : S → Type 0) (Q : E → Type 0) → MatchResult r (λ s. P s × IsUtf8 bs) (λ e. (IsUtf8 bs → ⊥) × Q e) → is_ok r ≡ is_utf8 bs
utf8_answer bs (Ok s) P Q h = sym (is_utf8-from_IsUtf8 bs h.1)
utf8_answer bs (Err e) P Q h = not_so bs (is_utf8 bs) refl h.0
