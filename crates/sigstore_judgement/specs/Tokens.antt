-- The time-stamp tokens of a bundle under the authorities that are trusted (RFC 3161).
use Rattle.std.specs.Prelude.{ℕ, List, [], ◌∷◌, ⊤, Result, Ok}
use Rattle.foundation.specs.Steps.{◌>>=◌}
use Rattle.jiff_core.specs.declared.timestamp.Timestamp.{Timestamp}
use Rattle.sigstore_tsa.specs.Authorities.{token_time_of, IsStamped}
use Rattle.sigstore_judgement.specs.declared.error.Error.{Error}
use Rattle.sigstore_judgement.specs.Error.{by_token}
use Rattle.sigstore_judgement.specs.Grounds.{Grounds}

-- the time that a token tells of a signature
abbrev pub token_judged_of : Grounds → List ℕ → List ℕ → Result Timestamp Error
token_judged_of grounds signature token =
    by_token (token_time_of grounds.crypto.accepts token signature grounds.material.authorities)

-- the times of tokens, in their order; each is an authority's (else a good one would cover for one that is made up), and the first that
-- isn't refuses
abbrev pub tokens_judged_of : Grounds → List ℕ → List (List ℕ) → Result (List Timestamp) Error
tokens_judged_of grounds signature [] = Ok []
tokens_judged_of grounds signature (token ∷ tokens) = do
  time ← token_judged_of grounds signature token
  times ← tokens_judged_of grounds signature tokens
  Ok (time ∷ times)

-- ---- told without any order

-- each token was stamped by a trusted authority, at these times
abbrev pub AreStamped : Grounds → List ℕ → List (List ℕ) → List Timestamp → Type 0
AreStamped grounds signature [] [] = ⊤
AreStamped grounds signature [] (time ∷ times) = ⊥
AreStamped grounds signature (token ∷ tokens) [] = ⊥
AreStamped grounds signature (token ∷ tokens) (time ∷ times) =
    IsStamped grounds.crypto.accepts token signature grounds.material.authorities time × AreStamped grounds signature tokens times
