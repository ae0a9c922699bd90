-- Tokens are stamped exactly where the judgement of all says so.
use Rattle.std.proofs.Common.{◌≡◌, ℕ, List, [], ◌∷◌, Result, Ok, Err, refl, ap, ◌∙◌, subst}
use Rattle.std.specs.Prelude.{Contains}
use Rattle.jiff_core.specs.declared.timestamp.Timestamp.{Timestamp}
use Rattle.foundation.specs.Steps.{◌>>=◌}
use Rattle.foundation.specs.Results.{step_ok, ok_same, err_same, refused_at}
use Rattle.sigstore_tsa.specs.declared.authorities.TokenFault.{TokenFault}
use Rattle.sigstore_tsa.specs.declared.authorities.TokenFault.TheVariants as token
use Rattle.sigstore_tsa.specs.Authorities.{token_time_of}
use Rattle.sigstore_tsa.proofs.TokensLaw.{tokens_exactly, token_refused}
use Rattle.sigstore_judgement.specs.declared.error.Error.{Error}
use Rattle.sigstore_judgement.specs.declared.error.Error.TheVariants as verify
use Rattle.sigstore_judgement.specs.declared.error.TimestampError.{TimestampError}
use Rattle.sigstore_judgement.specs.declared.error.TimestampError.TheVariants as stamp
use Rattle.sigstore_judgement.specs.Cause.{TokenCause}
use Rattle.sigstore_judgement.specs.Error.{by_token, error_of_token}
use Rattle.sigstore_judgement.specs.Grounds.{Grounds}
use Rattle.sigstore_judgement.specs.Tokens.{token_judged_of, tokens_judged_of, AreStamped}
use Rattle.sigstore_judgement.proofs.EntryCauses.{among_first, among_later}

ok_token : (r : Result Timestamp TokenFault) (x : Timestamp) → by_token r ≡ Ok x → r ≡ Ok x
ok_token (Ok y) x h = cc
ok_token (Err e) x h = cc

module _ (grounds : Grounds) (signature : List ℕ) where
  abbrev judged : List ℕ → Result Timestamp TokenFault
  judged token = token_time_of grounds.crypto.accepts token signature grounds.material.authorities

  pub are_stamped : (tokens : List (List ℕ)) (times : List Timestamp) → tokens_judged_of grounds signature tokens ≡ Ok times → AreStamped grounds signature tokens times
  are_stamped [] times h = subst (AreStamped grounds signature []) (ok_same [] times h) tt
  are_stamped (one ∷ tokens) times h =
      let s = step_ok (token_judged_of grounds signature one) (λ time. tokens_judged_of grounds signature tokens >>= λ rest. Ok (time ∷ rest)) times h in
      let r = step_ok (tokens_judged_of grounds signature tokens) (λ rest. Ok (s.0 ∷ rest)) times s.2 in
      let first = (tokens_exactly grounds.crypto.accepts one signature grounds.material.authorities s.0).0 (ok_token (judged one) s.0 s.1) in
      subst (AreStamped grounds signature (one ∷ tokens)) (ok_same (s.0 ∷ r.0) times r.2) (first, are_stamped tokens r.0 r.1)

  pub stamped_pass : (tokens : List (List ℕ)) (times : List Timestamp) → AreStamped grounds signature tokens times → tokens_judged_of grounds signature tokens ≡ Ok times
  stamped_pass [] [] a = refl
  stamped_pass [] (time ∷ times) a = absurd a
  stamped_pass (one ∷ tokens) [] a = absurd a
  stamped_pass (one ∷ tokens) (time ∷ times) a =
      ap (λ r. by_token r >>= λ time. tokens_judged_of grounds signature tokens >>= λ rest. Ok (time ∷ rest))
      ((tokens_exactly grounds.crypto.accepts one signature grounds.material.authorities time).1 a.0)
      ∙ ap (λ r. r >>= λ rest. Ok (time ∷ rest)) (stamped_pass tokens times a.1)

  -- one of them isn't, and this is why
  pub record Unstamped (tokens : List (List ℕ)) (e : Error) : Type 0 where
    pub token : List ℕ
    pub among : Contains tokens token
    pub fault : TimestampError
    pub named : verify.Timestamp fault ≡ e
    pub why : TokenCause grounds signature token fault

  abbrev Has : List ℕ → Error → Type 0
  Has one e = (fault : TimestampError) × (verify.Timestamp fault ≡ e) × TokenCause grounds signature one fault

  by_fault : (one : List ℕ) (fault : TokenFault) (e : Error) → judged one ≡ Err fault → error_of_token fault ≡ e → Has one e
  by_fault one token.Invalid e h q = (stamp.Invalid, q, token_refused grounds.crypto.accepts one signature grounds.material.authorities token.Invalid h)
  by_fault one (token.OutsideValidity time) e h q =
      (stamp.OutsideAuthorityValidity time, q, token_refused grounds.crypto.accepts one signature grounds.material.authorities (token.OutsideValidity time) h)
  by_fault one token.NoMemory e h q = absurd (token_refused grounds.crypto.accepts one signature grounds.material.authorities token.NoMemory h)

  through : (one : List ℕ) (r : Result Timestamp TokenFault) (e : Error) → judged one ≡ r → by_token r ≡ Err e → Has one e
  through one (Ok x) e is h = cc
  through one (Err fault) e is h = by_fault one fault e is (err_same (error_of_token fault) e h)

  pub tokens_unstamped : (tokens : List (List ℕ)) (e : Error) → tokens_judged_of grounds signature tokens ≡ Err e → Unstamped tokens e
  tokens_unstamped [] e h = cc
  tokens_unstamped (one ∷ tokens) e h =
      refused_at (token_judged_of grounds signature one) (λ time. tokens_judged_of grounds signature tokens >>= λ times. Ok (time ∷ times)) e h here
      (λ time p k. refused_at (tokens_judged_of grounds signature tokens) (λ times. Ok (time ∷ times)) e k (λ r. later (tokens_unstamped tokens e r)) (λ times q j. cc))
    where
      here : token_judged_of grounds signature one ≡ Err e → Unstamped (one ∷ tokens) e
      here r =
          let d = through one (judged one) e refl r in
          record { token = one; among = among_first one tokens; fault = d.0; named = d.1; why = d.2 }

      later : Unstamped tokens e → Unstamped (one ∷ tokens) e
      later u = record { token = u.token; among = among_later one tokens u.token u.among; fault = u.fault; named = u.named; why = u.why }
