-- Answers that are a judge's own decide as that judge.
use Rattle.std.proofs.Common.{◌≡◌, ℕ, List, Bool, true, false, if◌then◌else◌, refl, sym, subst, Option, Result}
use Rattle.std.proofs.Math.Path.{fun_ext}
use Rattle.sigstore_keys.specs.Good.{Judge}
use Rattle.command_files.specs.Rows.{AcceptRows, accepts_of}
use Rattle.sigstore_keys.specs.Crypto.{Crypto}
use Rattle.sigstore_verify.specs.declared.by_rules.RuleAcceptance.{RuleAcceptance}
use Rattle.sigstore_verify.specs.declared.by_rules.RulesFault.{RulesFault}
use Rattle.sigstore_verify.specs.ByRules.{PromisesByRules}
use Rattle.sigstore_verify.specs.Inputs.{Outside}
use Rattle.command_verify.specs.Run.{given_of}
use Rattle.command_verify.specs.declared.request.VerifyRequest.{VerifyRequest}
use Rattle.questions_tests.specs.Answered.{AreAnswers, by_answers}

by_cases : (good refused judged : Bool) → (good ≡ true → judged ≡ true) → (refused ≡ true → judged ≡ false)
    → (if good then true else if refused then false else judged) ≡ judged
by_cases true refused judged held denied = sym (held refl)
by_cases false true judged held denied = sym (denied refl)
by_cases false false judged held denied = refl

pub answers_decide : (judge : Judge) (good refused : AcceptRows) → AreAnswers judge good refused → by_answers good refused judge ≡ judge
answers_decide judge good refused are =
    fun_ext λ scheme. fun_ext λ key. fun_ext λ subject. fun_ext λ signature.
    by_cases (accepts_of good scheme key subject signature) (accepts_of refused scheme key subject signature) (judge scheme key subject signature)
    (are.held scheme key subject signature) (are.denied scheme key subject signature)

module _ (armored : List ℕ → Bool) (key_in certificate_in : List ℕ → Option (List ℕ)) where
  abbrev crypto_with : Judge → Crypto
  crypto_with judge = record { accepts = judge; armored = armored; key_in = key_in; certificate_in = certificate_in }

  -- what is promised by answers alone is promised under each judge who agrees with them
  pub promised : (judge : Judge) (good refused : AcceptRows) (request : VerifyRequest) (before after : Outside)
      (result : Result RuleAcceptance RulesFault)
      → PromisesByRules (given_of (crypto_with (by_answers good refused judge)) request) before after result
      → AreAnswers judge good refused → PromisesByRules (given_of (crypto_with judge) request) before after result
  promised judge good refused request before after result promises are =
      subst (λ j. PromisesByRules (given_of (crypto_with j) request) before after result) (answers_decide judge good refused are) promises
