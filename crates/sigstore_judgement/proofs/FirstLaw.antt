-- The first rule that accepts, told without an order.
use Rattle.std.proofs.Common.{◌≡◌, ℕ, suc, ◌+◌, List, [], ◌∷◌, ◌++◌, length, map, Result, Ok, Err, refl, ap, ◌∙◌, subst, arith}
use Rattle.std.specs.List.{AllZip}
use Rattle.foundation.specs.Results.{ok_same, err_same}
use Rattle.sigstore_policy.specs.Policy.{Meaning}
use Rattle.sigstore_judgement.specs.declared.error.Error.{Error}
use Rattle.sigstore_judgement.specs.declared.report.JudgedBundle.{JudgedBundle}
use Rattle.sigstore_judgement.specs.Rules.{or_later, first_from, IsFirst, AllRefuse, FirstExactly}

-- what follows place by place follows of the lists
pub all_zip : {A B : Type 0} {P Q : A → B → Type 0} → ((x : A) (y : B) → P x y → Q x y) → (xs : List A) (ys : List B) → AllZip P xs ys → AllZip Q xs ys
all_zip f [] [] h = tt
all_zip f [] (y ∷ ys) h = absurd h
all_zip f (x ∷ xs) [] h = absurd h
all_zip f (x ∷ xs) (y ∷ ys) h = (f x y h.0, all_zip f xs ys h.1)

module _ (answer : Meaning → Result JudgedBundle Error) where
  abbrev From : ℕ → List Meaning → Result (ℕ × JudgedBundle) (List Error)
  From n rules = first_from n (map answer rules)

  record IsFirstFrom (n : ℕ) (rules : List Meaning) (rule : ℕ) (x : JudgedBundle) : Type 0 where
    earlier : List Meaning
    policy : Meaning
    later : List Meaning
    split : rules ≡ earlier ++ policy ∷ later
    number : rule ≡ n + length earlier
    refusals : List Error
    refuse : AllRefuse answer earlier refusals
    accepts : answer policy ≡ Ok x

  -- the first of some rules accepts
  here : (n : ℕ) (policy : Meaning) (rules : List Meaning) (rule : ℕ) (x y : JudgedBundle) → answer policy ≡ Ok y
      → ◌≡◌ {A = Result (ℕ × JudgedBundle) (List Error)} (Ok (n, y)) (Ok (rule, x)) → IsFirstFrom n (policy ∷ rules) rule x
  here n policy rules rule x y is h =
      let same = ok_same (n, y) (rule, x) h in
      let at : n ≡ rule = ap (λ (p : ℕ × JudgedBundle). p.0) same in
      record {
        earlier = [];
        policy = policy;
        later = rules;
        split = refl;
        number = omega (arith, at);
        refusals = [];
        refuse = tt;
        accepts = is ∙ ap (λ (p : ℕ × JudgedBundle). Ok p.1) same;
      }

  -- or it refuses, and one behind it is the first that accepts
  behind : (n : ℕ) (policy : Meaning) (rules : List Meaning) (rule : ℕ) (x : JudgedBundle) (e : Error) → answer policy ≡ Err e
      → IsFirstFrom (suc n) rules rule x → IsFirstFrom n (policy ∷ rules) rule x
  behind n policy rules rule x e is rest =
      let at = rest.number in
      record {
        earlier = policy ∷ rest.earlier;
        policy = rest.policy;
        later = rest.later;
        split = ap (λ l. policy ∷ l) rest.split;
        number = omega (arith, at);
        refusals = e ∷ rest.refusals;
        refuse = (is, rest.refuse);
        accepts = rest.accepts;
      }

  later_found : {A : Type 0} (e : Error) (r : Result A (List Error)) (x : A) → or_later e r ≡ Ok x → r ≡ Ok x
  later_found e (Ok y) x h = h
  later_found e (Err refusals) x h = cc

  found : (n : ℕ) (rules : List Meaning) (rule : ℕ) (x : JudgedBundle) → From n rules ≡ Ok (rule, x) → IsFirstFrom n rules rule x
  found n [] rule x h = cc
  found n (policy ∷ rules) rule x h = by (answer policy) refl (found (suc n) rules rule x) h
    where
      by : (r : Result JudgedBundle Error) → answer policy ≡ r → (From (suc n) rules ≡ Ok (rule, x) → IsFirstFrom (suc n) rules rule x)
          → first_from n (r ∷ map answer rules) ≡ Ok (rule, x) → IsFirstFrom n (policy ∷ rules) rule x
      by (Ok y) is again k = here n policy rules rule x y is k
      by (Err e) is again k = behind n policy rules rule x e is (again (later_found e (From (suc n) rules) (rule, x) k))

  first : (n : ℕ) (earlier : List Meaning) (refusals : List Error) (policy : Meaning) (later : List Meaning) (x : JudgedBundle)
      → AllRefuse answer earlier refusals → answer policy ≡ Ok x → From n (earlier ++ policy ∷ later) ≡ Ok (n + length earlier, x)
  first n [] [] policy later x u a = ap (λ r. first_from n (r ∷ map answer later)) a ∙ ap (λ m. Ok (m, x)) (omega arith)
  first n [] (e ∷ refusals) policy later x u a = absurd u
  first n (p ∷ earlier) [] policy later x u a = absurd u
  first n (p ∷ earlier) (e ∷ refusals) policy later x u a =
      ap (λ r. first_from n (r ∷ map answer (earlier ++ policy ∷ later))) u.0
      ∙ ap (or_later e) (first (suc n) earlier refusals policy later x u.1 a) ∙ ap (λ m. Ok (m, x)) (omega arith)

  pub all_refuse : (n : ℕ) (rules : List Meaning) (refusals : List Error) → From n rules ≡ Err refusals → AllRefuse answer rules refusals
  all_refuse n [] [] h = tt
  all_refuse n [] (e ∷ refusals) h = cc
  all_refuse n (policy ∷ rules) refusals h = by (answer policy) refl (all_refuse (suc n) rules) h
    where
      by : (r : Result JudgedBundle Error) → answer policy ≡ r → ((others : List Error) → From (suc n) rules ≡ Err others → AllRefuse answer rules others)
          → first_from n (r ∷ map answer rules) ≡ Err refusals → AllRefuse answer (policy ∷ rules) refusals
      by (Ok y) is again k = cc
      by (Err e) is again k = of_later (From (suc n) rules) again k
        where
          of_later : (s : Result (ℕ × JudgedBundle) (List Error)) → ((others : List Error) → s ≡ Err others → AllRefuse answer rules others)
              → or_later e s ≡ Err refusals → AllRefuse answer (policy ∷ rules) refusals
          of_later (Ok y) f l = cc
          of_later (Err others) f l = as_told refusals (err_same (e ∷ others) refusals l) (f others refl)
            where
              as_told : (told : List Error) → e ∷ others ≡ told → AllRefuse answer rules others → AllRefuse answer (policy ∷ rules) told
              as_told [] same rest = cc
              as_told (d ∷ ds) same rest =
                  let one : e ≡ d = cc in
                  let more : others ≡ ds = cc in
                  (is ∙ ap Err one, subst (AllRefuse answer rules) more rest)

  pub each_refuses : (n : ℕ) (rules : List Meaning) (refusals : List Error) → AllRefuse answer rules refusals → From n rules ≡ Err refusals
  each_refuses n [] [] u = refl
  each_refuses n [] (e ∷ refusals) u = absurd u
  each_refuses n (policy ∷ rules) [] u = absurd u
  each_refuses n (policy ∷ rules) (e ∷ refusals) u =
      ap (λ r. first_from n (r ∷ map answer rules)) u.0 ∙ ap (or_later e) (each_refuses (suc n) rules refusals u.1)

  pub is_first : (rules : List Meaning) (rule : ℕ) (x : JudgedBundle) → From 1 rules ≡ Ok (rule, x) → IsFirst answer rules rule x
  is_first rules rule x h =
      let f = found 1 rules rule x h in
      let at = f.number in
      record {
        earlier = f.earlier;
        policy = f.policy;
        later = f.later;
        split = f.split;
        number = omega (arith, at);
        refusals = f.refusals;
        refuse = f.refuse;
        accepts = f.accepts;
      }

  accepted_first : (rules : List Meaning) (rule : ℕ) (x : JudgedBundle) → IsFirst answer rules rule x → From 1 rules ≡ Ok (rule, x)
  accepted_first rules rule x f =
      let at = f.number in
      ap (From 1) f.split ∙ first 1 f.earlier f.refusals f.policy f.later x f.refuse f.accepts ∙ ap (λ m. Ok (m, x)) (omega (arith, at))

pub first_exactly : FirstExactly
first_exactly = record {
  accepts = λ answer rules rule x. (is_first answer rules rule x, accepted_first answer rules rule x);
  refuses = λ answer rules refusals. (all_refuse answer 1 rules refusals, each_refuses answer 1 rules refusals);
}
