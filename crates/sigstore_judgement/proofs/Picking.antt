-- Digests that are picked one by one, and rules that are judged one by one.
use Rattle.std.proofs.Common.{◌≡◌, ◌≢◌, ℕ, suc, ◌+◌, ◌<◌, List, [], ◌∷◌, ◌++◌, length, map, drop, get_or, Result, Ok, Err, refl, sym, ap, ◌∙◌, subst, append_assoc, append-nil, add-one, drop-cons}
use Rattle.foundation.specs.Steps.{◌>>=◌}
use Rattle.sigstore_types_parts.specs.declared.hash_algorithm.HashAlgorithm.{HashAlgorithm}
use Rattle.sigstore_policy.specs.Policy.{Meaning, meaning_in}
use Rattle.sigstore_policy.specs.declared.policy.SigningPolicy.{SigningPolicy}
use Rattle.sigstore_judgement.specs.declared.error.Error.{Error}
use Rattle.sigstore_judgement.specs.declared.error.Error.TheVariants.{NoMemory}
use Rattle.sigstore_judgement.specs.declared.report.JudgedBundle.{JudgedBundle}
use Rattle.sigstore_judgement.specs.Rules.{NoneWants, or_later, first_from, picked_one_of, picked_of}

-- a list of digests, and behind it those of another
abbrev pub behind : List (HashAlgorithm × List ℕ) → Result (List (HashAlgorithm × List ℕ)) Error → Result (List (HashAlgorithm × List ℕ)) Error
behind before picked = picked >>= λ rest. Ok (before ++ rest)

prepended : (before : List (HashAlgorithm × List ℕ)) (digest : HashAlgorithm × List ℕ) (rest : Result (List (HashAlgorithm × List ℕ)) Error)
    → behind before (rest >>= λ others. Ok (digest ∷ others)) ≡ behind (before ++ digest ∷ []) rest
prepended before digest (Ok others) = ap Ok (sym (append_assoc before (digest ∷ []) others))
prepended before digest (Err e) = refl

pub picked_one : (before : List (HashAlgorithm × List ℕ)) (algorithm : HashAlgorithm) (algorithms : List HashAlgorithm) (taken : List (HashAlgorithm × List ℕ))
    (digest : HashAlgorithm × List ℕ) → picked_one_of algorithm taken ≡ Ok digest
    → behind before (picked_of (algorithm ∷ algorithms) taken) ≡ behind (before ++ digest ∷ []) (picked_of algorithms taken)
picked_one before algorithm algorithms taken digest is =
    ap (λ r. behind before (r >>= λ digest. picked_of algorithms taken >>= λ others. Ok (digest ∷ others))) is
    ∙ prepended before digest (picked_of algorithms taken)

pub picked_none : (before : List (HashAlgorithm × List ℕ)) (algorithm : HashAlgorithm) (algorithms : List HashAlgorithm) (taken : List (HashAlgorithm × List ℕ))
    (e : Error) → picked_one_of algorithm taken ≡ Err e → behind before (picked_of (algorithm ∷ algorithms) taken) ≡ Err e
picked_none before algorithm algorithms taken e is =
    ap (λ r. behind before (r >>= λ digest. picked_of algorithms taken >>= λ others. Ok (digest ∷ others))) is

pub behind_all : (before : List (HashAlgorithm × List ℕ)) → behind before (Ok []) ≡ Ok before
behind_all before = ap Ok (append-nil before)

pub behind_nothing : (picked : Result (List (HashAlgorithm × List ℕ)) Error) → behind [] picked ≡ picked
behind_nothing (Ok rest) = refl
behind_nothing (Err e) = refl

-- refusals, and behind them those of later rules, where none accepts
abbrev pub refused_behind : {A : Type 0} → List Error → Result A (List Error) → Result A (List Error)
refused_behind before (Ok x) = Ok x
refused_behind before (Err later) = Err (before ++ later)

one_later : {A : Type 0} (before : List Error) (e : Error) (later : Result A (List Error))
    → refused_behind before (or_later e later) ≡ refused_behind (before ++ e ∷ []) later
one_later before e (Ok x) = refl
one_later before e (Err refusals) = ap Err (sym (append_assoc before (e ∷ []) refusals))

-- the first of the answers that are left refuses
pub one_refused : {A : Type 0} (before : List Error) (n : ℕ) (answer : Result A Error) (answers : List (Result A Error)) (e : Error) → answer ≡ Err e
    → refused_behind before (first_from n (answer ∷ answers)) ≡ refused_behind (before ++ e ∷ []) (first_from (suc n) answers)
one_refused before n answer answers e is =
    ap (λ r. refused_behind before (first_from n (r ∷ answers))) is ∙ one_later before e (first_from (suc n) answers)

-- or accepts
pub one_accepted : {A : Type 0} (before : List Error) (n : ℕ) (answer : Result A Error) (answers : List (Result A Error)) (x : A) → answer ≡ Ok x
    → refused_behind before (first_from n (answer ∷ answers)) ≡ Ok (n, x)
one_accepted before n answer answers x is = ap (λ r. refused_behind before (first_from n (r ∷ answers))) is

pub refused_all : {A : Type 0} (before : List Error) (n : ℕ) → refused_behind {A = ℕ × A} before (first_from n []) ≡ Err before
refused_all before n = ap Err (append-nil before)

pub refused_nothing : {A : Type 0} (r : Result A (List Error)) → refused_behind [] r ≡ r
refused_nothing (Ok x) = refl
refused_nothing (Err refusals) = refl

-- want of memory is none of them, and isn't the one behind them
pub none_wants : (before : List Error) (e : Error) → NoneWants before → e ≢ NoMemory → NoneWants (before ++ e ∷ [])
none_wants [] e h n = (n, tt)
none_wants (d ∷ before) e h n = (h.0, none_wants before e h.1 n)

first_of : (rules : List SigningPolicy) (k : ℕ) (policy : SigningPolicy) → k < length rules → drop k rules ≡ get_or rules k policy ∷ drop (k + 1) rules
first_of rules k policy h = rw (add-one, drop-cons rules k policy)

-- one rule more refuses
pub each_more : (answer : Meaning → Result JudgedBundle Error) (whole : Result (ℕ × JudgedBundle) (List Error)) (before after : List Error) (rules : List SigningPolicy) (k : ℕ)
    (policy : SigningPolicy) (e : Error) → k < length rules → policy ≡ get_or rules k policy → NoneWants before
    → whole ≡ refused_behind before (first_from (suc k) (map answer (map meaning_in (drop k rules))))
    → answer (meaning_in policy) ≡ Err e → e ≢ NoMemory → after ≡ before ++ e ∷ []
    → NoneWants after × (whole ≡ refused_behind after (first_from (suc (k + 1)) (map answer (map meaning_in (drop (k + 1) rules)))))
each_more answer whole before after rules k policy e less is none left refused n behind =
    let others = map answer (map meaning_in (drop (k + 1) rules)) in
    let split : drop k rules ≡ policy ∷ drop (k + 1) rules = first_of rules k policy less ∙ ap (λ p. p ∷ drop (k + 1) rules) (sym is) in (
      subst NoneWants (sym behind) (none_wants before e none n),
      left ∙ ap (λ (l : List SigningPolicy). refused_behind before (first_from (suc k) (map answer (map meaning_in l)))) split
          ∙ one_refused before (suc k) (answer (meaning_in policy)) others e refused
          ∙ ap (λ (m : ℕ). refused_behind (before ++ e ∷ []) (first_from (suc m) others)) (sym (add-one k))
          ∙ ap (λ (b : List Error). refused_behind b (first_from (suc (k + 1)) others)) (sym behind),
    )
