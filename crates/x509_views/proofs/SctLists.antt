-- Timestamps one after the other: a step, whatever the bound, and the loop over them.
use Rattle.std.proofs.Common.{◌≡◌, ◌≢◌, ℕ, zero, suc, ◌+◌, ◌*◌, ◌<◌, ◌≤◌, Bool, true, false, cond, List, [], ◌∷◌, ◌++◌, length, take, drop, Ok, Err, refl, sym, ap, ◌∙◌, append_assoc, arith}
use Rattle.std.specs.Prelude.{nat_le}
use Rattle.std.proofs.lemmas.List.{append-nil, length-drop}
use Rattle.foundation.specs.Steps.{◌>>=◌}
use Rattle.spki_core.specs.declared.error.X509Error.{X509Error}
use Rattle.spki_core.specs.declared.error.X509Error.TheVariants.{SctList, NoMemory}
use Rattle.spki_core.specs.Reading.{Reading}
use Rattle.x509_views.specs.Scts.{Parts, vector_at, sct_of, item_at, scts_at, scts_of}
use Rattle.x509_views.proofs.Lists.{bind_reads, both_ways, reading_is}

-- ---- an item takes an octet at least

abbrev split : ℕ → List ℕ → Reading (List ℕ × List ℕ)
split n bytes = Ok (take n bytes, drop n bytes)

drops : (b : Bool) (n : ℕ) (bytes x rest : List ℕ) → cond b (split n bytes) (Err SctList) ≡ Ok (x, rest) → length rest ≤ length bytes
drops true n bytes x rest e = let is : drop n bytes ≡ rest = ap (λ (z : List ℕ × List ℕ). z.1) (reading_is (take n bytes, drop n bytes) (x, rest) e) in omega (arith, ap length is, length-drop n bytes)
drops false n bytes x rest e = absurd cc

vector-shrinks : (bytes x rest : List ℕ) → vector_at bytes ≡ Ok (x, rest) → length rest < length bytes
vector-shrinks [] x rest e = absurd cc
vector-shrinks (a ∷ []) x rest e = absurd cc
vector-shrinks (a ∷ b ∷ bytes) x rest e = let le = drops (nat_le (256 * a + b) (length bytes)) (256 * a + b) bytes x rest e in omega arith

item-shrinks : (bytes : List ℕ) (x : Parts) (rest : List ℕ) → item_at bytes ≡ Ok (x, rest) → length rest < length bytes
unfolding item_at
item-shrinks bytes x rest h =
    let v = bind_reads (vector_at bytes) _ (x, rest) h in
    let s = bind_reads (sct_of v.0.0) _ (x, rest) v.2 in
    let is : v.0.1 ≡ rest = ap (λ (z : Parts × List ℕ). z.1) (reading_is (s.0, v.0.1) (x, rest) s.2) in
    let lt = vector-shrinks bytes v.0.0 v.0.1 v.1 in
    omega (arith, ap length is)

-- ---- a step

abbrev and_then : (List ℕ → Reading (List Parts)) → Parts × List ℕ → Reading (List Parts)
and_then later x = later x.1 >>= λ scts. Ok (x.0 ∷ scts)

scts-more : (n m : ℕ) (bytes : List ℕ) → length bytes ≤ n → length bytes ≤ m → scts_at n bytes ≡ scts_at m bytes
unfolding scts_at
scts-more n m [] p q = refl
scts-more zero m (b ∷ bytes) p q = absurd (omega arith)
scts-more (suc n) zero (b ∷ bytes) p q = absurd (omega arith)
scts-more (suc n) (suc m) (b ∷ bytes) p q =
    both_ways (item_at (b ∷ bytes)) (and_then (scts_at n)) (and_then (scts_at m))
    (λ x e. let lt = item-shrinks (b ∷ bytes) x.0 x.1 e in
    ap (λ (z : Reading (List Parts)). z >>= λ scts. Ok (x.0 ∷ scts)) (scts-more n m x.1 (omega arith) (omega arith)))

scts-step : (b : ℕ) (bytes : List ℕ) → scts_of (b ∷ bytes) ≡ (item_at (b ∷ bytes) >>= and_then scts_of)
unfolding scts_of scts_at
scts-step b bytes =
    both_ways (item_at (b ∷ bytes)) (and_then (scts_at (length bytes))) (and_then (λ rest. scts_at (length rest) rest))
    (λ x e. let lt = item-shrinks (b ∷ bytes) x.0 x.1 e in
    ap (λ (z : Reading (List Parts)). z >>= λ scts. Ok (x.0 ∷ scts)) (scts-more (length bytes) (length x.1) x.1 (omega arith) (omega arith)))

scts-as : (rest : List ℕ) (r : Reading (Parts × List ℕ)) → 0 < length rest → item_at rest ≡ r → scts_of rest ≡ (r >>= and_then scts_of)
scts-as [] r some e = absurd (omega arith)
scts-as (b ∷ bytes) r some e = scts-step b bytes ∙ ap (λ (z : Reading (Parts × List ℕ)). z >>= and_then scts_of) e

-- ---- the loop

abbrev pub ReadsOn : List Parts → List ℕ → List ℕ → Type 0
ReadsOn front rest bytes = (scts_of rest >>= λ xs. Ok (front ++ xs)) ≡ scts_of bytes

nothing_first : (r : Reading (List Parts)) → (r >>= λ xs. Ok ([] ++ xs)) ≡ r
nothing_first (Ok x) = refl
nothing_first (Err e) = refl

pub begins : (bytes : List ℕ) → ReadsOn [] bytes bytes
begins bytes = nothing_first (scts_of bytes)

one_more : (front : List Parts) (x : Parts) (r : Reading (List Parts)) → ((r >>= λ xs. Ok (x ∷ xs)) >>= λ xs. Ok (front ++ xs)) ≡ (r >>= λ xs. Ok ((front ++ x ∷ []) ++ xs))
one_more front x (Ok xs) = ap (λ z. Ok z) (sym (append_assoc front (x ∷ []) xs))
one_more front x (Err e) = refl

pub reads_one : (front : List Parts) (rest after bytes : List ℕ) (x : Parts) → 0 < length rest → item_at rest ≡ Ok (x, after) → ReadsOn front rest bytes → ReadsOn (front ++ x ∷ []) after bytes
reads_one front rest after bytes x some i h =
    sym (one_more front x (scts_of after)) ∙ ap (λ (z : Reading (List Parts)). z >>= λ xs. Ok (front ++ xs)) (sym (scts-as rest (Ok (x, after)) some i)) ∙ h

refused_along : {A B : Type 0} (e : X509Error) (r : Reading A) (f : A → Reading B) → r ≡ Err e → (r >>= f) ≡ Err e
refused_along e r f h = rw h refl

pub refused : (e : X509Error) (front : List Parts) (rest bytes : List ℕ) → 0 < length rest → (e ≢ NoMemory → item_at rest ≡ Err e) → ReadsOn front rest bytes → e ≢ NoMemory → scts_of bytes ≡ Err e
refused e front rest bytes some i h other = sym h ∙ refused_along e (scts_of rest) (λ xs. Ok (front ++ xs)) (scts-as rest (Err e) some (i other))

pub ends : (front : List Parts) (rest bytes : List ℕ) → length rest ≡ 0 → ReadsOn front rest bytes → scts_of bytes ≡ Ok front
unfolding scts_of scts_at
ends front [] bytes none h = sym h ∙ ap (λ (z : List Parts). Ok z) (append-nil front)
ends front (b ∷ more) bytes none h = absurd (omega arith)
