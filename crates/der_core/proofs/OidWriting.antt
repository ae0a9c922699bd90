-- Writing groups one after the other.
use Rattle.std.proofs.Common.{◌≡◌, ℕ, zero, suc, ◌+◌, ◌*◌, ◌<◌, ◌≤◌, true, ltb, List, [], ◌∷◌, ◌++◌, length, get_or, take, Ok, sym, ap, ◌∙◌, append_assoc, arith, add-one}
use Rattle.std.proofs.lemmas.Bool.{lt-ltb}
use Rattle.std.proofs.lemmas.List.{append-nil, length-append}
use Rattle.der_core.specs.Oid.{group_bytes, groups_bytes, are_arcs, oid_of}

groups-suc : (xs : List ℕ) (i : ℕ) (x : ℕ) → i < length xs → x ≡ get_or xs i 0 → groups_bytes (take (suc i) xs) ≡ groups_bytes (take i xs) ++ group_bytes x
groups-suc [] i x lt is = absurd (omega arith)
groups-suc (n ∷ xs) zero x lt is = append-nil (group_bytes n) ∙ ap group_bytes (sym is)
groups-suc (n ∷ xs) (suc i) x lt is = ap (λ (z : List ℕ). group_bytes n ++ z) (groups-suc xs i x (omega arith) is) ∙ sym (append_assoc (group_bytes n) (groups_bytes (take i xs)) (group_bytes x))

groups-part : (xs : List ℕ) (i : ℕ) → length (groups_bytes (take i xs)) ≤ length (groups_bytes xs)
groups-part xs zero = omega arith
groups-part [] (suc i) = omega arith
groups-part (n ∷ xs) (suc i) = omega (arith, length-append (group_bytes n) (groups_bytes (take i xs)), length-append (group_bytes n) (groups_bytes xs), groups-part xs i)

pub groups-one : (old out new xs : List ℕ) (i x : ℕ) → i < length xs → x ≡ get_or xs i 0 → out ≡ old ++ groups_bytes (take i xs) → new ≡ out ++ group_bytes x → new ≡ old ++ groups_bytes (take (i + 1) xs)
groups-one old out new xs i x lt is h e =
    let more : groups_bytes (take (i + 1) xs) ≡ groups_bytes (take i xs) ++ group_bytes x = rw add-one (groups-suc xs i x lt is) in
    e ∙ ap (λ (z : List ℕ). z ++ group_bytes x) h ∙ append_assoc old (groups_bytes (take i xs)) (group_bytes x) ∙ ap (λ (z : List ℕ). old ++ z) (sym more)

pub groups-full : (old out xs : List ℕ) (i x : ℕ) → i < length xs → x ≡ get_or xs i 0 → out ≡ old ++ groups_bytes (take i xs) → 39 < length out + length (group_bytes x) → 39 < length old + length (groups_bytes xs)
groups-full old out xs i x lt is h full =
    let more = groups-suc xs i x lt is in
    omega (arith, ap length h, length-append old (groups_bytes (take i xs)), ap length more, length-append (groups_bytes (take i xs)) (group_bytes x), groups-part xs (suc i))

pub oid_is : (a b : ℕ) (more out : List ℕ) → are_arcs (a ∷ b ∷ more) ≡ true → out ≡ group_bytes (40 * a + b) ++ groups_bytes more → length out < 40 → oid_of (a ∷ b ∷ more) ≡ Ok out
unfolding oid_of
oid_is a b more out ok e fits =
    let short : ltb (length (group_bytes (40 * a + b) ++ groups_bytes more)) 40 ≡ true = lt-ltb _ _ (omega (arith, ap length e)) in
    rw ok (rw short (ap (λ (z : List ℕ). Ok z) (sym e)))
