-- The roots that a proof gives, hash by hash from its end.
use Rattle.std.proofs.Common.{◌≡◌, ℕ, ◌-◌, ◌<◌, ◌≤◌, Bool, false, List, [], ◌∷◌, ◌++◌, length, reverse, None, refl, sym, ◌∙◌, ap, arith}
use Rattle.std.proofs.lemmas.List.{reverse-append, length-reverse}
use Rattle.std.proofs.lemmas.Bool.Decides.{nat_tests}
use Rattle.sigstore_merkle.specs.Tree.{split}
use Rattle.log_tiles.specs.Consistency.{with_left, with_right, roots_alike, roots_down, roots_from}

down_same : (n : ℕ) (whole : Bool) (down : List (List ℕ)) (root : List ℕ) → roots_down n n whole down root ≡ roots_alike whole down root
unfolding roots_down
down_same n whole [] root = grind (arith, nat_tests)
down_same n whole (hash ∷ below) root = grind (arith, nat_tests)

down_left : (first second : ℕ) (whole : Bool) (hash : List ℕ) (below : List (List ℕ)) (root : List ℕ) → first < second → split second < first
    → roots_down first second whole (hash ∷ below) root ≡ with_left hash (roots_down (first - split second) (second - split second) false below root)
unfolding roots_down
down_left first second whole hash below root h k = grind (arith, nat_tests)

down_right : (first second : ℕ) (whole : Bool) (hash : List ℕ) (below : List (List ℕ)) (root : List ℕ) → first < second → first ≤ split second
    → roots_down first second whole (hash ∷ below) root ≡ with_right hash (roots_down first (split second) whole below root)
unfolding roots_down
down_right first second whole hash below root h k = grind (arith, nat_tests)

down_none : (first second : ℕ) (whole : Bool) (root : List ℕ) → first < second → roots_down first second whole [] root ≡ None
unfolding roots_down
down_none first second whole root h = grind (arith, nat_tests)

-- two hashes and more are of no tree alone
none_alike : (whole : Bool) (hashes : List (List ℕ)) (root : List ℕ) → 1 < length hashes → roots_alike whole hashes root ≡ None
none_alike whole [] root h = absurd (omega arith)
none_alike whole (hash ∷ []) root h = absurd (omega arith)
none_alike whole (hash ∷ other ∷ others) root h = refl

alike_reversed : (whole : Bool) (hashes : List (List ℕ)) (root : List ℕ) → roots_alike whole (reverse hashes) root ≡ roots_alike whole hashes root
alike_reversed whole [] root = refl
alike_reversed whole (hash ∷ []) root = refl
alike_reversed whole (hash ∷ other ∷ others) root =
    none_alike whole (reverse (hash ∷ other ∷ others)) root (omega (arith, length-reverse (hash ∷ other ∷ others)))

pub given_same : (first second : ℕ) (whole : Bool) (hashes : List (List ℕ)) (root : List ℕ) → first ≡ second
    → roots_from first second whole hashes root ≡ roots_alike whole hashes root
given_same first second whole hashes root e = rw e (down_same second whole (reverse hashes) root ∙ alike_reversed whole hashes root)

reverse_last : (hashes others : List (List ℕ)) (hash : List ℕ) → hashes ≡ others ++ hash ∷ [] → reverse hashes ≡ hash ∷ reverse others
reverse_last hashes others hash e = ap reverse e ∙ reverse-append others (hash ∷ [])

pub given_left : (first second part : ℕ) (whole : Bool) (hashes others : List (List ℕ)) (hash root : List ℕ) → part ≡ split second
    → first < second → part < first → hashes ≡ others ++ hash ∷ []
    → with_left hash (roots_from (first - part) (second - part) false others root) ≡ roots_from first second whole hashes root
given_left first second part whole hashes others hash root p h k e =
    let below : split second < first = omega arith in
    rw (p, reverse_last hashes others hash e) (sym (down_left first second whole hash (reverse others) root h below))

pub given_right : (first second part : ℕ) (whole : Bool) (hashes others : List (List ℕ)) (hash root : List ℕ) → part ≡ split second
    → first < second → first ≤ part → hashes ≡ others ++ hash ∷ []
    → with_right hash (roots_from first part whole others root) ≡ roots_from first second whole hashes root
given_right first second part whole hashes others hash root p h k e =
    let below : first ≤ split second = omega arith in
    rw (p, reverse_last hashes others hash e) (sym (down_right first second whole hash (reverse others) root h below))

pub given_none : (first second : ℕ) (whole : Bool) (hashes : List (List ℕ)) (root : List ℕ) → first < second → length hashes ≡ 0
    → roots_from first second whole hashes root ≡ None
given_none first second whole [] root h e = down_none first second whole root h
given_none first second whole (hash ∷ others) root h e = absurd (omega arith)
