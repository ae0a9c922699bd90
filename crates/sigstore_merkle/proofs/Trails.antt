-- What is hashed on the way from the root down, by the sides of the siblings.
use Rattle.std.proofs.Common.{◌≡◌, ℕ, zero, suc, ◌-◌, ◌^◌, ◌<◌, ◌≤◌, List, [], ◌∷◌, length, reverse, drop, Some, None, refl, sym, ◌∙◌, ap, arith, ⊎_elim}
use Rattle.std.proofs.lemmas.Bool.{cases_lt, lt-ltb, le-ltb, cond-true, cond-false}
use Rattle.std.proofs.lemmas.Option.{none-some}
use Rattle.sha2.proofs.Facts256.{length-sha256}
use Rattle.sigstore_merkle.specs.Tree.{split, leaf_input, leaf_hash}
use Rattle.sigstore_merkle.specs.Climb.{input_at}
use Rattle.sigstore_merkle.specs.Collision.{IsCollision, digest_of, inputs_down, first_difference}
use Rattle.sigstore_merkle.specs.declared.side.Side.{Side}
use Rattle.sigstore_merkle.specs.declared.side.Side.TheVariants.{Left, Right}
use Rattle.sigstore_merkle.proofs.Sides.{sides, sides_end, split_at, left_part, right_part}
use Rattle.sigstore_merkle.proofs.Roots.{descend}
use Rattle.sigstore_merkle.proofs.Inputs.{differ_here, input_parts, node_is, same_here}

unfoldable pub trail : List ℕ → List Side → List (List ℕ) → List (List ℕ)
trail body [] down = leaf_input body ∷ []
trail body (side ∷ below) [] = leaf_input body ∷ []
trail body (side ∷ below) (sibling ∷ others) = input_at side (digest_of (trail body below others)) sibling ∷ trail body below others

pub length_digest : (body : List ℕ) (ds : List Side) (down : List (List ℕ)) → length (digest_of (trail body ds down)) ≡ 32
unfolding trail
length_digest body [] down = length-sha256 _
length_digest body (side ∷ below) [] = length-sha256 _
length_digest body (side ∷ below) (sibling ∷ others) = length-sha256 _

-- the root is the hash of the highest input
pub descend_trail : (body : List ℕ) (ds : List Side) (down : List (List ℕ)) → length down ≡ length ds → descend (leaf_hash body) ds down ≡ Some (digest_of (trail body ds down))
unfolding descend trail
descend_trail body [] [] e = refl
descend_trail body [] (sibling ∷ others) e = absurd (omega arith)
descend_trail body (side ∷ below) [] e = absurd (omega arith)
descend_trail body (side ∷ below) (sibling ∷ others) e =
    let rest = descend_trail body below others (omega arith) in
    rw rest (ap (λ (x : List ℕ). Some x) (node_is side (digest_of (trail body below others)) sibling))

trail_nil : (body : List ℕ) (ds : List Side) → trail body ds [] ≡ leaf_input body ∷ []
unfolding trail
trail_nil body [] = refl
trail_nil body (side ∷ below) = refl

inputs_nil : (body : List ℕ) (index size : ℕ) → inputs_down body index size [] ≡ leaf_input body ∷ []
unfolding inputs_down
inputs_nil body index size = refl

over : Side → List ℕ → List (List ℕ) → List (List ℕ)
over side sibling below = input_at side (digest_of below) sibling ∷ below

inputs_left : (body : List ℕ) (index size : ℕ) (sibling : List ℕ) (others : List (List ℕ)) → index < split size → inputs_down body index size (sibling ∷ others) ≡ over Right sibling (inputs_down body index (split size) others)
unfolding inputs_down over
inputs_left body index size sibling others l = cond-true _ _ _ (lt-ltb index (split size) l)

inputs_right : (body : List ℕ) (index size : ℕ) (sibling : List ℕ) (others : List (List ℕ)) → split size ≤ index → inputs_down body index size (sibling ∷ others) ≡ over Left sibling (inputs_down body (index - split size) (size - split size) others)
unfolding inputs_down over
inputs_right body index size sibling others l = cond-false _ _ _ (le-ltb index (split size) l)

trail_over : (body : List ℕ) (side : Side) (below : List Side) (sibling : List ℕ) (others : List (List ℕ)) → trail body (side ∷ below) (sibling ∷ others) ≡ over side sibling (trail body below others)
unfolding trail over
trail_over body side below sibling others = refl

-- by the splits of the tree, the same is hashed
pub inputs_trail : (down : List (List ℕ)) (body : List ℕ) (h index last : ℕ) → index ≤ last → last < 2 ^ h → length down ≡ length (reverse (sides h index last)) → inputs_down body index (suc last) down ≡ trail body (reverse (sides h index last)) down
inputs_trail [] body h index last within fits e = inputs_nil body index (suc last) ∙ sym (trail_nil body (reverse (sides h index last)))
inputs_trail (sibling ∷ others) body h index zero within fits e =
    let no_index : index ≡ 0 = omega arith in
    let none : length (sibling ∷ others) ≡ 0 = rw (no_index, sides_end h) at e in
    absurd (omega arith)
inputs_trail (sibling ∷ others) body h index (suc last) within fits e =
    let s = split_at last in
    let low = s.1.low in
    let k = split (suc (suc last)) in
    ⊎_elim
    (λ (left : index < split (suc (suc last))).
    let part = left_part h index (suc last) k s.0 s.1 within fits left in
    let whole : suc (k - 1) ≡ k = omega arith in
    let more : length (sibling ∷ others) ≡ suc (length (reverse (sides s.0 index (k - 1)))) = rw part.1 at e in
    let below = rw whole at (inputs_trail others body s.0 index (k - 1) (omega arith) part.0 (omega arith)) in
    inputs_left body index (suc (suc last)) sibling others left ∙ (ap (over Right sibling) below ∙ rw part.1 (sym (trail_over body Right (reverse (sides s.0 index (k - 1))) sibling others))))
    (λ (right : split (suc (suc last)) ≤ index).
    let part = right_part h index (suc last) k s.0 s.1 within fits right in
    let whole : suc (suc last - k) ≡ suc (suc last) - k = omega arith in
    let more : length (sibling ∷ others) ≡ suc (length (reverse (sides s.0 (index - k) (suc last - k)))) = rw part.1 at e in
    let below = rw whole at (inputs_trail others body s.0 (index - k) (suc last - k) (omega arith) part.0 (omega arith)) in
    inputs_right body index (suc (suc last)) sibling others right ∙ (ap (over Left sibling) below ∙ rw part.1 (sym (trail_over body Left (reverse (sides s.0 (index - k) (suc last - k))) sibling others))))
    (cases_lt index (split (suc (suc last))))

-- where both roots are one, the first inputs that differ are a collision
pub found : (ds : List Side) (p q : List (List ℕ)) (a b : List ℕ) → length p ≡ length ds → length q ≡ length ds → (x y : List ℕ) → first_difference (trail a ds p) (trail b ds q) ≡ Some (x, y) → digest_of (trail a ds p) ≡ digest_of (trail b ds q) → IsCollision x y
unfolding trail first_difference
found [] p q a b l m x y first same = differ_here (leaf_input a) (leaf_input b) None x y first same (λ _ none. absurd (none-some _ none))
found (side ∷ below) [] q a b l m x y first same = absurd (omega arith)
found (side ∷ below) (v ∷ p) [] a b l m x y first same = absurd (omega arith)
found (side ∷ below) (v ∷ p) (w ∷ q) a b l m x y first same =
    let da = digest_of (trail a below p) in
    let db = digest_of (trail b below q) in
    differ_here (input_at side da v) (input_at side db w) (first_difference (trail a below p) (trail b below q)) x y first same
    (λ inputs deeper.
    let one = input_parts side da v db w (length_digest a below p ∙ sym (length_digest b below q)) inputs in
    found below p q a b (omega arith) (omega arith) x y deeper one.0)

-- where no inputs differ, the leaves and the paths are equal
pub nothing_differs : (ds : List Side) (p q : List (List ℕ)) (a b : List ℕ) → length p ≡ length ds → length q ≡ length ds → first_difference (trail a ds p) (trail b ds q) ≡ None → (a ≡ b) × (p ≡ q)
unfolding trail first_difference
nothing_differs [] [] [] a b l m none = (ap (λ (xs : List ℕ). drop 1 xs) (same_here (leaf_input a) (leaf_input b) None none).0, refl)
nothing_differs [] (v ∷ p) q a b l m none = absurd (omega arith)
nothing_differs [] [] (w ∷ q) a b l m none = absurd (omega arith)
nothing_differs (side ∷ below) [] q a b l m none = absurd (omega arith)
nothing_differs (side ∷ below) (v ∷ p) [] a b l m none = absurd (omega arith)
nothing_differs (side ∷ below) (v ∷ p) (w ∷ q) a b l m none =
    let da = digest_of (trail a below p) in
    let db = digest_of (trail b below q) in
    let here = same_here (input_at side da v) (input_at side db w) (first_difference (trail a below p) (trail b below q)) none in
    let one = input_parts side da v db w (length_digest a below p ∙ sym (length_digest b below q)) here.0 in
    let rest = nothing_differs below p q a b (omega arith) (omega arith) here.1 in
    let head = one.1 in
    let tail = rest.1 in
    (rest.0, cc)
