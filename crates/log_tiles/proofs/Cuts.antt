-- Octets cut into hashes.
use Rattle.std.proofs.Common.{◌≡◌, ℕ, zero, suc, ◌*◌, ◌<◌, ◌≤◌, List, [], ◌∷◌, ◌++◌, length, take, drop, refl, sym, ◌∙◌, ap}
use Rattle.std.proofs.Common.{arith, append_assoc, length-drop}
use Rattle.std.proofs.lemmas.List.{append-nil}
use Rattle.log_tiles.specs.Tiles.{hashes_in}

abbrev pub Cut : List ℕ → List ℕ → List (List ℕ) → Type 0
Cut octets rest hashes =
    (count : ℕ) → length octets ≡ 32 * count → (left : ℕ) × (length rest ≡ 32 * left)
    × (hashes ++ hashes_in left rest ≡ hashes_in count octets)

pub length_in : (count : ℕ) (octets : List ℕ) → length (hashes_in count octets) ≡ count
unfolding hashes_in
length_in zero octets = refl
length_in (suc count) octets = ap suc (length_in count (drop 32 octets))

one_more : (left : ℕ) (rest : List ℕ) (hashes : List (List ℕ))
    → (hashes ++ take 32 rest ∷ []) ++ hashes_in left (drop 32 rest) ≡ hashes ++ hashes_in (suc left) rest
unfolding hashes_in
one_more left rest hashes = append_assoc hashes (take 32 rest ∷ []) (hashes_in left (drop 32 rest))

step : (octets rest : List ℕ) (hashes : List (List ℕ)) (count left : ℕ) → 32 ≤ length rest → length rest ≡ 32 * left
    → hashes ++ hashes_in left rest ≡ hashes_in count octets
    → (l : ℕ) × (length (drop 32 rest) ≡ 32 * l) × ((hashes ++ take 32 rest ∷ []) ++ hashes_in l (drop 32 rest) ≡ hashes_in count octets)
step octets rest hashes count zero h l e = absurd (omega arith)
step octets rest hashes count (suc left) h l e = (left, omega (arith, length-drop 32 rest), one_more left rest hashes ∙ e)

pub cut_more : (octets rest behind hash : List ℕ) (hashes longer : List (List ℕ)) → 32 ≤ length rest → hash ≡ take 32 rest
    → behind ≡ drop 32 rest
    → longer ≡ hashes ++ hash ∷ [] → Cut octets rest hashes → Cut octets behind longer
cut_more octets rest behind hash hashes longer h a b e cut count whole =
    let now = cut count whole in
    rw (e, b, a) (step octets rest hashes count now.0 h now.1 now.2)

none_left : (rest : List ℕ) (hashes : List (List ℕ)) (left : ℕ) → left ≡ 0 → hashes ++ hashes_in left rest ≡ hashes
unfolding hashes_in
none_left rest hashes left e = rw e (append-nil hashes)

pub cut_end : (octets rest : List ℕ) (hashes : List (List ℕ)) → length rest < 32 → Cut octets rest hashes → (count : ℕ)
    → length octets ≡ 32 * count → hashes ≡ hashes_in count octets
cut_end octets rest hashes h cut count whole =
    let now = cut count whole in
    let none : now.0 ≡ 0 = omega (arith, now.1, h) in
    sym (none_left rest hashes now.0 none) ∙ now.2
