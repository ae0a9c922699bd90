-- Items with their places and their paths.
use Rattle.std.proofs.Common.{◌≡◌, ℕ, suc, ◌+◌, List, [], ◌∷◌, ◌++◌, map, length, append_assoc, arith, sym, ap, ◌∙◌, zero, ◌<◌, ◌≤◌, get_or, drop, drop-cons, add-one, refl, length-append}
use Rattle.std.proofs.lemmas.List.{length-map}
use Rattle.sigstore_merkle.specs.Tree.{leaf_hash}
use Rattle.sigstore_merkle.specs.Whole.{Path, IsTree, lone, joined, with_sibling}
use Rattle.workload.specs.Numbers.{next_number}
use Rattle.workload.specs.Drawn.{drawn_from}
use Rattle.workload.specs.declared.drawn.Drawn.{Drawn}
use Rattle.workload.specs.declared.log.Log.{Log}
use Rattle.command_generate.specs.Supplies.{leaves_of, item_of, items_from}
use Rattle.command_generate.specs.declared.supplies.Item.{Item}

-- where one more is to come
pub item_more : (log : Log) (whole items items' : List Item) (item : Item) (index : ℕ) (drawn : List Drawn) (paths : List Path) (d : Drawn) (p : Path)
    → index < length drawn → index < length paths → d ≡ get_or drawn index d → p ≡ get_or paths index p
    → item ≡ item_of log index d p → items' ≡ items ++ item ∷ []
    → whole ≡ items ++ items_from log index (drop index drawn) (drop index paths)
    → whole ≡ items' ++ items_from log (index + 1) (drop (index + 1) drawn) (drop (index + 1) paths)
item_more log whole items items' item index drawn paths d p h k e f i m g =
    let left : drop index drawn ≡ d ∷ drop (suc index) drawn = drop-cons drawn index d h ∙ ap (λ z. z ∷ drop (suc index) drawn) (sym e) in
    let right : drop index paths ≡ p ∷ drop (suc index) paths = drop-cons paths index p k ∙ ap (λ z. z ∷ drop (suc index) paths) (sym f) in
    let rest = items_from log (suc index) (drop (suc index) drawn) (drop (suc index) paths) in
    let step : items_from log index (drop index drawn) (drop index paths) ≡ item ∷ rest = rw (left, right, i) refl in
    rw (m, add-one) (g ∙ (ap (λ tail. items ++ tail) step ∙ sym (append_assoc items (item ∷ []) rest)))

-- ---- how many there are

pub drawn_many : (index number count : ℕ) → length (drawn_from index number count) ≡ count
drawn_many index number zero = refl
drawn_many index number (suc count) = ap suc (drawn_many (suc index) (next_number number) count)

-- each leaf has a path
pub paths_many : (leaves : List (List ℕ)) (root : List ℕ) (paths : List Path) → IsTree leaves root paths → length paths ≡ length leaves
paths_many _ _ _ (lone leaf) = refl
paths_many _ _ _ (joined left right l r ls rs s a b) =
    let x = paths_many left l ls a in
    let y = paths_many right r rs b in
    let one : length (map (with_sibling r) ls ++ map (with_sibling l) rs) ≡ length (map (with_sibling r) ls) + length (map (with_sibling l) rs) = length-append _ _ in
    let two : length (left ++ right) ≡ length left + length right = length-append _ _ in
    omega (arith, one, two, length-map ls (with_sibling r), length-map rs (with_sibling l), x, y)

items_many : (log : Log) (index : ℕ) (drawn : List Drawn) (paths : List Path) → length paths ≡ length drawn → length (items_from log index drawn paths) ≡ length drawn
items_many log index [] paths h = refl
items_many log index (d ∷ drawn) [] h = absurd (omega (arith, h))
items_many log index (d ∷ drawn) (p ∷ paths) h = ap suc (items_many log (suc index) drawn paths (omega (arith, h)))

pub whole_many : (log : Log) (drawn : List Drawn) (root : List ℕ) (paths : List Path) → IsTree (leaves_of drawn) root paths
    → length (items_from log 0 drawn paths) ≡ length drawn
whole_many log drawn root paths t =
    items_many log 0 drawn paths (paths_many (leaves_of drawn) root paths t ∙ length-map drawn (λ (item : Drawn). leaf_hash item.body))

-- of what was drawn each has a path
pub leaves_many : (leaves : List (List ℕ)) (drawn : List Drawn) (root : List ℕ) (paths : List Path) → IsTree leaves root paths
    → leaves ≡ leaves_of drawn → length paths ≡ length drawn
leaves_many leaves drawn root paths t e =
    paths_many leaves root paths t ∙ (ap length e ∙ length-map drawn (λ (item : Drawn). leaf_hash item.body))

-- no more than were asked for
pub drawn_few : (drawn : List Drawn) (number count : ℕ) → drawn ≡ drawn_from 0 number count → count ≤ 4096 → length drawn ≤ 4096
drawn_few drawn number count e h = omega (arith, ap length e, drawn_many 0 number count, h)
