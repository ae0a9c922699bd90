-- The leaves of a tree's parts.
use Rattle.std.proofs.Common.{◌≡◌, ℕ, zero, suc, ◌+◌, ◌*◌, ◌/◌, ◌<◌, ◌≤◌, List, length, take, drop, get_or, Option, Some, None}
use Rattle.std.proofs.Common.{Result, Ok, Err, sym, ◌∙◌, ap, arith}
use Rattle.std.proofs.Math.Nat.{add-mul}
use Rattle.std.proofs.Math.Seq.{take-take}
use Rattle.std.proofs.lemmas.Nat.{le-div}
use Rattle.std.proofs.lemmas.List.{drop-drop, drop-take}
use Rattle.foundation.specs.Watched.{Watched, IfTold, Since}
use Rattle.sigstore_merkle.specs.Tree.{split, node_hash}
use Rattle.log_tiles.specs.Tiles.{run_of, leaves_at}
use Rattle.log_tiles.specs.Source.{Leaves}
use Rattle.log_tiles.specs.Asked.{AreHalves, IsPlaceOf, IsTileOf, OfParts, tile_own, tile_left, tile_right}
use Rattle.log_tiles.specs.Reading.{IsPlace, IsThis, IsPlaceHash, IsInside, IsPartHash, ArePartHashes, part_hash, Computes}
use Rattle.log_tiles.specs.declared.place.Place.{Place}
use Rattle.log_tiles.specs.declared.place.Part.{Part}
use Rattle.log_tiles.specs.declared.error.TileError.{TileError}
use Rattle.log_tiles.proofs.TreeHashes.{tree_of_parts, front_length, back_length}
use Rattle.log_tiles.proofs.Fetched.{if_told, told_back, cause_more, cause_behind}

pub length_at : (start count : ℕ) (leaves : Leaves) → start + count ≤ length leaves → length (leaves_at start count leaves) ≡ count
length_at start count leaves h =
    let back = back_length start leaves (omega arith) in
    front_length count (drop start leaves) (omega arith)

pub leaves_front : (part left right : Part) (leaves : Leaves) → AreHalves part left right
    → leaves_at left.start left.count leaves ≡ take (split part.count) (leaves_at part.start part.count leaves)
leaves_front part left right leaves h =
    let below = h.below in
    rw (h.left_start, h.left_count) (sym (take-take (split part.count) part.count (drop part.start leaves) (omega arith)))

pub leaves_back : (part left right : Part) (leaves : Leaves) → AreHalves part left right
    → leaves_at right.start right.count leaves ≡ drop (split part.count) (leaves_at part.start part.count leaves)
leaves_back part left right leaves h =
    let whole : part.count ≡ split part.count + right.count = omega (arith, h.right_count) in
    sym
    (ap (λ (n : ℕ). drop (split part.count) (take n (drop part.start leaves))) whole
    ∙ (drop-take (split part.count) right.count (drop part.start leaves)
    ∙ (ap (λ (xs : Leaves). take right.count xs) (drop-drop (split part.count) part.start leaves)
    ∙ ap (λ (n : ℕ). take right.count (drop n leaves)) (sym h.right_start))))

node_of_halves : (part left right : Part) (leaves : Leaves) → AreHalves part left right → part.start + part.count ≤ length leaves
    → node_hash (part_hash leaves left) (part_hash leaves right) ≡ part_hash leaves part
node_of_halves part left right leaves h fits =
    let lengths = length_at part.start part.count leaves fits in
    tree_of_parts (leaves_at part.start part.count leaves) (leaves_at left.start left.count leaves)
    (leaves_at right.start right.count leaves)
    (split part.count) (ap split (sym lengths)) (omega (arith, lengths, h.many)) (leaves_front part left right leaves h)
    (leaves_back part left right leaves h)

-- ---- one call and then another

pub since_then : (a b c : Watched Leaves) → Since a b → Since b c → Since a c
since_then a b c one two = record { same = two.same ∙ one.same; later = omega (arith, one.later, two.later) }

if_both : (told : Option Leaves) (P Q R : Leaves → Type 0) → ((leaves : Leaves) → P leaves → Q leaves → R leaves) → IfTold told P
    → IfTold told Q → IfTold told R
if_both None P Q R f p q = tt
if_both (Some leaves) P Q R f p q = f leaves p q

pub halves_ok : (size : ℕ) (a b c : Watched Leaves) (part left right : Part) (older newer : List ℕ) → AreHalves part left right
    → IsInside size part
    → Computes (IsTileOf left) size a b (IsPartHash left) (Ok older) → Computes (IsTileOf right) size b c (IsPartHash right) (Ok newer)
    → Computes (IsTileOf part) size a c (IsPartHash part) (Ok (node_hash older newer))
halves_ok size a b c part left right older newer h is one two =
    record {
      since = since_then a b c one.since two.since;
      given =
          if_both a.told _ _ _
          (λ leaves l r. λ (fits : size ≤ length leaves).
          ap (λ (x : List ℕ). node_hash x newer) (l fits)
          ∙ (ap (node_hash (part_hash leaves left)) (r fits) ∙ node_of_halves part left right leaves h (omega (arith, is.inside))))
          one.given
          (told_back a.told b.told _ one.since.same two.given);
      refused = tt;
    }

pub left_failed : (size : ℕ) (a b : Watched Leaves) (part left right : Part) (place : Place) (e : TileError)
    → IsPlaceOf part.start part.count place → 256 < place.at + place.count → AreHalves part left right
    → Computes (IsTileOf left) size a b (IsPartHash left) (Err e) → Computes (IsTileOf part) size a b (IsPartHash part) (Err e)
left_failed size a b part left right place e of wide h one =
    record {
      since = one.since;
      given = tt;
      refused = cause_more (IsTileOf left) (IsTileOf part) size a b e (λ l i tile. tile_left part left right place l i of wide h tile)
          one.refused;
    }

pub right_failed : (size : ℕ) (a b c : Watched Leaves) (part left right : Part) (place : Place) (older : List ℕ) (e : TileError)
    → IsPlaceOf part.start part.count place → 256 < place.at + place.count → AreHalves part left right
    → Computes (IsTileOf left) size a b (IsPartHash left) (Ok older) → Computes (IsTileOf right) size b c (IsPartHash right) (Err e)
    → Computes (IsTileOf part) size a c (IsPartHash part) (Err e)
right_failed size a b c part left right place older e of wide h one two =
    record {
      since = since_then a b c one.since two.since;
      given = tt;
      refused = cause_behind (IsTileOf part) size a b c e one.since
          (cause_more (IsTileOf right) (IsTileOf part) size b c e (λ l i tile. tile_right part left right place l i of wide h tile)
          two.refused);
    }

pub part_failed : (size : ℕ) (a b c : Watched Leaves) (parts : List Part) (k : ℕ) (part : Part) (e : TileError) → k < length parts
    → part ≡ get_or parts k part → Since a b → Computes (IsTileOf part) size b c (IsPartHash part) (Err e)
    → Computes (OfParts parts) size a c (ArePartHashes parts) (Err e)
part_failed size a b c parts k part e inside is since one =
    record {
      since = since_then a b c since one.since;
      given = tt;
      refused = cause_behind (OfParts parts) size a b c e since
          (cause_more (IsTileOf part) (OfParts parts) size b c e (λ l i tile. (k, part, inside, sym is, tile)) one.refused);
    }

-- ---- a part in one tile

own_tile : (part : Part) (place : Place) (level index : ℕ) → IsPlaceOf part.start part.count place → place.at + place.count ≤ 256
    → IsThis place.level place.index level index → IsTileOf part level index
own_tile part place level index of within same = rw (same.0, same.1) (tile_own part place of within)

pub placed_ok : (size : ℕ) (old new : Watched Leaves) (part : Part) (place : Place) (result : Result (List ℕ) TileError)
    → IsPlaceOf part.start part.count place → place.at + place.count ≤ 256
    → Computes (IsThis place.level place.index) size old new (IsPlaceHash place) result
    → Computes (IsTileOf part) size old new (IsPartHash part) result
placed_ok size old new part place (Ok hash) of within c =
    record {
      since = c.since;
      given = if_told old.told _ _ (λ leaves is held. rw (of.starts, of.counts) (is held)) c.given;
      refused = tt;
    }
placed_ok size old new part place (Err e) of within c =
    record {
      since = c.since;
      given = tt;
      refused = cause_more (IsThis place.level place.index) (IsTileOf part) size old new e
          (λ l i same. own_tile part place l i of within same) c.refused;
    }

some_left : (n count run : ℕ) → n ≡ count * run → 0 < n → 0 < count
some_left n zero run e h = absurd (omega arith)
some_left n (suc count) run e h = omega arith

pub place_inside : (size : ℕ) (part : Part) (place : Place) → IsInside size part → IsPlaceOf part.start part.count place
    → place.at + place.count ≤ 256
    → IsPlace size place
place_inside size part place is of within =
    let sum = add-mul (place.index * 256 + place.at) place.count place.run in
    let fits : (place.index * 256 + place.at + place.count) * place.run ≤ size = omega (arith, sum, of.starts, of.counts, is.inside) in
    let hashes : place.index * 256 + place.at + place.count ≤ size / place.run =
    le-div (place.index * 256 + place.at + place.count) size place.run of.some fits in
    let runs : size / place.run ≡ size / run_of place.level = ap (λ (n : ℕ). size / n) of.run in
    record {
      run = of.run;
      some = some_left part.count place.count place.run of.counts is.some;
      within = omega (arith, within, hashes, runs);
    }
