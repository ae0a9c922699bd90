-- What a tile that was read shows of a place.
use Rattle.std.proofs.Common.{◌≡◌, ℕ, suc, ◌+◌, ◌-◌, ◌*◌, ◌^◌, ◌<◌, ◌≤◌, List, ◌∷◌, length, take, drop, Option, Result, Ok, Err}
use Rattle.std.proofs.Common.{IfOk, IfErr, refl, sym, ◌∙◌, ap, arith}
use Rattle.std.proofs.Math.Nat.{add-mul}
use Rattle.std.proofs.lemmas.Nat.{mul-le}
use Rattle.std.proofs.lemmas.List.{drop-drop}
use Rattle.foundation.specs.Watched.{Watched, IfTold, Since}
use Rattle.log_tiles.specs.Whole.{tree_hash}
use Rattle.log_tiles.specs.Tiles.{run_of, run_hashes, leaves_at, tile_hashes}
use Rattle.log_tiles.specs.Source.{Leaves}
use Rattle.log_tiles.specs.Cause.{count_in}
use Rattle.log_tiles.specs.Reading.{IsRead, AreRead, IsPlace, IsThis, IsPlaceHash, place_hash, Computes}
use Rattle.log_tiles.specs.declared.place.Place.{Place}
use Rattle.log_tiles.specs.declared.reading.ReadTile.{ReadTile}
use Rattle.log_tiles.specs.declared.error.TileError.{TileError}
use Rattle.log_tiles.specs.declared.error.TileError.TheVariants.{NoMemory}
use Rattle.log_tiles.proofs.TreeHashes.{back_length}
use Rattle.log_tiles.proofs.Runs.{run_power, runs_take, runs_drop, runs_hash}
use Rattle.log_tiles.proofs.Fetched.{if_told, told_back, reach_inside}

pub read_since : (old new : Watched Leaves) (size : ℕ) (read : List ReadTile) → Since old new → AreRead old.told size read
    → AreRead new.told size read
read_since old new size read since all = rw since.same all

pub rest_of : (told : Option Leaves) (size : ℕ) (xs : List ReadTile) (x : ReadTile) (rest : List ReadTile) → xs ≡ x ∷ rest
    → AreRead told size xs → AreRead told size rest
rest_of told size xs x rest e all k d h =
    let whole : AreRead told size (x ∷ rest) = rw e at all in
    whole (suc k) d (omega (arith, h))

-- some hashes of a tile are over the leaves below them
part_of_tile : (run height from at count total : ℕ) (leaves : Leaves) → run ≡ 2 ^ height → 0 < count → at + count ≤ total
    → (from + total) * run ≤ length leaves
    → tree_hash (take count (drop at (run_hashes total run (drop (from * run) leaves))))
    ≡ tree_hash (leaves_at ((from + at) * run) (count * run) leaves)
part_of_tile run height from at count total leaves e some within held =
    let whole : total ≡ at + (total - at) = omega arith in
    let left = runs_drop at (total - at) total run (drop (from * run) leaves) whole in
    let place : drop (at * run) (drop (from * run) leaves) ≡ drop ((from + at) * run) leaves =
    drop-drop (at * run) (from * run) leaves ∙ ap (λ (n : ℕ). drop n leaves) (sym (add-mul from at run)) in
    let taken = runs_take count (total - at) run (drop ((from + at) * run) leaves) (omega arith) in
    let up : (from + at + count) * run ≤ (from + total) * run =
    mul-le (from + at + count) run (from + total) run (omega arith) (omega arith) in
    let sum = add-mul (from + at) count run in
    let back = back_length ((from + at) * run) leaves (omega arith) in
    ap (λ (xs : Leaves). tree_hash (take count xs)) (left ∙ ap (λ (xs : Leaves). run_hashes (total - at) run xs) place)
    ∙ (ap tree_hash taken ∙ runs_hash count count run height (drop ((from + at) * run) leaves) e (omega arith) some (omega arith))

-- what a tile that was read shows of a place
pub shown_of : (told : Option Leaves) (size : ℕ) (tile : ReadTile) (place : Place) → IsRead told size tile → tile.level ≡ place.level
    → tile.index ≡ place.index → IsPlace size place
    → IfTold told (λ leaves. size ≤ length leaves → IsPlaceHash place leaves (place_hash place tile.hashes))
shown_of told size tile place read l i is =
    let power = run_power place.level in
    let some : 0 < count_in size place.level place.index = omega (arith, is.some, is.within) in
    let inside = reach_inside size place.level place.index some in
    if_told told _ _
    (λ (leaves : Leaves) right.
    let hashes : tile.hashes ≡ tile_hashes place.level place.index (count_in size place.level place.index) leaves = rw (l, i) at right in
    (λ (fits : size ≤ length leaves).
    rw (hashes, is.run)
    (part_of_tile (run_of place.level) power.0 (place.index * 256) place.at place.count (count_in size place.level place.index) leaves
    power.1
    is.some is.within (omega (arith, inside, fits)))))
    read.right

pub enough : (told : Option Leaves) (size : ℕ) (tile : ReadTile) (place : Place) → IsRead told size tile → tile.level ≡ place.level
    → tile.index ≡ place.index → IsPlace size place → place.at + place.count ≤ length tile.hashes
enough told size tile place read l i is =
    let counted : length tile.hashes ≡ count_in size place.level place.index = rw (l, i) at read.counted in
    omega (arith, counted, is.within)

pub found_there : (size : ℕ) (seen : Watched Leaves) (tile : ReadTile) (place : Place) (hash : List ℕ) → IsRead seen.told size tile
    → tile.level ≡ place.level → tile.index ≡ place.index → IsPlace size place → hash ≡ place_hash place tile.hashes
    → Computes (IsThis place.level place.index) size seen seen (IsPlaceHash place) (Ok hash)
found_there size seen tile place hash read l i is e =
    record {
      since = record { same = refl; later = omega arith };
      given = rw e (shown_of seen.told size tile place read l i is);
      refused = tt;
    }

pub kept_there : (size : ℕ) (old new : Watched Leaves) (tile : ReadTile) (place : Place) (result : Result (List ℕ) TileError)
    → Since old new → IsRead new.told size tile → tile.level ≡ place.level → tile.index ≡ place.index → IsPlace size place
    → IfOk result (λ hash. hash ≡ place_hash place tile.hashes) → IfErr result (λ e. e ≡ NoMemory)
    → Computes (IsThis place.level place.index) size old new (IsPlaceHash place) result
kept_there size old new tile place (Ok hash) since read l i is e want =
    record {
      since = since;
      given = told_back old.told new.told _ since.same (rw e (shown_of new.told size tile place read l i is));
      refused = tt;
    }
kept_there size old new tile place (Err e) since read l i is hash want = record { since = since; given = tt; refused = rw want tt }
