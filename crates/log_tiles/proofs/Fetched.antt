-- What a source's answer shows of a tile.
use Rattle.std.proofs.Common.{◌≡◌, ℕ, ◌+◌, ◌*◌, ◌/◌, ◌<◌, ◌≤◌, length, Option, Some, None, Result, Ok, Err, IfOk, IfErr, refl, sym}
use Rattle.std.proofs.Common.{◌∙◌, ap, arith}
use Rattle.std.proofs.Math.Nat.{div-mul-le_self}
use Rattle.std.proofs.lemmas.Nat.{mul-le}
use Rattle.foundation.specs.Watched.{Watched, IfTold, Since}
use Rattle.log_tiles.specs.Tiles.{TileSet, run_of, count_of, reach_of, hashes_in}
use Rattle.log_tiles.specs.Source.{Leaves, ReadsTile}
use Rattle.log_tiles.specs.Cause.{count_in, TileCause}
use Rattle.log_tiles.specs.Reading.{IsRead, IsPlace, IsThis, LengthRefused, Fetches}
use Rattle.sigstore_rekor.specs.declared.tile.RekorV2Tile.{RekorV2Tile}
use Rattle.log_tiles.specs.declared.place.Place.{Place}
use Rattle.log_tiles.specs.declared.reading.ReadTile.{ReadTile}
use Rattle.log_tiles.specs.declared.error.TileError.{TileError}
use Rattle.log_tiles.specs.declared.error.TileError.TheVariants.{TileAbsent, TileFailed, TileLength}
use Rattle.log_tiles.specs.declared.error.TileError.TheVariants.{NoMemory}
use Rattle.log_tiles.proofs.Cuts.{length_in}

pub if_told : {A : Type 0} (told : Option A) (P Q : A → Type 0) → ((x : A) → P x → Q x) → IfTold told P → IfTold told Q
if_told None P Q f h = h
if_told (Some x) P Q f h = f x h

pub told_same : {A : Type 0} (old new : Option A) (P : A → Type 0) → new ≡ old → IfTold old P → IfTold new P
told_same old new P e h = rw e h

pub told_back : {A : Type 0} (old new : Option A) (P : A → Type 0) → new ≡ old → IfTold new P → IfTold old P
told_back old new P e h = rw (← e) h

-- ---- a cause

-- of some tiles it is one of more
pub cause_more : (some more : TileSet) (size : ℕ) (old new : Watched Leaves) (e : TileError) → ((l i : ℕ) → some l i → more l i)
    → TileCause some size old new e → TileCause more size old new e
cause_more some more size old new (TileAbsent level index) f cause =
    record { asked_for = f level index cause.asked_for; some = cause.some; inside = cause.inside; lacking = cause.lacking }
cause_more some more size old new TileFailed f cause = cause
cause_more some more size old new (TileLength expected actual) f cause =
    record {
      level = cause.level;
      index = cause.index;
      asked_for = f cause.level cause.index cause.asked_for;
      some = cause.some;
      wanted = cause.wanted;
      other = cause.other;
      untold = cause.untold;
    }
cause_more some more size old new NoMemory f cause = tt
cause_more some more size old new e f cause = absurd cause

-- behind another call it is one of both
pub cause_behind : (asked : TileSet) (size : ℕ) (a b c : Watched Leaves) (e : TileError) → Since a b → TileCause asked size b c e
    → TileCause asked size a c e
cause_behind asked size a b c (TileAbsent level index) since cause =
    record {
      asked_for = cause.asked_for;
      some = cause.some;
      inside = cause.inside;
      lacking = told_back a.told b.told _ since.same cause.lacking;
    }
cause_behind asked size a b c TileFailed since cause = omega (arith, since.later, cause)
cause_behind asked size a b c (TileLength expected actual) since cause =
    record {
      level = cause.level;
      index = cause.index;
      asked_for = cause.asked_for;
      some = cause.some;
      wanted = cause.wanted;
      other = cause.other;
      untold = told_back a.told b.told _ since.same cause.untold;
    }
cause_behind asked size a b c NoMemory since cause = tt
cause_behind asked size a b c e since cause = absurd cause

-- ---- a tile

-- the hashes of a tile in a tree are of this tree
pub reach_inside : (size level index : ℕ) → 0 < count_in size level index → reach_of level index (count_in size level index) ≤ size
reach_inside size level index h =
    let few : index * 256 + count_in size level index ≤ size / run_of level = omega arith in
    let runs = mul-le (index * 256 + count_in size level index) (run_of level) (size / run_of level) (run_of level) few (omega arith) in
    let whole = div-mul-le_self size (run_of level) in
    omega (arith, runs, whole)

ok_read : (size level index : ℕ) (old new : Watched Leaves) (width : Option ℕ) (tile : RekorV2Tile) (read : ReadTile)
    → ReadsTile old new level index width (Ok (Some tile)) → count_of width ≡ count_in size level index → read.level ≡ level
    → read.index ≡ index
    → read.hashes ≡ hashes_in (count_of width) tile.bytes → IsRead new.told size read
ok_read size level index old new width tile read reads counted l i hashes =
    record {
      counted = rw (l, i) (ap length hashes ∙ (length_in (count_of width) tile.bytes ∙ counted));
      right =
          told_same old.told new.told _ reads.same
          (if_told old.told _ _ (λ leaves is. rw (l, i, ← counted) (hashes ∙ is.hashes)) reads.answer);
    }

err_length : (size level index : ℕ) (old new : Watched Leaves) (width : Option ℕ) (tile : RekorV2Tile) (e : TileError)
    → ReadsTile old new level index width (Ok (Some tile)) → count_of width ≡ count_in size level index → 0 < count_in size level index
    → LengthRefused (32 * count_of width) (length tile.bytes) e → TileCause (IsThis level index) size old new e
err_length size level index old new width tile (TileLength expected actual) reads counted some fault =
    record {
      level = level;
      index = index;
      asked_for = (refl, refl);
      some = some;
      wanted = fault.0 ∙ ap (λ (n : ℕ). 32 * n) counted;
      other = λ same. fault.2 (sym fault.1 ∙ (same ∙ fault.0));
      untold = if_told old.told _ _ (λ leaves is. fault.2 is.whole) reads.answer;
    }
err_length size level index old new width tile NoMemory reads counted some fault = tt
err_length size level index old new width tile e reads counted some fault = absurd fault

pub fetched_some : (size level index : ℕ) (old new : Watched Leaves) (width : Option ℕ) (tile : RekorV2Tile)
    (result : Result ReadTile TileError)
    → ReadsTile old new level index width (Ok (Some tile)) → count_of width ≡ count_in size level index → 0 < count_in size level index
    → IfOk result (λ read. read.level ≡ level) → IfOk result (λ read. read.index ≡ index)
    → IfOk result (λ read. read.hashes ≡ hashes_in (count_of width) tile.bytes)
    → IfErr result (LengthRefused (32 * count_of width) (length tile.bytes))
    → Fetches size level index old new result
fetched_some size level index old new width tile (Ok read) reads counted some l i hashes err =
    record {
      since = record { same = reads.same; later = reads.later };
      same_level = l;
      same_index = i;
      read = ok_read size level index old new width tile read reads counted l i hashes;
      refused = tt;
    }
fetched_some size level index old new width tile (Err e) reads counted some l i hashes err =
    record {
      since = record { same = reads.same; later = reads.later };
      same_level = tt;
      same_index = tt;
      read = tt;
      refused = err_length size level index old new width tile e reads counted some err;
    }

pub place_some : (size : ℕ) (place : Place) → IsPlace size place → 0 < count_in size place.level place.index
place_some size place is = omega (arith, is.some, is.within)

pub fetched_none : (size : ℕ) (place : Place) (old new : Watched Leaves) (width : Option ℕ)
    → ReadsTile old new place.level place.index width (Ok None) → count_of width ≡ count_in size place.level place.index
    → IsPlace size place
    → Fetches size place.level place.index old new (Err (TileAbsent place.level place.index))
fetched_none size place old new width reads counted is =
    let some = place_some size place is in
    let inside = reach_inside size place.level place.index some in
    record {
      since = record { same = reads.same; later = reads.later };
      same_level = tt;
      same_index = tt;
      read = tt;
      refused = record { asked_for = (refl, refl); some = some; inside = inside; lacking = rw counted at reads.answer };
    }
