-- The parts of a path or of a proof, with the part that is left out at each step.
use Rattle.std.proofs.Common.{◌≡◌, ℕ, zero, suc, ◌+◌, ◌-◌, ◌<◌, ◌≤◌, Bool, true, false, List, [], ◌∷◌, ◌++◌, length, map}
use Rattle.std.proofs.Common.{Result, Ok, Err, IfOk, sym, ◌∙◌, ap, arith}
use Rattle.std.specs.Prelude.{All}
use Rattle.std.proofs.lemmas.List.{map-append}
use Rattle.foundation.specs.declared.no_memory.NoMemory.{NoMemory}
use Rattle.sigstore_merkle.specs.Tree.{split}
use Rattle.log_tiles.specs.Tiles.{leaves_at}
use Rattle.log_tiles.specs.Proofs.{path_of, subproof_of}
use Rattle.log_tiles.specs.Source.{Leaves}
use Rattle.log_tiles.specs.Asked as step
use Rattle.log_tiles.specs.Asked.{AreHalves, IsPathPart, IsProofPart}
use Rattle.log_tiles.specs.Reading.{IsInside, ArePathParts, AreProofParts, part_hash}
use Rattle.log_tiles.specs.declared.place.Part.{Part}
use Rattle.log_tiles.proofs.Halves.{length_at, leaves_front, leaves_back}
use Rattle.log_tiles.proofs.Paths.{path_few, path_left, path_right, subproof_same, subproof_left, subproof_right}

-- ---- what holds of each part

all_none : (P : Part → Type 0) → All P []
all_none P k d h = absurd (omega arith)

all_more : (P : Part → Type 0) (parts : List Part) (last : Part) → All P parts → P last → All P (parts ++ last ∷ [])
all_more P [] last all is zero d h = is
all_more P [] last all is (suc k) d h = absurd (omega arith)
all_more P (part ∷ parts) last all is zero d h = all zero d (omega arith)
all_more P (part ∷ parts) last all is (suc k) d h =
    all_more P parts last (λ i e l. all (suc i) e (omega (arith, l))) is k d (omega (arith, h))

all_map : (P Q : Part → Type 0) (parts : List Part) → ((part : Part) → P part → Q part) → All P parts → All Q parts
all_map P Q parts f all k d h = f _ (all k d h)

with_last : (leaves : Leaves) (parts : List Part) (last : Part) (before : Leaves) → map (part_hash leaves) parts ≡ before
    → map (part_hash leaves) (parts ++ last ∷ []) ≡ before ++ part_hash leaves last ∷ []
with_last leaves parts last before e =
    map-append (part_hash leaves) parts (last ∷ []) ∙ ap (λ (xs : Leaves). xs ++ part_hash leaves last ∷ []) e

left_inside : (size : ℕ) (part left right : Part) → AreHalves part left right → part.start + part.count ≤ size
    → (left.start + left.count ≤ size) × IsInside size left
left_inside size part left right h fits =
    let below = h.below in
    let within : left.start + left.count ≤ size = omega (arith, h.left_start, h.left_count) in
    (within, record { some = omega (arith, h.left_count, h.some); inside = within })

right_inside : (size : ℕ) (part left right : Part) → AreHalves part left right → part.start + part.count ≤ size
    → (right.start + right.count ≤ size) × IsInside size right
right_inside size part left right h fits =
    let below = h.below in
    let within : right.start + right.count ≤ size = omega (arith, h.right_start, h.right_count) in
    (within, record { some = omega (arith, h.right_count, below); inside = within })

-- ---- paths

pub path_none : (index : ℕ) (part : Part) → part.count ≡ 1 → ArePathParts index part []
path_none index part e =
    record {
      asked = all_none (IsPathPart index part);
      inside = λ size fits. all_none (IsInside size);
      path = λ leaves fits. sym (path_few index (leaves_at part.start part.count leaves)
          (omega (arith, length_at part.start part.count leaves fits)));
    }

pub path_in_left : (index : ℕ) (part left right : Part) (parts : List Part) (result : Result (List Part) NoMemory)
    → AreHalves part left right
    → index < left.count → ArePathParts index left parts → IfOk result (λ longer. longer ≡ parts ++ right ∷ [])
    → IfOk result (ArePathParts index part)
path_in_left index part left right parts (Err e) h k below longer = tt
path_in_left index part left right parts (Ok all) h k below longer =
    rw longer
    (record {
      asked = all_more (IsPathPart index part) parts right
          (all_map (IsPathPart index left) (IsPathPart index part) parts
          (λ inner is. step.path_in_left index part left right inner h k is) below.asked)
          (step.path_right index part left right h k);
      inside = λ size fits. all_more (IsInside size) parts right (below.inside size (left_inside size part left right h fits).0)
          (right_inside size part left right h fits).1;
      path =
          λ leaves fits.
          let lengths = length_at part.start part.count leaves fits in
          let whole : split part.count ≡ split (length (leaves_at part.start part.count leaves)) = ap split (sym lengths) in
          with_last leaves parts right _ (below.path leaves (left_inside (length leaves) part left right h fits).0)
          ∙ path_left index (leaves_at part.start part.count leaves) (leaves_at left.start left.count leaves)
          (leaves_at right.start right.count leaves)
          (omega (arith, lengths, h.many)) (omega (arith, k, h.left_count, whole)) (rw (← whole) (leaves_front part left right leaves h))
          (rw (← whole) (leaves_back part left right leaves h));
    })

pub path_in_right : (index : ℕ) (part left right : Part) (parts : List Part) (result : Result (List Part) NoMemory)
    → AreHalves part left right
    → left.count ≤ index → ArePathParts (index - left.count) right parts → IfOk result (λ longer. longer ≡ parts ++ left ∷ [])
    → IfOk result (ArePathParts index part)
path_in_right index part left right parts (Err e) h k below longer = tt
path_in_right index part left right parts (Ok all) h k below longer =
    rw longer
    (record {
      asked = all_more (IsPathPart index part) parts left
          (all_map (IsPathPart (index - left.count) right) (IsPathPart index part) parts
          (λ inner is. step.path_in_right index part left right inner h k is) below.asked)
          (step.path_left index part left right h k);
      inside = λ size fits. all_more (IsInside size) parts left (below.inside size (right_inside size part left right h fits).0)
          (left_inside size part left right h fits).1;
      path =
          λ leaves fits.
          let lengths = length_at part.start part.count leaves fits in
          let whole : split part.count ≡ split (length (leaves_at part.start part.count leaves)) = ap split (sym lengths) in
          let index_is : index - left.count ≡ index - split (length (leaves_at part.start part.count leaves)) =
          omega (arith, h.left_count, whole) in
          with_last leaves parts left _ (below.path leaves (right_inside (length leaves) part left right h fits).0)
          ∙ (ap (λ (i : ℕ). path_of i (leaves_at right.start right.count leaves) ++ part_hash leaves left ∷ []) index_is
          ∙ path_right index (leaves_at part.start part.count leaves) (leaves_at left.start left.count leaves)
          (leaves_at right.start right.count leaves)
          (omega (arith, lengths, h.many)) (omega (arith, k, h.left_count, whole)) (rw (← whole) (leaves_front part left right leaves h))
          (rw (← whole) (leaves_back part left right leaves h)));
    })

-- ---- proofs

pub proof_whole : (first : ℕ) (part : Part) → 0 < first → first ≡ part.count → AreProofParts first true part []
proof_whole first part h e =
    record {
      asked = all_none (IsProofPart first true part);
      inside = λ size fits. all_none (IsInside size);
      proof = λ leaves fits.
          sym (subproof_same first true (leaves_at part.start part.count leaves) h (e ∙ sym (length_at part.start part.count leaves fits)));
    }

pub proof_part : (first : ℕ) (part : Part) (result : Result (List Part) NoMemory) → 0 < first → first ≡ part.count
    → IfOk result (λ longer. longer ≡ [] ++ part ∷ []) → IfOk result (AreProofParts first false part)
proof_part first part (Err e) h same longer = tt
proof_part first part (Ok all) h same longer =
    rw longer
    (record {
      asked = all_more (IsProofPart first false part) [] part (all_none (IsProofPart first false part))
          (step.proof_older first part same);
      inside = λ size fits. all_more (IsInside size) [] part (all_none (IsInside size)) (record { some = omega arith; inside = fits });
      proof = λ leaves fits.
          sym (subproof_same first false (leaves_at part.start part.count leaves) h
          (same ∙ sym (length_at part.start part.count leaves fits)));
    })

pub proof_in_left : (first : ℕ) (whole : Bool) (part left right : Part) (parts : List Part) (result : Result (List Part) NoMemory)
    → AreHalves part left right
    → 0 < first → first < part.count → first ≤ left.count → AreProofParts first whole left parts
    → IfOk result (λ longer. longer ≡ parts ++ right ∷ [])
    → IfOk result (AreProofParts first whole part)
proof_in_left first whole part left right parts (Err e) h p q k below longer = tt
proof_in_left first whole part left right parts (Ok all) h p q k below longer =
    rw longer
    (record {
      asked = all_more (IsProofPart first whole part) parts right
          (all_map (IsProofPart first whole left) (IsProofPart first whole part) parts
          (λ inner is. step.proof_in_left first whole part left right inner h k is) below.asked)
          (step.proof_right first whole part left right h k);
      inside = λ size fits. all_more (IsInside size) parts right (below.inside size (left_inside size part left right h fits).0)
          (right_inside size part left right h fits).1;
      proof =
          λ leaves fits.
          let lengths = length_at part.start part.count leaves fits in
          let same : split part.count ≡ split (length (leaves_at part.start part.count leaves)) = ap split (sym lengths) in
          with_last leaves parts right _ (below.proof leaves (left_inside (length leaves) part left right h fits).0)
          ∙ subproof_left first whole (leaves_at part.start part.count leaves) (leaves_at left.start left.count leaves)
          (leaves_at right.start right.count leaves)
          p (omega (arith, lengths, q)) (omega (arith, k, h.left_count, same)) (rw (← same) (leaves_front part left right leaves h))
          (rw (← same) (leaves_back part left right leaves h));
    })

pub proof_in_right : (first : ℕ) (whole : Bool) (part left right : Part) (parts : List Part) (result : Result (List Part) NoMemory)
    → AreHalves part left right
    → 0 < first → first < part.count → left.count < first → AreProofParts (first - left.count) false right parts
    → IfOk result (λ longer. longer ≡ parts ++ left ∷ [])
    → IfOk result (AreProofParts first whole part)
proof_in_right first whole part left right parts (Err e) h p q k below longer = tt
proof_in_right first whole part left right parts (Ok all) h p q k below longer =
    rw longer
    (record {
      asked = all_more (IsProofPart first whole part) parts left
          (all_map (IsProofPart (first - left.count) false right) (IsProofPart first whole part) parts
          (λ inner is. step.proof_in_right first whole part left right inner h k q is) below.asked)
          (step.proof_left first whole part left right h k q);
      inside = λ size fits. all_more (IsInside size) parts left (below.inside size (right_inside size part left right h fits).0)
          (left_inside size part left right h fits).1;
      proof =
          λ leaves fits.
          let lengths = length_at part.start part.count leaves fits in
          let same : split part.count ≡ split (length (leaves_at part.start part.count leaves)) = ap split (sym lengths) in
          let first_is : first - left.count ≡ first - split (length (leaves_at part.start part.count leaves)) =
          omega (arith, h.left_count, same) in
          with_last leaves parts left _ (below.proof leaves (right_inside (length leaves) part left right h fits).0)
          ∙ (ap (λ (i : ℕ). subproof_of i false (leaves_at right.start right.count leaves) ++ part_hash leaves left ∷ []) first_is
          ∙ subproof_right first whole (leaves_at part.start part.count leaves) (leaves_at left.start left.count leaves)
          (leaves_at right.start right.count leaves)
          p (omega (arith, lengths, q)) (omega (arith, k, h.left_count, same)) (rw (← same) (leaves_front part left right leaves h))
          (rw (← same) (leaves_back part left right leaves h)));
    })
