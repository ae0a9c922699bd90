-- What a proof from tiles shows.
use Rattle.std.proofs.Common.{◌≡◌, ℕ, ◌<◌, ◌≤◌, List, [], length, map, take, true, Ok, Err}
use Rattle.std.proofs.Common.{refl, sym, ◌∙◌, arith, subst}
use Rattle.std.specs.Prelude.{All}
use Rattle.std.proofs.Math.Seq.{take-take}
use Rattle.std.proofs.lemmas.List.{get_or-take}
use Rattle.foundation.specs.Watched.{Watched, IfTold}
use Rattle.log_tiles.specs.Consistency.{AreSizes}
use Rattle.log_tiles.specs.Whole.{tree_hash}
use Rattle.log_tiles.specs.Proofs.{path_of, proof_of}
use Rattle.log_tiles.specs.Source.{Leaves}
use Rattle.log_tiles.specs.declared.error.TileError.{TileError}
use Rattle.log_tiles.specs.Asked.{first_leaves, IsPathPart, IsProofPart, OfParts, OfPath, OfProof}
use Rattle.log_tiles.specs.Reading.{Computes, ArePathParts, AreProofParts, ArePartHashes, part_hash}
use Rattle.log_tiles.specs.declared.place.Part.{Part}
use Rattle.log_tiles.specs.Proving.{IsPath, IsProof}
use Rattle.log_tiles.proofs.TreeHashes.{front_length}
use Rattle.log_tiles.proofs.Fetched.{if_told, cause_more}
use Rattle.log_tiles.proofs.Rooted.{path_root, proof_root}

pub is_path : (index size : ℕ) (leaves path : Leaves) → index < size → size ≤ length leaves → path ≡ path_of index (take size leaves)
    → IsPath index size leaves path
is_path index size leaves path inside held e =
    let whole = front_length size leaves held in
    record {
      hashes = e;
      root = rw (e, ← get_or-take size leaves index [] inside) (path_root size index size (take size leaves) (sym whole) (omega arith)
          inside);
    }

pub is_proof : (first second : ℕ) (leaves proof : Leaves) → AreSizes first second → second ≤ length leaves
    → proof ≡ proof_of first (take second leaves) → IsProof first second leaves proof
is_proof first second leaves proof sizes held e =
    let whole = front_length second leaves held in
    let older = take-take first second leaves sizes.grown in
    record {
      hashes = e;
      accepted =
          record {
            sizes = sizes;
            roots = rw (e, ← older)
                (proof_root second first second true (take second leaves) (tree_hash (take first (take second leaves))) (sym whole)
                (omega arith)
                sizes.some sizes.grown (λ same. refl));
          };
    }

path_given : (index size : ℕ) (parts : List Part) (leaves items hashes : Leaves) → index < size
    → ArePathParts index (record { start = 0; count = size }) parts → items ≡ hashes → size ≤ length leaves
    → hashes ≡ map (part_hash leaves) parts → IsPath index size leaves items
path_given index size parts leaves items hashes inside is e held read =
    is_path index size leaves items inside held (e ∙ (read ∙ is.path leaves (omega arith)))

pub path_made : (index size : ℕ) (old new : Watched Leaves) (parts looked : List Part) (items hashes : Leaves) → index < size
    → ArePathParts index (record { start = 0; count = size }) parts → looked ≡ parts → items ≡ hashes
    → Computes (OfParts looked) size old new (ArePartHashes looked) (Ok hashes) → IfTold old.told
    (λ leaves. size ≤ length leaves → IsPath index size leaves items)
path_made index size old new parts looked items hashes inside is l e c =
    if_told old.told _ _
    (λ leaves given held. path_given index size parts leaves items hashes inside is e held (rw l at (given held))) c.given

pub path_failed : {V : Type 0} (index size : ℕ) (old new : Watched Leaves) (parts looked : List Part) (is : Leaves → V → Type 0)
    (e : TileError)
    → ArePathParts index (first_leaves size) parts → looked ≡ parts → Computes (OfParts looked) size old new (ArePartHashes looked) (Err e)
    → Computes (OfPath index size) size old new is (Err e)
path_failed index size old new parts looked is e are l c =
    let all : All (IsPathPart index (first_leaves size)) looked = rw l are.asked in
    record {
      since = c.since;
      given = tt;
      refused = cause_more (OfParts looked) (OfPath index size) size old new e
          (λ level tile any.
          record { part = any.1; in_path = subst (IsPathPart index (first_leaves size)) any.3 (all any.0 any.1 any.2); of_part = any.4 })
          c.refused;
    }

proof_given : (first second : ℕ) (parts : List Part) (leaves items hashes : Leaves) → AreSizes first second
    → AreProofParts first true (record { start = 0; count = second }) parts → items ≡ hashes → second ≤ length leaves
    → hashes ≡ map (part_hash leaves) parts → IsProof first second leaves items
proof_given first second parts leaves items hashes sizes is e held read =
    is_proof first second leaves items sizes held (e ∙ (read ∙ is.proof leaves (omega arith)))

pub proof_made : (first second : ℕ) (old new : Watched Leaves) (parts looked : List Part) (items hashes : Leaves) → AreSizes first second
    → AreProofParts first true (record { start = 0; count = second }) parts → looked ≡ parts → items ≡ hashes
    → Computes (OfParts looked) second old new (ArePartHashes looked) (Ok hashes) → IfTold old.told
    (λ leaves. second ≤ length leaves → IsProof first second leaves items)
proof_made first second old new parts looked items hashes sizes is l e c =
    if_told old.told _ _
    (λ leaves given held. proof_given first second parts leaves items hashes sizes is e held (rw l at (given held))) c.given

pub proof_failed : {V : Type 0} (first second : ℕ) (old new : Watched Leaves) (parts looked : List Part) (is : Leaves → V → Type 0)
    (e : TileError)
    → AreProofParts first true (first_leaves second) parts → looked ≡ parts → Computes (OfParts looked) second old new (ArePartHashes looked) (Err e)
    → Computes (OfProof first second) second old new is (Err e)
proof_failed first second old new parts looked is e are l c =
    let all : All (IsProofPart first true (first_leaves second)) looked = rw l are.asked in
    record {
      since = c.since;
      given = tt;
      refused = cause_more (OfParts looked) (OfProof first second) second old new e
          (λ level tile any.
          record { part = any.1; in_proof = subst (IsProofPart first true (first_leaves second)) any.3 (all any.0 any.1 any.2); of_part = any.4 })
          c.refused;
    }
