-- Whether an entry stands in the tree of a log (RFC 6962, section 2.1.1).
use Rattle.std.specs.Prelude.{ℕ, List, Bool, false, bytes_eq, if◌then◌else◌, Option, Some, None, Result, Ok, Err, ⊤}
use Rattle.sigstore_merkle.specs.Tree.{leaf_hash, root_from}
use Rattle.sigstore_entries.specs.declared.checkpoint.Checkpoint.{Checkpoint}
use Rattle.sigstore_entries.specs.declared.inclusion_proof.InclusionProof.{InclusionProof}
use Rattle.sigstore_entries.specs.declared.kind_version.KindVersion.{KindVersion}
use Rattle.sigstore_entries.specs.declared.kind_version.KindVersion.TheVariants.{HashedRekordV001, HashedRekordV002}
use Rattle.sigstore_entries.specs.declared.kind_version.KindVersion.TheVariants.{DsseV001, DsseV002, IntotoV002}
use Rattle.sigstore_entries.specs.declared.entry.TransparencyLogEntry.{TransparencyLogEntry}
use Rattle.sigstore_log.specs.declared.error.LogError.{LogError}
use Rattle.sigstore_log.specs.declared.error.LogError.TheVariants as refusal

-- where a leaf counts as standing: its index, and the tree's size and root
pub record Place : Type 0 where
  pub index : ℕ
  pub size : ℕ
  pub root : List ℕ

abbrev pub is_root : Option (List ℕ) → List ℕ → Bool
is_root None root = false
is_root (Some computed) root = bytes_eq computed root

-- the body's leaf and the hashes of its path give the root at that place
abbrev pub stands_at : List ℕ → List (List ℕ) → Place → Bool
stands_at body hashes place = is_root (root_from (leaf_hash body) place.index place.size hashes) place.root

-- the place that a proof tells
abbrev pub place_told : InclusionProof → Place
place_told proof = record { index = proof.log_index.value; size = proof.tree_size; root = proof.root_hash }

-- the entry's index in the tree that a checkpoint tells
abbrev pub place_signed : TransparencyLogEntry → Option Checkpoint → Option Place
place_signed entry None = None
place_signed entry (Some checkpoint) =
    Some (record { index = entry.log_index.value; size = checkpoint.tree_size; root = checkpoint.root_hash })

-- The place that counts. An entry of hashedrekord 0.0.2 stands in a log of one tree, whose proofs needn't repeat what the entry and
-- the checkpoint tell.
abbrev pub place_of : KindVersion → TransparencyLogEntry → InclusionProof → Option Place
place_of HashedRekordV001 entry proof = Some (place_told proof)
place_of HashedRekordV002 entry proof = place_signed entry proof.checkpoint.checkpoint
place_of DsseV001 entry proof = Some (place_told proof)
place_of DsseV002 entry proof = Some (place_told proof)
place_of IntotoV002 entry proof = Some (place_told proof)

-- The body stands at the place (else anything could be said to be logged); without a checkpoint that names the place there is none.
abbrev pub stands_in : List ℕ → List (List ℕ) → Option Place → Result ⊤ LogError
stands_in body hashes None = Err refusal.Checkpoint
stands_in body hashes (Some place) = if stands_at body hashes place then Ok tt else Err refusal.InclusionProof

abbrev pub included_of : TransparencyLogEntry → InclusionProof → Result ⊤ LogError
included_of entry proof = stands_in entry.canonicalized_body proof.hashes (place_of entry.kind_version entry proof)
