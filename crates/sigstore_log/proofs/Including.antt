-- An entry passes the tests of its proof and of the proof's checkpoint exactly where it stands at the place that counts and the
-- checkpoint is of that tree.
use Rattle.std.proofs.Common.{◌≡◌, ◌≢◌, ℕ, List, Bool, true, false, ◌&&◌, if◌then◌else◌, bytes_eq, Option, Some, None, Result, Ok, Err, refl, ap, ◌∙◌, ok_or}
use Rattle.std.specs.Prelude.{⊤}
use Rattle.std.proofs.lemmas.Slice.Eq.{bytes_eq-Decides}
use Rattle.foundation.specs.Results.{ok_same, and_true}
use Rattle.jiff_core.specs.declared.timestamp.Timestamp.{Timestamp}
use Rattle.sigstore_keys.specs.Good.{Judge}
use Rattle.sigstore_keys.specs.Keyring.{Ring}
use Rattle.sigstore_merkle.specs.Tree.{leaf_hash, root_from}
use Rattle.sigstore_entries.specs.declared.checkpoint.Checkpoint.{Checkpoint}
use Rattle.sigstore_entries.specs.declared.inclusion_proof.InclusionProof.{InclusionProof}
use Rattle.sigstore_entries.specs.declared.kind_version.KindVersion.{KindVersion}
use Rattle.sigstore_entries.specs.declared.kind_version.KindVersion.TheVariants.{HashedRekordV001, HashedRekordV002, DsseV001, DsseV002, IntotoV002}
use Rattle.sigstore_entries.specs.declared.entry.TransparencyLogEntry.{TransparencyLogEntry}
use Rattle.sigstore_log.specs.declared.error.LogError.{LogError}
use Rattle.sigstore_log.specs.declared.error.LogError.TheVariants as refusal
use Rattle.sigstore_log.specs.Inclusion.{Place, is_root, stands_at, stands_in, place_signed, place_of}
use Rattle.sigstore_log.specs.Signed.{is_signed_by, is_of_tree, checkpoint_judged}
use Rattle.sigstore_log.specs.Logged.{SignedBy, IsOfTree}
use Rattle.sigstore_log.proofs.Signing.{signed_means, signed_passes}

passed : (b : Bool) (d : LogError) (x : ⊤) → ◌≡◌ {A = Result ⊤ LogError} (if b then Ok tt else Err d) (Ok x) → b ≡ true
passed true d x h = refl
passed false d x h = cc

-- ---- the proof

pub some_of : (o : Option InclusionProof) (proof : InclusionProof) → ok_or o refusal.InclusionProof ≡ Ok proof → o ≡ Some proof
some_of None proof h = cc
some_of (Some told) proof h = ap Some (ok_same told proof h)

-- ---- the place

root_means : (o : Option (List ℕ)) (root : List ℕ) → is_root o root ≡ true → o ≡ Some root
root_means None root h = cc
root_means (Some computed) root h = ap Some ((bytes_eq-Decides computed root).0 h)

pub root_passes : (o : Option (List ℕ)) (root : List ℕ) → o ≡ Some root → is_root o root ≡ true
root_passes o root is = ap (λ o. is_root o root) is ∙ (bytes_eq-Decides root root).1 refl

-- the body's leaf and the hashes give the root at the place
abbrev pub StandsAt : List ℕ → List (List ℕ) → Place → Type 0
StandsAt body hashes place = root_from (leaf_hash body) place.index place.size hashes ≡ Some place.root

pub stands_means : (body : List ℕ) (hashes : List (List ℕ)) (o : Option Place) (x : ⊤) → stands_in body hashes o ≡ Ok x → (place : Place) × (o ≡ Some place) × StandsAt body hashes place
stands_means body hashes None x h = cc
stands_means body hashes (Some place) x h =
    (place, refl, root_means (root_from (leaf_hash body) place.index place.size hashes) place.root (passed (stands_at body hashes place) refusal.InclusionProof x h))

pub stands_passes : (body : List ℕ) (hashes : List (List ℕ)) (o : Option Place) (place : Place) → o ≡ Some place → StandsAt body hashes place → stands_in body hashes o ≡ Ok tt
stands_passes body hashes o place is stands =
    ap (stands_in body hashes) is
    ∙ ap (λ (b : Bool). if b then Ok tt else Err refusal.InclusionProof) (root_passes (root_from (leaf_hash body) place.index place.size hashes) place.root stands)

-- ---- the tree

tree_means : (kind : KindVersion) (proof : InclusionProof) (checkpoint : Checkpoint) → is_of_tree kind proof checkpoint ≡ true → IsOfTree kind proof checkpoint
tree_means HashedRekordV001 proof checkpoint h = (bytes_eq-Decides checkpoint.root_hash proof.root_hash).0 h
tree_means HashedRekordV002 proof checkpoint h = tt
tree_means DsseV001 proof checkpoint h = (bytes_eq-Decides checkpoint.root_hash proof.root_hash).0 h
tree_means DsseV002 proof checkpoint h = (bytes_eq-Decides checkpoint.root_hash proof.root_hash).0 h
tree_means IntotoV002 proof checkpoint h = (bytes_eq-Decides checkpoint.root_hash proof.root_hash).0 h

tree_passes : (kind : KindVersion) (proof : InclusionProof) (checkpoint : Checkpoint) → IsOfTree kind proof checkpoint → is_of_tree kind proof checkpoint ≡ true
tree_passes HashedRekordV001 proof checkpoint h = (bytes_eq-Decides checkpoint.root_hash proof.root_hash).1 h
tree_passes HashedRekordV002 proof checkpoint h = refl
tree_passes DsseV001 proof checkpoint h = (bytes_eq-Decides checkpoint.root_hash proof.root_hash).1 h
tree_passes DsseV002 proof checkpoint h = (bytes_eq-Decides checkpoint.root_hash proof.root_hash).1 h
tree_passes IntotoV002 proof checkpoint h = (bytes_eq-Decides checkpoint.root_hash proof.root_hash).1 h

-- ---- the checkpoint

passed_both : (a b : Bool) (d : LogError) (x : ⊤) → ◌≡◌ {A = Result ⊤ LogError} (if a && b then Ok tt else Err d) (Ok x) → (a ≡ true) × (b ≡ true)
passed_both a b d x h = and_true a b (passed (a && b) d x h)

module _ (accepts : Judge) (logs : Ring) (now : Timestamp) (kind : KindVersion) (proof : InclusionProof) where
  pub checkpoint_means : (o : Option Checkpoint) (x : ⊤) → checkpoint_judged accepts logs now kind proof o ≡ Ok x
      → (checkpoint : Checkpoint) × (o ≡ Some checkpoint) × IsOfTree kind proof checkpoint × SignedBy accepts logs now checkpoint
  checkpoint_means None x h = cc
  checkpoint_means (Some checkpoint) x h =
      let both = passed_both (is_of_tree kind proof checkpoint) (is_signed_by accepts logs now checkpoint) refusal.Checkpoint x h in
      (checkpoint, refl, tree_means kind proof checkpoint both.0, signed_means accepts logs now checkpoint both.1)

  pub checkpoint_passes : (o : Option Checkpoint) (checkpoint : Checkpoint) → o ≡ Some checkpoint → IsOfTree kind proof checkpoint → SignedBy accepts logs now checkpoint
      → checkpoint_judged accepts logs now kind proof o ≡ Ok tt
  checkpoint_passes o checkpoint is of_tree signed =
      ap (checkpoint_judged accepts logs now kind proof) is
      ∙ ap (λ (a : Bool). if a && is_signed_by accepts logs now checkpoint then Ok tt else Err refusal.Checkpoint) (tree_passes kind proof checkpoint of_tree)
      ∙ ap (λ (b : Bool). if b then Ok tt else Err refusal.Checkpoint) (signed_passes accepts logs now checkpoint signed)

-- ---- what is wanting where they don't

differs : (a b : List ℕ) → bytes_eq a b ≡ false → a ≢ b
differs a b fails = λ same. let passes = (bytes_eq-Decides a b).1 same in cc

pub tree_fails : (kind : KindVersion) (proof : InclusionProof) (checkpoint : Checkpoint) → is_of_tree kind proof checkpoint ≡ false
    → (kind ≢ HashedRekordV002) × (checkpoint.root_hash ≢ proof.root_hash)
tree_fails HashedRekordV001 proof checkpoint h = (λ k. cc, differs checkpoint.root_hash proof.root_hash h)
tree_fails HashedRekordV002 proof checkpoint h = cc
tree_fails DsseV001 proof checkpoint h = (λ k. cc, differs checkpoint.root_hash proof.root_hash h)
tree_fails DsseV002 proof checkpoint h = (λ k. cc, differs checkpoint.root_hash proof.root_hash h)
tree_fails IntotoV002 proof checkpoint h = (λ k. cc, differs checkpoint.root_hash proof.root_hash h)

none_signed : (entry : TransparencyLogEntry) (o : Option Checkpoint) → place_signed entry o ≡ None → o ≡ None
none_signed entry None h = refl
none_signed entry (Some checkpoint) h = cc

-- there is no place only where there is no checkpoint
pub none_from_place : (kind : KindVersion) (entry : TransparencyLogEntry) (proof : InclusionProof) → place_of kind entry proof ≡ None → proof.checkpoint.checkpoint ≡ None
none_from_place HashedRekordV001 entry proof h = cc
none_from_place HashedRekordV002 entry proof h = none_signed entry proof.checkpoint.checkpoint h
none_from_place DsseV001 entry proof h = cc
none_from_place DsseV002 entry proof h = cc
none_from_place IntotoV002 entry proof h = cc
