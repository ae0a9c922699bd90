-- Hashers of an artifact and the digests that they give.
use Rattle.std.specs.Prelude.{◌≡◌, ℕ, List, [], ◌∷◌, ⊤}
use Rattle.sigstore_types_parts.specs.declared.hash_algorithm.HashAlgorithm.{HashAlgorithm}
use Rattle.sigstore_keys.specs.declared.hasher.ArtifactHasher.{ArtifactHasher}
use Rattle.sigstore_keys.specs.Digest.{digest_by}
use Rattle.sigstore_keys.specs.Hasher.{Holds, algorithm_in}

-- one hasher for each algorithm, each of which has seen these bytes
abbrev pub AreOf : List ArtifactHasher → List HashAlgorithm → List ℕ → Type 0
AreOf [] [] bytes = ⊤
AreOf (hasher ∷ hashers) (algorithm ∷ algorithms) bytes =
    ((algorithm_in hasher ≡ algorithm) × Holds hasher bytes) × AreOf hashers algorithms bytes
AreOf [] (algorithm ∷ algorithms) bytes = ⊥
AreOf (hasher ∷ hashers) [] bytes = ⊥

-- each digest is that of its hasher
abbrev pub Finalized : List ArtifactHasher → List (HashAlgorithm × List ℕ) → Type 0
Finalized [] [] = ⊤
Finalized (hasher ∷ hashers) (digest ∷ digests) =
    ((seen : List ℕ) → Holds hasher seen → digest ≡ (algorithm_in hasher, digest_by (algorithm_in hasher) seen)) × Finalized hashers digests
Finalized [] (digest ∷ digests) = ⊥
Finalized (hasher ∷ hashers) [] = ⊥
