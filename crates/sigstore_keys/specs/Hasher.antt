-- What a hasher of artifacts has seen, and hashers that are given the same bytes.
use Rattle.std.specs.Prelude.{◌≡◌, ℕ, List, [], ◌∷◌, ◌++◌, ⊤}
use Rattle.std.proofs.Common.{refl, sym, ap, subst, ◌∙◌, append_assoc}
use Rattle.sha2.specs.Hashers.{Holds256, Holds384, Holds512}
use Rattle.sigstore_types_parts.specs.declared.hash_algorithm.HashAlgorithm.{HashAlgorithm}
use Rattle.sigstore_types_parts.specs.declared.hash_algorithm.HashAlgorithm.TheVariants.{Sha2256, Sha2384, Sha2512}
use Rattle.sigstore_keys.specs.declared.hasher.ArtifactHasher.{ArtifactHasher}
use Rattle.sigstore_keys.specs.declared.hasher.Sha256Hasher.{Sha256Hasher}
use Rattle.sigstore_keys.specs.declared.hasher.Inner.{Inner}
use Rattle.sigstore_keys.specs.declared.hasher.Inner.TheVariants as inner

append_none : (m : List ℕ) → m ++ [] ≡ m
append_none [] = refl
append_none (x ∷ xs) = ap (λ t. x ∷ t) (append_none xs)

-- the hasher within has seen these bytes
abbrev pub InnerHolds : Inner → List ℕ → Type 0
InnerHolds (inner.Sha256 hasher) seen = Holds256 hasher seen
InnerHolds (inner.Sha384 hasher) seen = Holds384 hasher seen
InnerHolds (inner.Sha512 hasher) seen = Holds512 hasher seen

abbrev pub inner_algorithm : Inner → HashAlgorithm
inner_algorithm (inner.Sha256 hasher) = Sha2256
inner_algorithm (inner.Sha384 hasher) = Sha2384
inner_algorithm (inner.Sha512 hasher) = Sha2512

-- the algorithm of a hasher
abbrev pub algorithm_in : ArtifactHasher → HashAlgorithm
algorithm_in hasher = inner_algorithm hasher.inner

-- a hasher has seen these bytes
abbrev pub Holds : ArtifactHasher → List ℕ → Type 0
Holds hasher seen = InnerHolds hasher.inner seen

-- the hasher after these bytes: its algorithm is the same, and it has seen them behind those that it had seen
pub record Grows (old : ArtifactHasher) (bytes : List ℕ) (new : ArtifactHasher) : Type 0 where
  pub same : algorithm_in new ≡ algorithm_in old
  pub sees : (seen : List ℕ) → Holds old seen → Holds new (seen ++ bytes)

pub grows-none : (h : ArtifactHasher) → Grows h [] h
grows-none h = record { same = refl; sees = λ seen it. subst (Holds h) (sym (append_none seen)) it }

pub grows-more : (h k l : ArtifactHasher) (a b : List ℕ) → Grows h a k → Grows k b l → Grows h (a ++ b) l
grows-more h k l a b p q = record {
  same = q.same ∙ p.same;
  sees = λ seen it. subst (Holds l) (append_assoc seen a b) (q.sees (seen ++ a) (p.sees seen it));
}

-- the same of a hasher of SHA-256
abbrev pub Grows256 : Sha256Hasher → List ℕ → Sha256Hasher → Type 0
Grows256 old bytes new = (seen : List ℕ) → Holds256 old.inner seen → Holds256 new.inner (seen ++ bytes)

pub grows256-none : (h : Sha256Hasher) → Grows256 h [] h
grows256-none h seen it = subst (Holds256 h.inner) (sym (append_none seen)) it

pub grows256-more : (h k l : Sha256Hasher) (a b : List ℕ) → Grows256 h a k → Grows256 k b l → Grows256 h (a ++ b) l
grows256-more h k l a b p q seen it = subst (Holds256 l.inner) (append_assoc seen a b) (q (seen ++ a) (p seen it))

-- each hasher of a list is the one before, after these bytes
abbrev pub Fed : {H : Type 0} → (H → List ℕ → H → Type 0) → List H → List H → List ℕ → Type 0
Fed grows [] [] bytes = ⊤
Fed grows (h ∷ hs) (k ∷ ks) bytes = grows h bytes k × Fed grows hs ks bytes
Fed grows [] (k ∷ ks) bytes = ⊥
Fed grows (h ∷ hs) [] bytes = ⊥
