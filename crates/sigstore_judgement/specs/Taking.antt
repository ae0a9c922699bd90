-- What the taking of an artifact's digests promises.
use Rattle.std.specs.Prelude.{◌≡◌, ◌⊎◌, ℕ, ◌≤◌, List, true, false, Result, IfOk, IfErr}
use Rattle.std.specs.List.{list_all}
use Rattle.foundation.specs.Watched.{Watched}
use Rattle.sigstore_types_parts.specs.declared.hash_algorithm.HashAlgorithm.{HashAlgorithm}
use Rattle.sigstore_keys.specs.Digest.{is_hashed, digests_by}
use Rattle.sigstore_keys.specs.declared.reader.ReadError.{ReadError}
use Rattle.sigstore_judgement.specs.declared.error.Error.{Error}
use Rattle.sigstore_judgement.specs.declared.error.Error.TheVariants.{ArtifactRead, Crypto, NoMemory}
use Rattle.sigstore_judgement.specs.Promise.{ReadWhole, ReadCause, TookWithin}

-- why there are no hashers: an algorithm has none, as those of FIPS 202; or out of memory, where each has one
abbrev pub Unhashed : List HashAlgorithm → Error → Type 0
Unhashed algorithms e =
    ((e ≡ Crypto) × (list_all is_hashed algorithms ≡ false)) ⊎ ((e ≡ NoMemory) × (list_all is_hashed algorithms ≡ true))

-- the digests are those of bytes that were read to the end; a refusal is the reading's, or want of memory
pub record Takes (old new : Watched (List ℕ)) (max : ℕ) (algorithms : List HashAlgorithm)
    (result : Result (List (HashAlgorithm × List ℕ)) Error) : Type 0 where
  pub later : old.faults ≤ new.faults
  pub within : TookWithin old new max
  pub taken : IfOk result (λ digests. (bytes : List ℕ) × ReadWhole old new max bytes × (digests ≡ digests_by algorithms bytes))
  pub refused : IfErr result (λ e. (e ≡ NoMemory) ⊎ ((fault : ReadError) × (e ≡ ArtifactRead fault) × ReadCause old new max fault))
