-- An artifact as it is judged: its digests by algorithm, and for a blob its bytes.
use Rattle.std.specs.Prelude.{ℕ, List, Bool, true, false, Option, Some, None, is_some, option_map, option_copied, find, if◌then◌else◌}
use Rattle.std.specs.List.{list_all}
use Rattle.sigstore_types_parts.specs.HashAlgorithm.{same_algorithm}
use Rattle.sigstore_types_parts.specs.declared.hash_algorithm.HashAlgorithm.{HashAlgorithm}
use Rattle.sigstore_types_parts.specs.declared.hash_algorithm.Artifact.{Artifact as Given}
use Rattle.sigstore_types_parts.specs.declared.hash_algorithm.Artifact.TheVariants as given
use Rattle.sigstore_keys.specs.Digest.{is_hashed, digest_by}
use Rattle.sigstore_judgement.specs.declared.error.Error.{Error}
use Rattle.sigstore_judgement.specs.declared.error.Error.TheVariants.{UnsupportedArtifact, Crypto}
use Rattle.sigstore_judgement.specs.declared.artifact.KnownArtifact.{KnownArtifact}
use Rattle.sigstore_judgement.specs.declared.artifact.ArtifactInput.{ArtifactInput}
use Rattle.sigstore_judgement.specs.declared.artifact.ArtifactInput.TheVariants as handed

-- all its bytes; those that a reader gave up to its end, of which only digests are kept; or one digest of it alone
pub data Artifact : Type 0 where
  Blob : List ℕ → Artifact
  Read : List ℕ → Artifact
  Digest : HashAlgorithm → List ℕ → Artifact

-- its digest by an algorithm, where it can be had
abbrev pub digest_of : Artifact → HashAlgorithm → Option (List ℕ)
digest_of (Blob bytes) algorithm = if is_hashed algorithm then Some (digest_by algorithm bytes) else None
digest_of (Read bytes) algorithm = if is_hashed algorithm then Some (digest_by algorithm bytes) else None
digest_of (Digest given digest) algorithm = if same_algorithm given algorithm then Some digest else None

-- what is handed in, as an artifact
abbrev pub artifact_of : Given → Artifact
artifact_of (given.Blob bytes) = Blob bytes.now
artifact_of (given.Digest digest) = Digest digest.0 digest.1

-- its bytes, where they are kept
abbrev pub bytes_of : Artifact → Option (List ℕ)
bytes_of (Blob bytes) = Some bytes
bytes_of (Read bytes) = None
bytes_of (Digest given digest) = None

-- How an artifact is handed in: whether its bytes are kept, which digests of it can be had, and the refusal where one that is
-- needed can't.
pub record Kind : Type 0 where
  pub keeps_bytes : Bool
  pub has : HashAlgorithm → Bool
  pub lacking : Error

abbrev pub blob_kind : Kind
blob_kind = record { keeps_bytes = true; has = is_hashed; lacking = Crypto }

abbrev pub read_kind : Kind
read_kind = record { keeps_bytes = false; has = is_hashed; lacking = Crypto }

abbrev pub digest_kind : HashAlgorithm → Kind
digest_kind given = record { keeps_bytes = false; has = same_algorithm given; lacking = UnsupportedArtifact }

abbrev pub kind_of : Artifact → Kind
kind_of (Blob bytes) = blob_kind
kind_of (Read bytes) = read_kind
kind_of (Digest given digest) = digest_kind given

abbrev pub kind_in : ArtifactInput → Kind
kind_in handed.Blob = blob_kind
kind_in handed.Read = read_kind
kind_in (handed.Digest given) = digest_kind given

-- digests by algorithm, where they can be had
abbrev pub Digests : Type 0
Digests = HashAlgorithm → Option (List ℕ)

-- the digest by an algorithm among those that were taken
abbrev pub digest_among : List (HashAlgorithm × List ℕ) → Digests
digest_among digests algorithm = option_map (λ taken. taken.1) (find (λ taken. same_algorithm taken.0 algorithm) digests)

-- each digest that is needed is among them
abbrev pub has_each : List HashAlgorithm → Digests → Bool
has_each needed digest = list_all (λ algorithm. is_some (digest algorithm)) needed

-- what the code has of an artifact: digests, and its bytes where they are kept
abbrev pub digest_had : KnownArtifact → Digests
digest_had had = digest_among had.digests.now

abbrev pub bytes_had : KnownArtifact → Option (List ℕ)
bytes_had had = option_copied had.bytes
