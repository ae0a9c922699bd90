-- Statements as JSON (in-toto Attestation Framework, Statement v1), as far as they tell which artifacts they are about, and of what kind
-- they are.
use Rattle.std.specs.Prelude.{ℕ, List, [], ◌∷◌, ◌++◌, Bool, false, if◌then◌else◌, Option, Some, None, is_some, Result, Ok}
use Rattle.std.specs.List.{list_any}
use Rattle.std.specs.Str.{str_eq_ignore_ascii_case}
use Rattle.hex.specs.Hex.{encode_lower}
use Rattle.serde_json.specs.Data.{Data}
use Rattle.foundation.specs.Steps.{◌>>=◌}
use Rattle.sigstore_types_parts.specs.Error.{types_of}
use Rattle.sigstore_types_parts.specs.Read as read
use Rattle.sigstore_types_parts.specs.declared.hash_algorithm.HashAlgorithm.{HashAlgorithm}
use Rattle.sigstore_types_parts.specs.declared.hash_algorithm.HashAlgorithm.TheVariants.{Sha2256, Sha2384, Sha2512, Sha3256, Sha3384}
use Rattle.sigstore_types_parts.specs.declared.member.TypesMember.TheVariants as m
use Rattle.sigstore_types_parts.specs.declared.error.TypesError.{TypesError}
use Rattle.sigstore_entries.specs.Entry.{json, required, optional, text}
use Rattle.sigstore_envelopes.specs.declared.statement.Digests.{Digests}
use Rattle.sigstore_envelopes.specs.declared.statement.Subject.{Subject}
use Rattle.sigstore_envelopes.specs.declared.statement.Statement.{Statement}

-- DigestSet: of the algorithms these two are used, and the others are passed over
unfoldable pub digests_of : Data → Result Digests TypesError
digests_of d = do
  sha256 ← optional text m.Sha256 d
  sha512 ← optional text m.Sha512 d
  Ok (record { sha256 = sha256; sha512 = sha512 })

-- ResourceDescriptor, of which the digests are used
unfoldable pub subject_of : Data → Result Subject TypesError
subject_of d = do
  digests ← required digests_of m.Digest d
  Ok (record { sha256 = digests.sha256; sha512 = digests.sha512 })

-- both types are texts of any content, and that of the statement is passed over, as other members are, the predicate among them
unfoldable pub statement_of : Data → Result Statement TypesError
statement_of d = do
  _ ← required text m.StatementType d
  predicate_type ← required text m.PredicateType d
  subjects ← required (read.sequence_of types_of subject_of) m.Subject d
  Ok (record { predicate_type = predicate_type; subjects = subjects })

unfoldable pub statement_of_bytes : List ℕ → Result Statement TypesError
statement_of_bytes bytes = json bytes >>= statement_of

-- ---- which digests the subjects tell

abbrev pub tells_sha256 : Subject → Bool
tells_sha256 subject = is_some subject.sha256

abbrev pub tells_sha512 : Subject → Bool
tells_sha512 subject = is_some subject.sha512

abbrev pub where_told : HashAlgorithm → Bool → List HashAlgorithm
where_told algorithm told = if told then algorithm ∷ [] else []

-- the algorithms of which some subject tells a digest, SHA-256 before SHA-512
abbrev pub algorithms_of : Statement → List HashAlgorithm
algorithms_of statement =
    where_told Sha2256 (list_any tells_sha256 statement.subjects) ++ where_told Sha2512 (list_any tells_sha512 statement.subjects)

-- a text that is there is the digest in hexadecimal, in either case
abbrev pub is_spelled : Option (List ℕ) → List ℕ → Bool
is_spelled None digest = false
is_spelled (Some text) digest = str_eq_ignore_ascii_case text (encode_lower digest)

-- some subject's SHA-256 is this digest
abbrev pub matches_sha256 : Statement → List ℕ → Bool
matches_sha256 statement digest = list_any (λ subject. is_spelled subject.sha256 digest) statement.subjects

-- some subject's SHA-512 is this digest
abbrev pub matches_sha512 : Statement → List ℕ → Bool
matches_sha512 statement digest = list_any (λ subject. is_spelled subject.sha512 digest) statement.subjects

-- some subject's digest by the algorithm is this one; of other algorithms no digest is read
abbrev pub tells : Statement → HashAlgorithm → List ℕ → Bool
tells statement Sha2256 digest = matches_sha256 statement digest
tells statement Sha2384 digest = false
tells statement Sha2512 digest = matches_sha512 statement digest
tells statement Sha3256 digest = false
tells statement Sha3384 digest = false
