-- Which subject of a statement is the artifact: the first one of whose digests is among those that were judged.
use Rattle.std.specs.Prelude.{ℕ, List, Bool, false, ◌||◌, Option, Some, None, option_map, find}
use Rattle.std.specs.Str.{str_eq_ignore_ascii_case}
use Rattle.hex.specs.Hex.{encode_lower}
use Rattle.sigstore_types_parts.specs.declared.hash_algorithm.HashAlgorithm.{HashAlgorithm}
use Rattle.sigstore_types_parts.specs.declared.hash_algorithm.HashAlgorithm.TheVariants.{Sha2256, Sha2512}
use Rattle.sigstore_judgement.specs.Artifact.{digest_among}
use Rattle.verification_details.specs.declared.statement.NamedSubject.{NamedSubject}
use Rattle.verification_details.specs.declared.subject.Digits.{Digits}

-- the judged digest by an algorithm in hexadecimal, where there is one
abbrev pub digits_by : List (HashAlgorithm × List ℕ) → HashAlgorithm → Option (List ℕ)
digits_by digests algorithm = option_map encode_lower (digest_among digests algorithm)

-- those by the algorithms that a statement's subjects are known by
abbrev pub digits_of : List (HashAlgorithm × List ℕ) → Digits
digits_of digests = record { sha256 = digits_by digests Sha2256; sha512 = digits_by digests Sha2512 }

-- both texts are there, and spell the same digest, in either case
abbrev pub is_spelled_so : Option (List ℕ) → Option (List ℕ) → Bool
is_spelled_so None digits = false
is_spelled_so (Some told) None = false
is_spelled_so (Some told) (Some digits) = str_eq_ignore_ascii_case told digits

-- a subject is the artifact, by one of the digests that it tells
abbrev pub is_artifact : Digits → NamedSubject → Bool
is_artifact digits named =
    is_spelled_so named.subject.sha256 digits.sha256 || is_spelled_so named.subject.sha512 digits.sha512

abbrev pub artifact_among : Digits → List NamedSubject → Option NamedSubject
artifact_among digits subjects = find (is_artifact digits) subjects
