-- The format: one spelling of a chain, and its reading.
use Rattle.std.specs.Prelude.{◌≡◌, ℕ, ◌-◌, List, [], ◌∷◌, ◌++◌, length, drop, true, ◌==◌, if◌then◌else◌, bytes_eq, take}
use Rattle.std.specs.Prelude.{Option, Some, None, Result, Ok, Err, codes, ⊤}
use Rattle.std.specs.List.{AllByRecursion}
use Rattle.std.specs.Str.{is_utf8}
use Rattle.foundation.specs.Steps.{◌>>=◌}
use Rattle.sigstore_tuf_parts.specs.declared.targets.TargetFile.{TargetFile}
use Rattle.sigstore_tuf_rules.specs.declared.chain.RoleDoc.{RoleDoc}
use Rattle.sigstore_tuf_rules.specs.declared.chain.TrustChain.{TrustChain}
use Rattle.trust_archive.specs.declared.archive.Archive.{Archive}
use Rattle.trust_archive.specs.declared.error.ArchiveError.{ArchiveError}
use Rattle.trust_archive.specs.declared.error.ArchiveError.TheVariants as archive
use Rattle.trust_archive.specs.declared.error.Unread.{Unread}
use Rattle.trust_archive.specs.declared.error.Unread.TheVariants.{Left, NoMemory}
use Rattle.trust_archive.specs.Grammar.{Reading, unread_at, fits_of, all_fit_of, counted, counted_at, text_at, list_spelled, list_at, ended_at}

-- ---- an archive holds a chain, but for its target, which the last role's document tells

abbrev pub archive_in : TrustChain → Archive
archive_in chain = record {
  roots = chain.roots;
  timestamp = chain.timestamp;
  snapshot = chain.snapshot;
  roles = chain.roles;
  file = chain.file;
}

abbrev pub with_target : Archive → TargetFile → TrustChain
with_target a target = record {
  roots = a.roots;
  timestamp = a.timestamp;
  snapshot = a.snapshot;
  roles = a.roles;
  target = target;
  file = a.file;
}

-- ---- the opening line: `SIGCHAIN1` and a line feed

abbrev pub opening : List ℕ
opening = codes "SIGCHAIN1" ++ 10 ∷ []

unfoldable pub opening_at : List ℕ → Result (List ℕ) Unread
opening_at bytes = if bytes_eq (take 10 bytes) opening then Ok (drop 10 bytes) else Err (Left (length bytes))

-- ---- a role: its name, its delegator, and 00, or 01 and its document

abbrev pub document_spelled : Option (List ℕ) → List ℕ
document_spelled None = 0 ∷ []
document_spelled (Some bytes) = 1 ∷ counted bytes

abbrev pub some_at : List ℕ → Reading (Option (List ℕ))
some_at bytes = counted_at bytes >>= λ d. Ok (Some d.0, d.1)

unfoldable pub document_at : List ℕ → Reading (Option (List ℕ))
document_at [] = unread_at []
document_at (b ∷ bytes) = if b == 0 then Ok (None, bytes) else if b == 1 then some_at bytes else unread_at (b ∷ bytes)

abbrev pub role_spelled : RoleDoc → List ℕ
role_spelled r = counted r.name ++ (counted r.delegator ++ document_spelled r.bytes)

unfoldable pub role_at : List ℕ → Reading RoleDoc
role_at bytes = do
  name ← text_at bytes
  delegator ← text_at name.1
  document ← document_at delegator.1
  Ok (record { name = name.0; delegator = delegator.0; bytes = document.0 }, document.1)

-- ---- the archive

-- the roots, the timestamp, the snapshot, the roles and the file
abbrev pub octets_of : Archive → List ℕ
octets_of a =
    opening ++ (list_spelled counted a.roots
    ++ (counted a.timestamp ++ (counted a.snapshot ++ (list_spelled role_spelled a.roles ++ counted a.file))))

-- ---- the numbers in them, each of which has four octets, in their order
abbrev pub document_numbers : Option (List ℕ) → List ℕ
document_numbers None = []
document_numbers (Some bytes) = length bytes ∷ []

abbrev pub role_numbers : RoleDoc → List ℕ
role_numbers r = length r.name ∷ length r.delegator ∷ document_numbers r.bytes

abbrev pub each_number : {A : Type 0} → (A → List ℕ) → List A → List ℕ
each_number numbers [] = []
each_number numbers (x ∷ xs) = numbers x ++ each_number numbers xs

abbrev pub counted_numbers : List ℕ → List ℕ
counted_numbers bytes = length bytes ∷ []

unfoldable pub numbers_fit_of : Archive → Result ⊤ ArchiveError
numbers_fit_of a = do
  _ ← fits_of (length a.roots)
  _ ← all_fit_of (each_number counted_numbers a.roots)
  _ ← fits_of (length a.timestamp)
  _ ← fits_of (length a.snapshot)
  _ ← fits_of (length a.roles)
  _ ← all_fit_of (each_number role_numbers a.roles)
  fits_of (length a.file)

-- The spelling of a chain; none where a number in it reaches 2^32.
unfoldable pub spelling_of : TrustChain → Result (List ℕ) ArchiveError
spelling_of chain = numbers_fit_of (archive_in chain) >>= λ _. Ok (octets_of (archive_in chain))

-- ---- the reading

unfoldable pub documents_at : List ℕ → Reading ((List (List ℕ) × List ℕ) × List ℕ)
documents_at bytes = do
  roots ← list_at counted_at bytes
  timestamp ← counted_at roots.1
  snapshot ← counted_at timestamp.1
  Ok (((roots.0, timestamp.0), snapshot.0), snapshot.1)

unfoldable pub parts_of : List ℕ → Result Archive Unread
parts_of bytes = do
  rest ← opening_at bytes
  documents ← documents_at rest
  roles ← list_at role_at documents.1
  file ← counted_at roles.1
  ended_at (record {
    roots = documents.0.0.0;
    timestamp = documents.0.0.1;
    snapshot = documents.0.1;
    roles = roles.0;
    file = file.0;
  }) file.1

-- how many octets stand before the first part that can't be read
abbrev pub format_fault : ℕ → Unread → ArchiveError
format_fault total (Left left) = archive.Format (total - left)
format_fault total NoMemory = archive.NoMemory

abbrev pub in_format : {A : Type 0} → ℕ → Result A Unread → Result A ArchiveError
in_format total (Ok x) = Ok x
in_format total (Err e) = Err (format_fault total e)

abbrev pub archive_of : List ℕ → Result Archive ArchiveError
archive_of bytes = in_format (length bytes) (parts_of bytes)

-- ---- the bytes are the spelling of a chain

-- the names in it are texts, as all names of chains are
abbrev pub HasTexts : RoleDoc → Type 0
HasTexts r = (is_utf8 r.name ≡ true) × (is_utf8 r.delegator ≡ true)

pub record IsSpelling (bytes : List ℕ) (chain : TrustChain) : Type 0 where
  pub texts : AllByRecursion HasTexts chain.roles
  pub is : spelling_of chain ≡ Ok bytes
