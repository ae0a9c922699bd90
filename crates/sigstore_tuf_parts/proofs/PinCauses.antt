-- A file that isn't the pinned one, and a document that is expired, have the cause of their refusal.
use Rattle.std.proofs.Common.{◌≡◌, ◌≢◌, ℕ, List, length, Bool, true, false, ◌||◌, ◌==◌, if◌then◌else◌, Option, Some, None, is_some, Result, Ok, Err, codes, ℤ, ◌<ℤ◌, int_lt, refl, arith, inl, inr, ⊎_elim}
use Rattle.std.specs.Prelude.{⊤}
use Rattle.std.proofs.lemmas.Bool.Decides.{nat_tests}
use Rattle.jiff_core.specs.declared.timestamp.Timestamp.{Timestamp}
use Rattle.sha2.specs.Sha256.{sha256}
use Rattle.sha2.specs.Sha512.{sha512}
use Rattle.sigstore_types_parts.specs.Entries.{at_name}
use Rattle.sigstore_tuf_text.specs.declared.error.Error.{Error}
use Rattle.sigstore_tuf_text.specs.declared.error.Error.TheVariants.{IntegrityMismatch, Expired}
use Rattle.sigstore_tuf_text.specs.declared.error.Mismatch.TheVariants.{Length, Digest, NoDigest}
use Rattle.sigstore_tuf_parts.specs.Cause.{IsMisspelt, IntegrityCause, ExpiryCause}
use Rattle.sigstore_tuf_parts.specs.Integrity.{Hashes, agrees, length_of, digest_of, supported_of, where_pinned, integrity_of, fresh_of}
use Rattle.sigstore_tuf_parts.proofs.Steps.{same_refusal, refused_by}

other_number : (m n : ℕ) → (m == n) ≡ false → m ≢ n
other_number m n h = grind (arith, nat_tests)

neither : (a b : Option (List ℕ)) → (is_some a || is_some b) ≡ false → (a ≡ None) × (b ≡ None)
neither None None h = (refl, refl)
neither None (Some t) h = cc
neither (Some t) b h = cc

-- a test that fails gives its refusal
by_test : (P : Error → Type 0) (b : Bool) (a e : Error) → ◌≡◌ {A = Result ⊤ Error} (if b then Ok tt else Err a) (Err e) → (b ≡ false → P a) → P e
by_test P true a e h cause = cc
by_test P false a e h cause = same_refusal P a e h (cause refl)

misspelt : (digest : List ℕ) (o : Option (List ℕ)) → agrees digest o ≡ false → IsMisspelt digest o
misspelt digest None h = cc
misspelt digest (Some t) h = (t, refl, h)

length_cause : (size : Option ℕ) (hashes : Option Hashes) (bytes : List ℕ) (e : Error) → length_of size bytes ≡ Err e → IntegrityCause size hashes bytes e
length_cause None hashes bytes e h = cc
length_cause (Some n) hashes bytes e h =
    by_test (IntegrityCause (Some n) hashes bytes) (length bytes == n) (IntegrityMismatch Length) e h (λ other. (n, refl, other_number (length bytes) n other))

digest_cause : (size : Option ℕ) (map : Hashes) (bytes digest name : List ℕ) (e : Error)
    → (IsMisspelt digest (at_name name map) → IntegrityCause size (Some map) bytes (IntegrityMismatch Digest)) → digest_of digest (at_name name map) ≡ Err e → IntegrityCause size (Some map) bytes e
digest_cause size map bytes digest name e cause h =
    by_test (IntegrityCause size (Some map) bytes) (agrees digest (at_name name map)) (IntegrityMismatch Digest) e h (λ other. cause (misspelt digest (at_name name map) other))

supported_cause : (size : Option ℕ) (map : Hashes) (bytes : List ℕ) (e : Error) → supported_of map ≡ Err e → IntegrityCause size (Some map) bytes e
supported_cause size map bytes e h =
    by_test (IntegrityCause size (Some map) bytes) (is_some (at_name (codes "sha256") map) || is_some (at_name (codes "sha512") map)) (IntegrityMismatch NoDigest) e h (λ none_there.
    let g = neither (at_name (codes "sha256") map) (at_name (codes "sha512") map) none_there in
    (map, refl, g.0, g.1))

pinned_cause : (size : Option ℕ) (hashes : Option Hashes) (bytes : List ℕ) (e : Error) → where_pinned hashes bytes ≡ Err e → IntegrityCause size hashes bytes e
pinned_cause size None bytes e h = cc
pinned_cause size (Some map) bytes e h = elim (refused_by (digest_of (sha256 bytes) (at_name (codes "sha256") map)) _ e h) [
  | inl first ↦ digest_cause size map bytes (sha256 bytes) (codes "sha256") e (λ is. (map, refl, inl is)) first
  | inr g ↦ elim (refused_by (digest_of (sha512 bytes) (at_name (codes "sha512") map)) _ e g.2) [
    | inl second ↦ digest_cause size map bytes (sha512 bytes) (codes "sha512") e (λ is. (map, refl, inr is)) second
    | inr k ↦ supported_cause size map bytes e k.2
  ]
]

pub integrity_cause : (size : Option ℕ) (hashes : Option Hashes) (bytes : List ℕ) (e : Error) → integrity_of size hashes bytes ≡ Err e → IntegrityCause size hashes bytes e
unfolding integrity_of
integrity_cause size hashes bytes e h = ⊎_elim (λ g. length_cause size hashes bytes e g) (λ g. pinned_cause size hashes bytes e g.2) (refused_by (length_of size bytes) (λ x. where_pinned hashes bytes) e h)

pub expiry_cause : (role : List ℕ) (expires now : Timestamp) (e : Error) → fresh_of role expires now ≡ Err e → ExpiryCause role expires now e
unfolding fresh_of
expiry_cause role expires now e h = by_order (int_lt expires.nanosecond now.nanosecond) refl h
  where
    is_before : (a b : ℤ) → int_lt a b ≡ true → a <ℤ b
    is_before a b p = grind (arith, arith)

    by_order : (b : Bool) → int_lt expires.nanosecond now.nanosecond ≡ b → ◌≡◌ {A = Result ⊤ Error} (if b then Err (Expired role expires) else Ok tt) (Err e) → ExpiryCause role expires now e
    by_order true p q = same_refusal (ExpiryCause role expires now) (Expired role expires) e q (refl, is_before expires.nanosecond now.nanosecond p)
    by_order false p q = cc
