-- The checks of integrity and freshness are Ok exactly where the relations hold.
use Rattle.std.proofs.Common.{◌≡◌, ◌↔◌, ℕ, List, length, Bool, true, false, ◌||◌, ◌==◌, if◌then◌else◌, Option, Some, None, is_some, Result, Ok, Err, codes, ℤ, ◌≤ℤ◌, int_lt, refl, ◌∙◌, subst, arith}
use Rattle.std.specs.Prelude.{⊤}
use Rattle.std.proofs.lemmas.Bool.Decides.{nat_tests}
use Rattle.sha2.specs.Sha256.{sha256}
use Rattle.sha2.specs.Sha512.{sha512}
use Rattle.sigstore_types_parts.specs.Entries.{at_name}
use Rattle.sigstore_tuf_text.specs.declared.error.Error.{Error}
use Rattle.sigstore_tuf_text.specs.declared.error.Error.TheVariants.{IntegrityMismatch, Expired}
use Rattle.jiff_core.specs.declared.timestamp.Timestamp.{Timestamp}
use Rattle.sigstore_tuf_text.specs.declared.error.Mismatch.TheVariants.{Length, Digest, NoDigest}
use Rattle.foundation.specs.Steps.{◌>>=◌}
use Rattle.foundation.specs.Results.{some_same}
use Rattle.sigstore_tuf_parts.specs.Integrity.{Hashes, spells, agrees, length_of, digest_of, supported_of, digests_of, where_pinned, integrity_of, fresh_of}
use Rattle.sigstore_tuf_parts.specs.Pinned.{HasDigests, IsIntact, Fresh}

-- a step that is Ok, and then the others
both : (r s : Result ⊤ Error) → (r >>= λ _. s) ≡ Ok tt → (r ≡ Ok tt) × (s ≡ Ok tt)
both (Ok x) s h = (refl, h)
both (Err e) s h = cc

passed : (b : Bool) (e : Error) → ◌≡◌ {A = Result ⊤ Error} (if b then Ok tt else Err e) (Ok tt) → b ≡ true
passed true e h = refl
passed false e h = cc

same_number : (m n : ℕ) → (m == n) ≡ true → m ≡ n
same_number m n h = grind (arith, nat_tests)

number_same : (m n : ℕ) → m ≡ n → (m == n) ≡ true
number_same m n h = grind (arith, nat_tests)

length_from : (size : Option ℕ) (bytes : List ℕ) → length_of size bytes ≡ Ok tt → (n : ℕ) → size ≡ Some n → length bytes ≡ n
length_from None bytes h n e = cc
length_from (Some m) bytes h n e = same_number (length bytes) m (passed (length bytes == m) (IntegrityMismatch Length) h) ∙ some_same m n e

length_to : (size : Option ℕ) (bytes : List ℕ) → ((n : ℕ) → size ≡ Some n → length bytes ≡ n) → length_of size bytes ≡ Ok tt
length_to None bytes h = refl
length_to (Some m) bytes h = rw (number_same (length bytes) m (h m refl))

agrees_from : (digest : List ℕ) (o : Option (List ℕ)) → agrees digest o ≡ true → (text : List ℕ) → o ≡ Some text → spells digest text ≡ true
agrees_from digest None h text e = cc
agrees_from digest (Some t) h text e = subst (λ u. spells digest u ≡ true) (some_same t text e) h

agrees_to : (digest : List ℕ) (o : Option (List ℕ)) → ((text : List ℕ) → o ≡ Some text → spells digest text ≡ true) → agrees digest o ≡ true
agrees_to digest None h = refl
agrees_to digest (Some t) h = h t refl

abbrev Of256 : Hashes → Option (List ℕ)
Of256 hashes = at_name (codes "sha256") hashes

abbrev Of512 : Hashes → Option (List ℕ)
Of512 hashes = at_name (codes "sha512") hashes

digests_from : (hashes : Hashes) (bytes : List ℕ) → digests_of hashes bytes ≡ Ok tt → HasDigests hashes bytes
digests_from hashes bytes h =
    let first = both (digest_of (sha256 bytes) (Of256 hashes)) (digest_of (sha512 bytes) (Of512 hashes) >>= λ _. supported_of hashes) h in
    let second = both (digest_of (sha512 bytes) (Of512 hashes)) (supported_of hashes) first.1 in
    record {
      by_sha256 = agrees_from (sha256 bytes) (Of256 hashes) (passed (agrees (sha256 bytes) (Of256 hashes)) (IntegrityMismatch Digest) first.0);
      by_sha512 = agrees_from (sha512 bytes) (Of512 hashes) (passed (agrees (sha512 bytes) (Of512 hashes)) (IntegrityMismatch Digest) second.0);
      supported = passed (is_some (Of256 hashes) || is_some (Of512 hashes)) (IntegrityMismatch NoDigest) second.1;
    }

digests_to : (hashes : Hashes) (bytes : List ℕ) → HasDigests hashes bytes → digests_of hashes bytes ≡ Ok tt
digests_to hashes bytes d = rw (agrees_to (sha256 bytes) (Of256 hashes) d.by_sha256, agrees_to (sha512 bytes) (Of512 hashes) d.by_sha512, d.supported)

map_from : (hashes : Option Hashes) (bytes : List ℕ) → where_pinned hashes bytes ≡ Ok tt → (map : Hashes) → hashes ≡ Some map → HasDigests map bytes
map_from None bytes h map e = cc
map_from (Some m) bytes h map e = subst (λ u. HasDigests u bytes) (some_same m map e) (digests_from m bytes h)

map_to : (hashes : Option Hashes) (bytes : List ℕ) → ((map : Hashes) → hashes ≡ Some map → HasDigests map bytes) → where_pinned hashes bytes ≡ Ok tt
map_to None bytes h = refl
map_to (Some m) bytes h = digests_to m bytes (h m refl)

intact_from : (size : Option ℕ) (hashes : Option Hashes) (bytes : List ℕ) → integrity_of size hashes bytes ≡ Ok tt → IsIntact size hashes bytes
unfolding integrity_of
intact_from size hashes bytes h =
    let parts = both (length_of size bytes) (where_pinned hashes bytes) h in
    record { size_is = length_from size bytes parts.0; digests = map_from hashes bytes parts.1 }

intact_to : (size : Option ℕ) (hashes : Option Hashes) (bytes : List ℕ) → IsIntact size hashes bytes → integrity_of size hashes bytes ≡ Ok tt
unfolding integrity_of
intact_to size hashes bytes i = rw (length_to size bytes i.size_is, map_to hashes bytes i.digests)

pub integrity_exactly : (size : Option ℕ) (hashes : Option Hashes) (bytes : List ℕ) → (integrity_of size hashes bytes ≡ Ok tt) ↔ IsIntact size hashes bytes
integrity_exactly size hashes bytes = (intact_from size hashes bytes, intact_to size hashes bytes)

-- ---- an expiry

not_before : (b : Bool) (e : Error) → ◌≡◌ {A = Result ⊤ Error} (if b then Err e else Ok tt) (Ok tt) → b ≡ false
not_before true e h = cc
not_before false e h = refl

fresh_from : (role : List ℕ) (expires now : Timestamp) → fresh_of role expires now ≡ Ok tt → Fresh expires now
unfolding fresh_of
fresh_from role expires now h = at_most expires.nanosecond now.nanosecond (not_before (int_lt expires.nanosecond now.nanosecond) (Expired role expires) h)
  where
    at_most : (a b : ℤ) → int_lt a b ≡ false → b ≤ℤ a
    at_most a b e = grind (arith, arith)

fresh_to : (role : List ℕ) (expires now : Timestamp) → Fresh expires now → fresh_of role expires now ≡ Ok tt
unfolding fresh_of
fresh_to role expires now h = rw (at_most expires.nanosecond now.nanosecond h)
  where
    at_most : (a b : ℤ) → b ≤ℤ a → int_lt a b ≡ false
    at_most a b e = grind (arith, arith)

pub fresh_exactly : (role : List ℕ) (expires now : Timestamp) → (fresh_of role expires now ≡ Ok tt) ↔ Fresh expires now
fresh_exactly role expires now = (fresh_from role expires now, fresh_to role expires now)
