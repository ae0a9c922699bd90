-- The texts of the fixed repository: they are ASCII, and the documents are read again from their bytes.
use Rattle.std.proofs.Common.{◌≡◌, ℕ, zero, suc, ◌<◌, ◌≤◌, ◌^◌, List, [], ◌∷◌, ◌&&◌, length, nat_lt, true, Some, refl, codes, arith, lt-ltb, ltb-true}
use Rattle.std.specs.Fmt.{digits}
use Rattle.std.specs.Prelude.{decimal}
use Rattle.std.specs.Str.{IsAscii}
use Rattle.std.proofs.lemmas.Bool.{and_parts, and_from}
use Rattle.std.proofs.lemmas.Str.Ascii.{IsAscii-nil}
use Rattle.sha2.specs.Sha256.{sha256}
use Rattle.hex.specs.Hex.{encode_lower, lower_digits}
use Rattle.hex.proofs.HexLemmas.{IsAscii-encode_with}
use Rattle.base64.proofs.OnLiterals.{base64_on_literals}
use Rattle.json.proofs.Printed.Utf8.{are_ascii}
use Rattle.json.specs.Tree as tree
use Rattle.json.proofs.OnLiterals.{json_on_literals}
use Rattle.serde_json.specs.Data.{Data, unsigned}
use Rattle.serde_json.specs.Read.{max_depth, number_of, of_json}
use Rattle.serde_json.specs.Written.{outline}
use Rattle.serde_json.proofs.Numbers.{number_of-decimal}
use Rattle.serde_json.proofs.OnLiterals.{serde_json_on_literals}
use Rattle.workload.specs.Keys.{raw_key, spki, log_id, armored_key}
use Rattle.workload.specs.Trust.{log_value, trust_value, trust_file}
use Rattle.workload.specs.Documents.{key_value, role_value, roles_value, target_value, head_members, pinning, root_signed}
use Rattle.workload.specs.Documents.{timestamp_signed, snapshot_signed, targets_signed, signature_value, document_value}
use Rattle.workload.proofs.Writable.{is_writable}

-- ---- the key's text

pub armored_text : armored_key ≡ codes "der:MFkwEwYHKoZIzj0CAQYIKoZIzj0DAQcDQgAEAAAAAAAAAAAAAAAAAAAAAAAAAAAAAAAAAAAAAAAAAAAAAAAAAAAAAAAAAAAAAAAAAAAAAAAAAAAAAAAAAAAAAA=="
unfolding armored_key spki raw_key base64_on_literals
armored_text = refl

pub armored_ascii : are_ascii armored_key ≡ true
armored_ascii = rw armored_text refl

-- ---- the trust file

pub trust_length : length trust_file ≡ 230
unfolding trust_file trust_value log_value log_id spki raw_key base64_on_literals json_on_literals
trust_length = refl

pub trust_writable : is_writable trust_value ≡ true
unfolding trust_value log_value log_id spki raw_key base64_on_literals
trust_writable = refl

pub trust_back : of_json (outline trust_value) ≡ Some trust_value
unfolding trust_value log_value
trust_back = refl

pub trust_low : tree.depth (outline trust_value) ≤ max_depth
unfolding trust_value log_value
trust_low = omega arith

trust_short : length trust_file < 2 ^ 64
trust_short = omega (arith, trust_length)

trust_fits : nat_lt (length trust_file) (2 ^ 64) ≡ true
trust_fits = lt-ltb _ _ trust_short

-- ---- texts in hexadecimal

pub at_each : (xs : List ℕ) → are_ascii xs ≡ true → IsAscii xs
at_each [] h i = IsAscii-nil i
at_each (x ∷ xs) h zero = ltb-true x 128 (and_parts (nat_lt x 128) (are_ascii xs) h).0
at_each (x ∷ xs) h (suc k) = at_each xs (and_parts (nat_lt x 128) (are_ascii xs) h).1 k

from_each : (xs : List ℕ) → IsAscii xs → are_ascii xs ≡ true
from_each [] h = refl
from_each (x ∷ xs) h = and_from _ _ (lt-ltb x 128 (h 0)) (from_each xs (λ i. h (suc i)))

hex_ascii : (xs : List ℕ) → are_ascii (encode_lower xs) ≡ true
hex_ascii xs = from_each _ (IsAscii-encode_with lower_digits xs (at_each lower_digits refl))

-- ---- the root

pub root_writable : is_writable (document_value root_signed) ≡ true
unfolding document_value signature_value root_signed key_value roles_value role_value head_members
root_writable = rw armored_ascii refl

pub root_back : of_json (outline (document_value root_signed)) ≡ Some (document_value root_signed)
unfolding document_value signature_value root_signed key_value roles_value role_value serde_json_on_literals digits head_members
root_back = refl

pub root_low : tree.depth (outline (document_value root_signed)) ≤ max_depth
unfolding document_value signature_value root_signed key_value roles_value role_value head_members
root_low = omega arith

-- ---- timestamp and snapshot

pub timestamp_writable : is_writable (document_value timestamp_signed) ≡ true
unfolding document_value signature_value timestamp_signed pinning head_members
timestamp_writable = refl

pub timestamp_back : of_json (outline (document_value timestamp_signed)) ≡ Some (document_value timestamp_signed)
unfolding document_value signature_value timestamp_signed pinning serde_json_on_literals digits head_members
timestamp_back = refl

pub timestamp_low : tree.depth (outline (document_value timestamp_signed)) ≤ max_depth
unfolding document_value signature_value timestamp_signed pinning head_members
timestamp_low = omega arith

pub snapshot_writable : is_writable (document_value snapshot_signed) ≡ true
unfolding document_value signature_value snapshot_signed pinning head_members
snapshot_writable = refl

pub snapshot_back : of_json (outline (document_value snapshot_signed)) ≡ Some (document_value snapshot_signed)
unfolding document_value signature_value snapshot_signed pinning serde_json_on_literals digits head_members
snapshot_back = refl

pub snapshot_low : tree.depth (outline (document_value snapshot_signed)) ≤ max_depth
unfolding document_value signature_value snapshot_signed pinning head_members
snapshot_low = omega arith

-- ---- the targets document

pub targets_writable : is_writable (document_value targets_signed) ≡ true
unfolding document_value signature_value targets_signed target_value head_members
targets_writable = rw (hex_ascii (sha256 trust_file), trust_fits) refl

one_read : number_of (decimal 1) ≡ Some (unsigned 1)
one_read = number_of-decimal 1 (omega arith)

length_read : number_of (decimal (length trust_file)) ≡ Some (unsigned (length trust_file))
length_read = number_of-decimal (length trust_file) trust_short

pub targets_back : of_json (outline (document_value targets_signed)) ≡ Some (document_value targets_signed)
unfolding document_value signature_value targets_signed target_value head_members
targets_back = simp (one_read, length_read)

pub targets_low : tree.depth (outline (document_value targets_signed)) ≤ max_depth
unfolding document_value signature_value targets_signed target_value head_members
targets_low = omega arith
