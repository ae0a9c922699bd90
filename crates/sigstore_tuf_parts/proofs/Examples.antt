-- Thresholds, expiries, patterns and canonical texts on tiny documents, computed.
use Rattle.std.proofs.Common.{◌≡◌, ℕ, pos, List, [], ◌∷◌, map, count_by, Bool, true, false, bytes_eq, Option, Some, Result, Ok, Err, codes, refl, ap}
use Rattle.std.specs.Prelude.{⊤}
use Rattle.std.specs.Fmt.{digits}
use Rattle.std.specs.Float.Numeral.{scan_numeral}
use Rattle.std.specs.Str.{chars, is_utf8}
use Rattle.std.specs.Str.Lossy.{utf8_valid_len}
use lib.Utf8.{encode}
use Rattle.json.specs.Json.{value}
use Rattle.json.specs.Lex.{punctuate, lex}
use Rattle.json.specs.Text.{content}
use Rattle.json.specs.Word.{word, after_number}
use Rattle.serde_json.specs.Read.{number_of}
use Rattle.hex.specs.Hex.{decode_pairs}
use Rattle.serde_json.specs.Data.{string}
use Rattle.jiff_core.specs.declared.timestamp.Timestamp as jiff
use Rattle.foundation.specs.Steps.{◌>>=◌}
use Rattle.sigstore_types_parts.specs.Parse.{parsed_of}
use Rattle.sigstore_types_parts.specs.Instant.{at_nanosecond}
use Rattle.sigstore_keys.specs.Crypto.{Crypto}
use Rattle.sigstore_keys.specs.declared.scheme.SigningScheme.TheVariants.{Ed25519}
use Rattle.sigstore_keys.specs.declared.key.VerificationKey.{VerificationKey}
use Rattle.sigstore_tuf_parts.specs.declared.verification.KeyFault.{KeyFault}
use Rattle.sigstore_tuf_text.specs.declared.error.Error.{Error}
use Rattle.sigstore_tuf_text.specs.declared.error.Error.TheVariants.{Malformed, DuplicateSignature, ThresholdNotMet, Expired}
use Rattle.sigstore_tuf_text.specs.declared.error.Rule.TheVariants.{Threshold, Pattern}
use Rattle.sigstore_tuf_parts.specs.declared.keys.Key.{Key}
use Rattle.sigstore_tuf_parts.specs.declared.keys.RoleKeys.{RoleKeys}
use Rattle.sigstore_tuf_parts.specs.declared.targets.DelegatedRole.{DelegatedRole}
use Rattle.sigstore_tuf_parts.specs.Document.{Document, signatures_in, text_in, value_of}
use Rattle.sigstore_tuf_parts.specs.Crypto.{key_of}
use Rattle.sigstore_tuf_text.specs.Canonical.{canonical_of}
use Rattle.sigstore_tuf_parts.specs.Integrity.{fresh_of}
use Rattle.sigstore_tuf_parts.specs.Delegation.{matches_path_of}
use Rattle.sigstore_tuf_text.specs.Pattern.{matches}
use Rattle.sigstore_tuf_parts.specs.Threshold.{Keys, counted_of, ids_of, second_after, is_accepted_under, threshold_of, no_second, enough_of, meets_of}

-- ---- thresholds

-- a public key for Ed25519 as 64 hexadecimal digits (RFC 8032, section 7.1, test 1)
abbrev key : Key
key = record { keytype = codes "ed25519"; scheme = codes "ed25519"; keyval = record { public = codes "d75a980182b10ab7d54bfed3c964073a0ee172f3daa62325af021a68f707511a"; extra = [] }; extra = [] }

-- the key that it gives
abbrev verifier : VerificationKey
verifier = record { scheme = Ed25519; key = 215 ∷ 90 ∷ 152 ∷ 1 ∷ 130 ∷ 177 ∷ 10 ∷ 183 ∷ 213 ∷ 75 ∷ 254 ∷ 211 ∷ 201 ∷ 100 ∷ 7 ∷ 58 ∷ 14 ∷ 225 ∷ 114 ∷ 243 ∷ 218 ∷ 166 ∷ 35 ∷ 37 ∷ 175 ∷ 2 ∷ 26 ∷ 104 ∷ 247 ∷ 7 ∷ 81 ∷ 26 ∷ [] }

abbrev keys : Keys
keys = (codes "k", key) ∷ (codes "l", key) ∷ []

abbrev asks : List (List ℕ) → ℕ → RoleKeys
asks ids threshold = record { keyids = ids; threshold = threshold; extra = [] }

abbrev signed : List (List ℕ × List ℕ) → Document ⊤
signed signatures = (tt, map (λ (s : List ℕ × List ℕ). record { keyid = s.0; sig = s.1 }) signatures, [])

-- two of the ids k and l
abbrev both : RoleKeys
both = asks (codes "k" ∷ codes "l" ∷ []) 2

-- the id k alone
abbrev one_id : RoleKeys
one_id = asks (codes "k" ∷ []) 1

-- a judge that accepts the signature 01 under every key, with an armour by which the key is read
module _ (armored : List ℕ → Bool) (key_in certificate_in : List ℕ → Option (List ℕ)) (read : key_of armored key_in key ≡ Ok verifier) where
  abbrev crypto : Crypto
  crypto = record { accepts = λ scheme raw subject signature. bytes_eq signature (1 ∷ []); armored = armored; key_in = key_in; certificate_in = certificate_in }

  -- the checks of a threshold, where each key gives this
  abbrev meets_with : RoleKeys → Document ⊤ → Result VerificationKey KeyFault → Result ⊤ Error
  meets_with role doc given =
      threshold_of role.threshold >>= λ _. no_second (codes "root") (second_after [] (ids_of (counted_of role (signatures_in doc)))) >>= λ _.
      enough_of (codes "root") (count_by (λ s. is_accepted_under crypto.accepts (text_in doc) s.sig given) (counted_of role (signatures_in doc))) role.threshold

  by_key : (role : RoleKeys) (doc : Document ⊤) → meets_with role doc (key_of armored key_in key) ≡ meets_with role doc (Ok verifier)
  by_key role doc = ap (meets_with role doc) read

  -- two ids that have one key
  two_ids_one_key : meets_of crypto keys both (codes "root") (signed ((codes "k", codes "01") ∷ (codes "l", codes "01") ∷ [])) ≡ Ok tt
  unfolding meets_of decode_pairs
  two_ids_one_key = by_key both (signed ((codes "k", codes "01") ∷ (codes "l", codes "01") ∷ []))

  signed_twice : meets_of crypto keys both (codes "root") (signed ((codes "k", codes "01") ∷ (codes "l", codes "01") ∷ (codes "k", codes "01") ∷ [])) ≡ Err (DuplicateSignature (codes "root") (codes "k"))
  unfolding meets_of decode_pairs
  signed_twice = refl

  empty_first : meets_of crypto keys one_id (codes "root") (signed ((codes "k", []) ∷ (codes "k", codes "01") ∷ [])) ≡ Ok tt
  unfolding meets_of decode_pairs
  empty_first = by_key one_id (signed ((codes "k", []) ∷ (codes "k", codes "01") ∷ []))

  -- the second signature isn't hexadecimal
  unreadable_second : meets_of crypto keys one_id (codes "root") (signed ((codes "k", codes "01") ∷ (codes "k", codes "zz") ∷ [])) ≡ Err (DuplicateSignature (codes "root") (codes "k"))
  unfolding meets_of decode_pairs
  unreadable_second = refl

  threshold_zero : meets_of crypto keys (asks [] 0) (codes "root") (signed []) ≡ Err (Malformed Threshold)
  unfolding meets_of decode_pairs
  threshold_zero = refl

  -- hexadecimal, and not accepted
  unaccepted : meets_of crypto keys one_id (codes "root") (signed ((codes "k", codes "02") ∷ [])) ≡ Err (ThresholdNotMet (codes "root") 0 1)
  unfolding meets_of decode_pairs
  unaccepted = by_key one_id (signed ((codes "k", codes "02") ∷ []))

-- ---- expiries

abbrev at : ℕ → jiff.Timestamp
at n = at_nanosecond (pos n)

now_at_expiry : fresh_of (codes "timestamp") (at 5) (at 5) ≡ Ok tt
unfolding fresh_of at_nanosecond
now_at_expiry = refl

now_before_expiry : fresh_of (codes "timestamp") (at 5) (at 4) ≡ Ok tt
unfolding fresh_of at_nanosecond
now_before_expiry = refl

now_after_expiry : fresh_of (codes "timestamp") (at 5) (at 6) ≡ Err (Expired (codes "timestamp") (at 5))
unfolding fresh_of at_nanosecond
now_after_expiry = refl

-- ---- patterns

-- a star stays within a segment
star_in_each_segment : matches (codes "releases/*/*") (codes "releases/x/x_v1") ≡ Ok true
unfolding matches chars
star_in_each_segment = refl

fewer_segments : matches (codes "releases/*/*") (codes "releases/x") ≡ Ok false
unfolding matches chars
fewer_segments = refl

-- two stars alone are one segment
two_stars : matches (codes "releases/**") (codes "releases/package") ≡ Ok true
unfolding matches chars
two_stars = refl

two_stars_one_segment : matches (codes "releases/**") (codes "releases/stable/package") ≡ Ok false
unfolding matches chars
two_stars_one_segment = refl

two_stars_beside_text : matches (codes "release-**.json") (codes "release-1.json") ≡ Err (Malformed Pattern)
unfolding matches chars
two_stars_beside_text = refl

outside_class : matches (codes "foo-[!0-9].tgz") (codes "foo-a.tgz") ≡ Ok true
unfolding matches chars
outside_class = refl

inside_class : matches (codes "foo-[!0-9].tgz") (codes "foo-2.tgz") ≡ Ok false
unfolding matches chars
inside_class = refl

-- a class doesn't go beyond its segment
cut_class : matches (codes "foo-[/].tgz") (codes "foo-/.tgz") ≡ Err (Malformed Pattern)
unfolding matches chars
cut_class = refl

-- where there are hash prefixes, they alone count
abbrev without_prefixes : DelegatedRole
without_prefixes = record { name = codes "d"; keyids = []; threshold = 1; terminating = false; paths = Some (codes "*" ∷ []); path_hash_prefixes = Some []; extra = [] }

no_prefixes : matches_path_of without_prefixes (codes "t") ≡ Ok false
unfolding matches_path_of
no_prefixes = refl

-- ---- canonical texts

-- the blanks go, and the members come by their names' bytes
read_and_written : (value_of (codes "{\"z\": [3,2,1], \"a\": {\"n\":-5,\"b\":true}}") >>= canonical_of) ≡ Ok (codes "{\"a\":{\"b\":true,\"n\":-5},\"z\":[3,2,1]}")
unfolding value_of parsed_of utf8_valid_len is_utf8 chars encode value punctuate lex content word after_number number_of scan_numeral digits
read_and_written = refl

-- a backslash and a quote, each after a backslash
escaped_text : canonical_of (string (codes "a\\b\"c")) ≡ Ok (codes "\"a\\\\b\\\"c\"")
escaped_text = refl
