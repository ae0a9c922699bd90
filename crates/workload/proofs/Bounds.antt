-- How long texts are at most.
use Rattle.std.proofs.Common.{◌≡◌, ℕ, ◌+◌, ◌*◌, ◌^◌, ◌<◌, ◌≤◌, List, [], ◌∷◌, ◌++◌, length, Bool, true, false, cond, ◌&&◌, refl, ap, ◌∙◌, arith, length-append, ltb-true}
use Rattle.std.proofs.lemmas.Bool.{and_parts}
use Rattle.std.proofs.lemmas.Fmt.{length-decimal-le}
use Rattle.sha2.specs.Sha256.{sha256}
use Rattle.sha2.proofs.Facts256.{length-sha256}
use Rattle.hex.specs.Hex.{encode_lower, lower_digits}
use Rattle.hex.proofs.HexLemmas.{length-encode_with}
use Rattle.json.specs.Print.{escape_byte, escape, quoted}
use Rattle.serde_json.specs.Data.{Num, unsigned, negative, float, Data, null, boolean, number, string, array, object, Items, no_items, item, Members, no_members, member}
use Rattle.serde_json.specs.Written.{comma_if, compact_text, items_text, members_text, number_text}
use Rattle.workload.specs.Trust.{trust_file}
use Rattle.workload.specs.Documents.{target_value, head_members, pinning, timestamp_signed, snapshot_signed, targets_signed}
use Rattle.workload.specs.Documents.{signature_value, document_value, timestamp_bytes, snapshot_bytes, targets_bytes}
use Rattle.workload.proofs.Texts.{timestamp_writable, snapshot_writable, targets_writable}
use Rattle.workload.proofs.Writable.{is_writable_number, is_writable, are_writable, have_writable}

-- ---- of any value

-- a text between quotes, each byte escaped by six
abbrev quoted_bound : ℕ → ℕ
quoted_bound n = 6 * n + 2

abbrev mutual
  pub bound : Data → ℕ
  bound null = 4
  bound (boolean b) = 5
  bound (number n) = 20
  bound (string s) = quoted_bound (length s)
  bound (array ds) = 1 + items_bound ds
  bound (object ms) = 1 + members_bound ms

  pub items_bound : Items → ℕ
  items_bound no_items = 1
  items_bound (item d ds) = 1 + (bound d + items_bound ds)

  pub members_bound : Members → ℕ
  members_bound no_members = 1
  members_bound (member k d ms) = 1 + (quoted_bound (length k) + (1 + (bound d + members_bound ms)))

one_of : (p q : Bool) (x y z a b : ℕ) → length (cond p (92 ∷ x ∷ []) (cond q (92 ∷ 117 ∷ 48 ∷ 48 ∷ a ∷ b ∷ []) (z ∷ []))) ≤ 6
one_of true q x y z a b = omega arith
one_of false true x y z a b = omega arith
one_of false false x y z a b = omega arith

byte_bounded : (x : ℕ) → length (escape_byte x) ≤ 6
unfolding escape_byte
byte_bounded x = one_of _ _ _ 0 _ _ _

escape_bounded : (s : List ℕ) → length (escape s) ≤ 6 * length s
escape_bounded [] = omega arith
escape_bounded (x ∷ xs) = omega (arith, length-append (escape_byte x) (escape xs), byte_bounded x, escape_bounded xs)

quoted_bounded : (s : List ℕ) → length (quoted s) ≤ quoted_bound (length s)
quoted_bounded s = omega (arith, length-append (escape s) (34 ∷ []), escape_bounded s)

comma_bounded : (later : Bool) → length (comma_if later) ≤ 1
comma_bounded true = omega arith
comma_bounded false = omega arith

number_bounded : (n : Num) → is_writable_number n ≡ true → length (number_text n) ≤ 20
number_bounded (unsigned n) h = let small = ltb-true n (2 ^ 64) h in length-decimal-le 20 n (omega arith) (omega arith) small
number_bounded (negative z) h = cc
number_bounded (float x) h = cc

mutual
  pub text_bounded : (d : Data) → is_writable d ≡ true → length (compact_text d) ≤ bound d
  text_bounded null h = omega arith
  text_bounded (boolean true) h = omega arith
  text_bounded (boolean false) h = omega arith
  text_bounded (number n) h = number_bounded n h
  text_bounded (string s) h = quoted_bounded s
  text_bounded (array ds) h = omega (arith, items_bounded false ds h)
  text_bounded (object ms) h = omega (arith, members_bounded false ms h)

  items_bounded : (later : Bool) (ds : Items) → are_writable ds ≡ true → length (items_text later ds) ≤ items_bound ds
  items_bounded later no_items h = omega arith
  items_bounded later (item d ds) h =
      let p = and_parts (is_writable d) (are_writable ds) h in
      omega (
        arith,
        length-append (comma_if later) (compact_text d ++ items_text true ds),
        length-append (compact_text d) (items_text true ds),
        comma_bounded later,
        text_bounded d p.0,
        items_bounded true ds p.1,
      )

  members_bounded : (later : Bool) (ms : Members) → have_writable ms ≡ true → length (members_text later ms) ≤ members_bound ms
  members_bounded later no_members h = omega arith
  members_bounded later (member k d ms) h =
      let p = and_parts _ (is_writable d && have_writable ms) h in
      let q = and_parts (is_writable d) (have_writable ms) p.1 in
      omega (
        arith,
        length-append (comma_if later) (quoted k ++ 58 ∷ (compact_text d ++ members_text true ms)),
        length-append (quoted k) (58 ∷ (compact_text d ++ members_text true ms)),
        length-append (compact_text d) (members_text true ms),
        comma_bounded later,
        quoted_bounded k,
        text_bounded d q.0,
        members_bounded true ms q.1,
      )

-- ---- of the documents

pub timestamp_short : length timestamp_bytes ≤ 16384
unfolding timestamp_bytes timestamp_signed pinning document_value signature_value head_members
timestamp_short = let most = text_bounded (document_value timestamp_signed) timestamp_writable in omega arith

pub snapshot_short : length snapshot_bytes ≤ 2000000
unfolding snapshot_bytes snapshot_signed pinning document_value signature_value head_members
snapshot_short = let most = text_bounded (document_value snapshot_signed) snapshot_writable in omega arith

digest_length : length (encode_lower (sha256 trust_file)) ≡ 64
digest_length = omega (arith, length-encode_with lower_digits (sha256 trust_file), length-sha256 trust_file)

pub targets_short : length targets_bytes ≤ 5000000
unfolding targets_bytes targets_signed target_value document_value signature_value head_members
targets_short = let most = text_bounded (document_value targets_signed) targets_writable in omega (arith, digest_length)
