-- Signed certificate timestamps (RFC 6962, 3.2 and 3.3).
use Rattle.std.specs.Prelude.{◌≡◌, ℕ, zero, suc, ◌+◌, ◌*◌, ◌/◌, ◌%◌, ◌⊎◌, ◌++◌, List, [], ◌∷◌, Ok, Err, length, take}
use Rattle.std.specs.Prelude.{drop, ◌==◌, nat_le, nat_lt, if◌then◌else◌}
use Rattle.std.specs.Int.{w64, from_be_bytes, to_be_bytes}
use Rattle.foundation.specs.Steps.{◌>>=◌}
use Rattle.spki_core.specs.declared.error.X509Error.{X509Error}
use Rattle.spki_core.specs.declared.error.X509Error.TheVariants.{SctList, NoMemory}
use Rattle.spki_core.specs.Reading.{Reading, contents_at}
use Rattle.der_grammar.specs.Tags.{octet_string_tag}

-- the parts of a timestamp
pub record Parts : Type 0 where
  -- 32 octets
  pub log_id : List ℕ
  pub milliseconds : ℕ
  pub extensions : List ℕ
  -- hash and signature algorithm, an octet each
  pub algorithm : List ℕ
  pub signature : List ℕ

-- ---- reading

-- as many octets, and what follows
abbrev pub octets_at : ℕ → List ℕ → Reading (List ℕ × List ℕ)
octets_at n bytes = if nat_le n (length bytes) then Ok (take n bytes, drop n bytes) else Err SctList

-- octets behind their number, which has two octets (RFC 5246, 4.3)
abbrev pub vector_at : List ℕ → Reading (List ℕ × List ℕ)
vector_at [] = Err SctList
vector_at (a ∷ []) = Err SctList
vector_at (a ∷ b ∷ bytes) = octets_at (256 * a + b) bytes

abbrev pub ended : {A : Type 0} → A → List ℕ → Reading A
ended a rest = if length rest == 0 then Ok a else Err SctList

-- sct_version: v1, which is 0
abbrev pub behind_version : List ℕ → Reading (List ℕ)
behind_version [] = Err SctList
behind_version (version ∷ bytes) = if version == 0 then Ok bytes else Err SctList

-- sct_version, id and timestamp
unfoldable pub head_at : List ℕ → Reading ((List ℕ × ℕ) × List ℕ)
head_at bytes = do
  rest ← behind_version bytes
  log_id ← octets_at 32 rest
  time ← octets_at 8 log_id.1
  Ok ((log_id.0, from_be_bytes w64 time.0), time.1)

-- SignedCertificateTimestamp
unfoldable pub sct_of : List ℕ → Reading Parts
sct_of bytes = do
  head ← head_at bytes
  extensions ← vector_at head.1
  algorithm ← octets_at 2 extensions.1
  signature ← vector_at algorithm.1
  ended (record {
    log_id = head.0.0;
    milliseconds = head.0.1;
    extensions = extensions.0;
    algorithm = algorithm.0;
    signature = signature.0;
  }) signature.1

-- SerializedSCT
unfoldable pub item_at : List ℕ → Reading (Parts × List ℕ)
item_at bytes = do
  item ← vector_at bytes
  sct ← sct_of item.0
  Ok (sct, item.1)

-- at most n timestamps up to the end
unfoldable pub scts_at : ℕ → List ℕ → Reading (List Parts)
scts_at n [] = Ok []
scts_at zero (b ∷ bytes) = Err SctList
scts_at (suc n) (b ∷ bytes) = item_at (b ∷ bytes) >>= λ x. scts_at n x.1 >>= λ scts. Ok (x.0 ∷ scts)

unfoldable pub scts_of : List ℕ → Reading (List Parts)
scts_of list = scts_at (length list) list

abbrev pub in_list : {A : Type 0} → Reading A → Reading A
in_list (Ok a) = Ok a
in_list (Err e) = Err SctList

-- the extension's value: an OCTET STRING that holds a SignedCertificateTimestampList, here also an empty one
unfoldable pub list_in : List ℕ → Reading (List ℕ)
list_in value = do
  contents ← in_list (contents_at octet_string_tag value)
  octets ← ended contents.0 contents.1
  list ← vector_at octets
  ended list.0 list.1

unfoldable pub sct_list_of : List ℕ → Reading (List Parts)
sct_list_of value = list_in value >>= scts_of

-- the only refusals
abbrev pub IsSctList : X509Error → Type 0
IsSctList e = (e ≡ SctList) ⊎ (e ≡ NoMemory)

-- ---- what a log signs

abbrev pub two_octets : ℕ → List ℕ
two_octets n = (n / 256) ∷ (n % 256) ∷ []

abbrev pub three_octets : ℕ → List ℕ
three_octets n = (n / 65536) ∷ (n / 256 % 256) ∷ (n % 256) ∷ []

-- sct_version v1, signature_type certificate_timestamp, timestamp, entry_type precert_entry and issuer_key_hash
abbrev pub signed_front : Parts → List ℕ → List ℕ
signed_front sct key_hash = (0 ∷ 0 ∷ []) ++ to_be_bytes w64 sct.milliseconds ++ (0 ∷ 1 ∷ []) ++ key_hash

-- behind them tbs_certificate and extensions, each behind its length
abbrev pub signed_bytes : Parts → List ℕ → List ℕ → List ℕ
signed_bytes sct key_hash tbs =
    signed_front sct key_hash ++ three_octets (length tbs) ++ tbs ++ two_octets (length sct.extensions) ++ sct.extensions

unfoldable pub signed_of : Parts → List ℕ → List ℕ → Reading (List ℕ)
signed_of sct key_hash tbs = if nat_lt (length tbs) 16777216 then Ok (signed_bytes sct key_hash tbs) else Err SctList
