-- The one key of the fixed repository and of its log (RFC 5480, section 2; RFC 5280, section 4.1), and the log's id.
use Rattle.std.specs.Prelude.{ℕ, List, ◌∷◌, ◌++◌, replicate, codes}
use Rattle.base64.specs.Engines.{standard}
use Rattle.base64.specs.GeneralPurpose.{encode_of}
use Rattle.sigstore_keys.specs.KeyAlgorithm.{ec_oid, p256_curve}

-- a point that isn't compressed, of the curve's size
unfoldable pub raw_key : List ℕ
raw_key = 4 ∷ replicate 64 0

-- SEQUENCE { SEQUENCE { id-ecPublicKey, secp256r1 }, BIT STRING }
unfoldable pub spki : List ℕ
spki = 0x30 ∷ 0x59 ∷ 0x30 ∷ 0x13 ∷ 0x06 ∷ 0x07 ∷ (ec_oid ++ (p256_curve ++ 0x03 ∷ 0x42 ∷ 0x00 ∷ raw_key))

abbrev pub base64_of : List ℕ → List ℕ
base64_of = encode_of standard

-- the key as documents declare it
unfoldable pub armored_key : List ℕ
armored_key = codes "der:" ++ base64_of spki

unfoldable pub log_id : List ℕ
log_id = replicate 32 7
