-- Object identifiers, each as its contents.
use Rattle.std.specs.Prelude.{ℕ, List, [], ◌∷◌}

-- id-data, 1.2.840.113549.1.7.1 (RFC 5652, 4)
abbrev pub data_oid : List ℕ
data_oid = 42 ∷ 134 ∷ 72 ∷ 134 ∷ 247 ∷ 13 ∷ 1 ∷ 7 ∷ 1 ∷ []

-- id-signedData, 1.2.840.113549.1.7.2 (RFC 5652, 5.1)
abbrev pub signed_data_oid : List ℕ
signed_data_oid = 42 ∷ 134 ∷ 72 ∷ 134 ∷ 247 ∷ 13 ∷ 1 ∷ 7 ∷ 2 ∷ []

-- id-contentType, 1.2.840.113549.1.9.3 (RFC 5652, 11.1)
abbrev pub content_type_oid : List ℕ
content_type_oid = 42 ∷ 134 ∷ 72 ∷ 134 ∷ 247 ∷ 13 ∷ 1 ∷ 9 ∷ 3 ∷ []

-- id-messageDigest, 1.2.840.113549.1.9.4 (RFC 5652, 11.2)
abbrev pub message_digest_oid : List ℕ
message_digest_oid = 42 ∷ 134 ∷ 72 ∷ 134 ∷ 247 ∷ 13 ∷ 1 ∷ 9 ∷ 4 ∷ []

-- id-signingTime, 1.2.840.113549.1.9.5 (RFC 5652, 11.3)
abbrev pub signing_time_oid : List ℕ
signing_time_oid = 42 ∷ 134 ∷ 72 ∷ 134 ∷ 247 ∷ 13 ∷ 1 ∷ 9 ∷ 5 ∷ []
