-- An item's artifact, what its envelope says (in-toto, "Statement") and what a log has of it (Rekor, "hashedrekord" 0.0.2).
use Rattle.std.specs.Prelude.{ℕ, ◌%◌, List, ◌∷◌, ◌++◌, codes}
use Rattle.std.specs.Fmt.{decimal}
use Rattle.std.specs.List.{repeat}
use Rattle.hex.specs.Hex.{encode_lower}
use Rattle.workload.specs.Keys.{spki, base64_of}

-- the artifact of an item, by its place and its number: at most 255 octets behind its first line
abbrev pub artifact_of : ℕ → ℕ → List ℕ
artifact_of index number = codes "artifact " ++ (decimal index ++ (10 ∷ repeat (number % 256) (codes "x")))

-- each item has a signature of its own
abbrev pub signature_of : ℕ → List ℕ
signature_of index = codes "s" ++ decimal index

abbrev pub statement_written : List ℕ → List ℕ
statement_written digest =
    codes "{\"_type\":\"https://in-toto.io/Statement/v1\",\"subject\":[{\"digest\":{\"sha256\":\""
    ++ (digest ++ codes "\"}}],\"predicateType\":\"p\"}")

-- a statement about an artifact of that SHA-256 value
abbrev pub statement_of : List ℕ → List ℕ
statement_of digest = statement_written (encode_lower digest)

abbrev pub signed_written : List ℕ → List ℕ → List ℕ
signed_written signature key =
    codes "{\"content\":\"" ++ (signature ++ (codes "\",\"verifier\":{\"keyDetails\":\"PKIX_ECDSA_P256_SHA_256\",\"publicKey\":{\"rawBytes\":\""
    ++ (key ++ codes "\"}}}")))

abbrev pub body_written : List ℕ → List ℕ → List ℕ
body_written digest signed =
    codes "{\"apiVersion\":\"0.0.2\",\"kind\":\"hashedrekord\",\"spec\":{\"hashedRekordV002\":{\"data\":{\"algorithm\":\"SHA2_256\",\"digest\":\""
    ++ (digest ++ (codes "\"},\"signature\":" ++ (signed ++ codes "}}}")))

-- what is logged of a signature over a SHA-256 value
abbrev pub body_of : List ℕ → List ℕ → List ℕ
body_of digest signature = body_written (base64_of digest) (signed_written (base64_of signature) (base64_of spki))
