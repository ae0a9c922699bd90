-- What a log's promise signs of an entry (Rekor's signed entry timestamp): JSON in its canonical form (RFC 8785).
use Rattle.std.specs.Prelude.{ℕ, ◌^◌, nat_lt, List, ◌++◌, codes, decimal, ℤ, pos, unwrap_or, if◌then◌else◌, Option, Some, None}
use Rattle.std.specs.Fmt.{signed_decimal}
use Rattle.base64.specs.Engines.{standard}
use Rattle.base64.specs.GeneralPurpose.{encode_of}
use Rattle.hex.specs.Hex.{encode_lower}
use Rattle.sigstore_entries.specs.declared.entry.TransparencyLogEntry.{TransparencyLogEntry}

-- the members for a body in base64 and a time, and behind them those for a log's id in hexadecimal and a place in the log
abbrev pub written : List ℕ → ℤ → List ℕ → ℕ → List ℕ
written body time id index =
    codes "{\"body\":\"" ++ (body ++ (codes "\",\"integratedTime\":" ++ (signed_decimal time
    ++ (codes ",\"logID\":\"" ++ (id ++ (codes "\",\"logIndex\":" ++ (decimal index ++ codes "}")))))))

-- where there is no time, it is 0; the hexadecimal is in lower case
abbrev pub payload_text_of : TransparencyLogEntry → List ℕ
payload_text_of entry =
    let time = unwrap_or entry.integrated_time (pos 0) in
    written (encode_of standard entry.canonicalized_body) time (encode_lower entry.log_id.key_id) entry.log_index.value

-- a place above 2^53 isn't a number of that form (RFC 8785, section 3.2.2.3; RFC 7493, section 2.2)
unfoldable pub payload_of : TransparencyLogEntry → Option (List ℕ)
payload_of entry = if nat_lt (2 ^ 53) entry.log_index.value then None else Some (payload_text_of entry)
