-- Witnesses (C2SP tlog-cosignature), and the texts that tell them (C2SP signed-note, "verifier keys").
use Rattle.std.specs.Prelude.{ℕ, ◌==◌, nat_lt, List, [], ◌∷◌, ◌++◌, length, take, bytes_eq, Bool, not, ◌&&◌, if◌then◌else◌}
use Rattle.std.specs.Prelude.{⊤, Result, Ok, Err, ok_or}
use Rattle.std.specs.List.{list_all, position_or_len, before_first, after_first}
use Rattle.std.specs.Result.{result_ok}
use Rattle.sha2.specs.Sha256.{sha256}
use Rattle.base64.specs.Engines.{standard}
use Rattle.base64.specs.GeneralPurpose.{decode_of}
use Rattle.hex.specs.Hex as hex
use Rattle.foundation.specs.Steps.{◌>>=◌}
use Rattle.log_witnesses.specs.declared.error.WitnessError.{WitnessError}
use Rattle.log_witnesses.specs.declared.error.WitnessError.TheVariants.{Form, KeyType, KeyId}
use Rattle.log_witnesses.specs.declared.witness.Witness.{Witness}

-- The key ID of a witness: the first four octets of the SHA-256 value of its name, a line feed, the type of its signatures (04) and its
-- key. That of a log has another type, so no key of a log is one of a witness.
abbrev pub key_id_of : Witness → List ℕ
key_id_of witness = take 4 (sha256 (witness.name ++ (10 ∷ 4 ∷ witness.key)))

-- ---- the text that tells a witness

-- what stands before the first plus, and what stands behind it
abbrev pub at_plus : List ℕ → Result (List ℕ × List ℕ) WitnessError
at_plus text =
    if nat_lt (position_or_len (λ byte. byte == 43) text) (length text)
    then Ok (before_first (λ byte. byte == 43) text, after_first (λ byte. byte == 43) text)
    else Err Form

-- no space and no control character of ASCII
abbrev pub is_visible : ℕ → Bool
is_visible octet = nat_lt 32 octet

-- a name is of such octets, and isn't empty
abbrev pub is_name : List ℕ → Bool
is_name name = not (length name == 0) && list_all is_visible name

abbrev pub checked_name : List ℕ → Result ⊤ WitnessError
checked_name name = if is_name name then Ok tt else Err Form

-- what a text in hexadecimal spells, in either case
abbrev pub digits_of : List ℕ → Result (List ℕ) WitnessError
digits_of text = ok_or (result_ok (hex.decode_of text)) Form

-- what a text in base64 (RFC 4648, section 4) spells
abbrev pub octets_of : List ℕ → Result (List ℕ) WitnessError
octets_of text = ok_or (result_ok (decode_of standard text)) Form

-- the type of a witness's signatures, and the 32 octets of an Ed25519 key behind it (RFC 8032, section 5.1.5)
abbrev pub key_of : List ℕ → Result (List ℕ) WitnessError
key_of [] = Err KeyType
key_of (kind ∷ key) = if kind == 4 && length key == 32 then Ok key else Err KeyType

abbrev pub key_in : List ℕ → Result (List ℕ) WitnessError
key_in text = octets_of text >>= key_of

-- the witness, where this is its key ID
abbrev pub identified : List ℕ → Witness → Result Witness WitnessError
identified id witness = if bytes_eq id (key_id_of witness) then Ok witness else Err KeyId

abbrev pub witness_with : List ℕ → List ℕ → Witness
witness_with name key = record { name = name; key = key }

-- a name, a key ID in hexadecimal and a key in base64, with a plus between them
unfoldable pub witness_of : List ℕ → Result Witness WitnessError
witness_of text = do
  first ← at_plus text
  second ← at_plus first.1
  _ ← checked_name first.0
  id ← digits_of second.0
  key ← key_in second.1
  identified id (witness_with first.0 key)
