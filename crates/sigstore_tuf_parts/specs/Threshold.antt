-- When a document meets a role (TUF specification, sections 4.2 and 5: thresholds).
use Rattle.std.specs.Prelude.{ℕ, List, [], ◌∷◌, length, map, filter, count_by, Bool, false, not, ◌&&◌, ◌==◌, nat_le}
use Rattle.std.specs.Prelude.{if◌then◌else◌, bytes_eq, Option, Some, None, Result, Ok, Err, ⊤}
use Rattle.std.specs.List.{list_any}
use Rattle.std.specs.Result.{result_ok}
use Rattle.hex.specs.Hex.{decode_of}
use Rattle.foundation.specs.Steps.{◌>>=◌}
use Rattle.sigstore_types_parts.specs.Entries.{at_name}
use Rattle.sigstore_keys.specs.declared.key.VerificationKey.{VerificationKey}
use Rattle.sigstore_keys.specs.Good.{Judge, is_good}
use Rattle.sigstore_keys.specs.Crypto.{Crypto}
use Rattle.sigstore_tuf_parts.specs.declared.document.Signature.{Signature}
use Rattle.sigstore_tuf_text.specs.declared.error.Error.{Error}
use Rattle.sigstore_tuf_text.specs.declared.error.Error.TheVariants as tuf
use Rattle.sigstore_tuf_text.specs.declared.error.Rule.TheVariants.{Threshold}
use Rattle.sigstore_tuf_parts.specs.declared.keys.Key.{Key}
use Rattle.sigstore_tuf_parts.specs.declared.keys.RoleKeys.{RoleKeys}
use Rattle.sigstore_tuf_parts.specs.declared.verification.KeyFault.{KeyFault}
use Rattle.sigstore_tuf_parts.specs.Document.{Document, signatures_in, text_in}
use Rattle.sigstore_tuf_parts.specs.Crypto.{key_of, signed_text}

-- the keys of a document, by their declared ids
abbrev pub Keys : Type 0
Keys = List (List ℕ × Key)

-- what a declared key gives
abbrev pub KeyOf : Type 0
KeyOf = Key → Result VerificationKey KeyFault

-- the text is one of these
abbrev pub is_among : List (List ℕ) → List ℕ → Bool
is_among known name = list_any (λ k. bytes_eq k name) known

-- the signature is of an id that the role names, and not empty
abbrev pub is_counted : RoleKeys → Signature → Bool
is_counted role s = is_among role.keyids s.keyid && not (length s.sig == 0)

-- The signatures that count. Those of other ids are passed over: anyone may sign. Empty ones too: signing ceremonies leave a
-- placeholder for each key holder who hasn't signed yet, and none of these is a signature.
abbrev pub counted_of : RoleKeys → List Signature → List Signature
counted_of role signatures = filter (is_counted role) signatures

abbrev pub ids_of : List Signature → List (List ℕ)
ids_of signatures = map (λ s. s.keyid) signatures

-- The first id that stands there a second time, after these were seen: else one key holder who signs twice meets a threshold of two.
abbrev pub second_after : List (List ℕ) → List (List ℕ) → Option (List ℕ)
second_after seen [] = None
second_after seen (id ∷ ids) = if is_among seen id then Some id else second_after (id ∷ seen) ids

-- ---- accepted signatures

-- the bytes are a good signature of the text under the key
abbrev pub is_accepted_raw : Judge → List ℕ → VerificationKey → Option (List ℕ) → Bool
is_accepted_raw accepts text key None = false
is_accepted_raw accepts text key (Some raw) = is_good accepts key (signed_text key.scheme text) raw

abbrev pub is_accepted_under : Judge → List ℕ → List ℕ → Result VerificationKey KeyFault → Bool
is_accepted_under accepts text sig (Err fault) = false
is_accepted_under accepts text sig (Ok key) = is_accepted_raw accepts text key (result_ok (decode_of sig))

abbrev pub is_accepted_by : Crypto → List ℕ → List ℕ → Option Key → Bool
is_accepted_by crypto text sig None = false
is_accepted_by crypto text sig (Some key) = is_accepted_under crypto.accepts text sig (key_of crypto.armored crypto.key_in key)

-- the signature is hexadecimal, and good under the key that has its id
abbrev pub is_accepted : Crypto → Keys → List ℕ → Signature → Bool
is_accepted crypto keys text s = is_accepted_by crypto text s.sig (at_name s.keyid keys)

-- how many signatures are accepted
abbrev pub found_of : Crypto → Keys → RoleKeys → List Signature → List ℕ → ℕ
found_of crypto keys role signatures text = count_by (is_accepted crypto keys text) (counted_of role signatures)

-- ---- the first check that fails

abbrev pub threshold_of : ℕ → Result ⊤ Error
threshold_of threshold = if threshold == 0 then Err (tuf.Malformed Threshold) else Ok tt

abbrev pub no_second : List ℕ → Option (List ℕ) → Result ⊤ Error
no_second name None = Ok tt
no_second name (Some id) = Err (tuf.DuplicateSignature name id)

abbrev pub enough_of : List ℕ → ℕ → ℕ → Result ⊤ Error
enough_of name found threshold = if nat_le threshold found then Ok tt else Err (tuf.ThresholdNotMet name found threshold)

-- A threshold of 0 would be met without any signature, so it is refused first.
-- The document meets the role: its threshold isn't 0; no id that it names signed twice; and at least threshold ids signed.
unfoldable pub meets_of : {T : Type 0} → Crypto → Keys → RoleKeys → List ℕ → Document T → Result ⊤ Error
meets_of crypto keys role name doc = do
  _ ← threshold_of role.threshold
  _ ← no_second name (second_after [] (ids_of (counted_of role (signatures_in doc))))
  enough_of name (found_of crypto keys role (signatures_in doc) (text_in doc)) role.threshold
