-- Keys, and what a role asks of them (TUF specification, sections 4.2 and 4.3).
use Rattle.std.specs.Prelude.{[], ◌∷◌, Result, Ok}
use Rattle.serde_json.specs.Data.{Data}
use Rattle.foundation.specs.Steps.{◌>>=◌}
use Rattle.sigstore_tuf_text.specs.declared.error.Error.{Error}
use Rattle.sigstore_tuf_parts.specs.declared.keys.KeyVal.{KeyVal}
use Rattle.sigstore_tuf_parts.specs.declared.keys.Key.{Key}
use Rattle.sigstore_tuf_parts.specs.declared.keys.RoleKeys.{RoleKeys}
use Rattle.sigstore_tuf_text.specs.declared.member.DocumentMember.TheVariants as m
use Rattle.sigstore_tuf_text.specs.Words.{required, u64, text, sequence}
use Rattle.sigstore_tuf_text.specs.Others.{others_of}

unfoldable pub key_val_of : Data → Result KeyVal Error
key_val_of d = do
  public ← required text m.Public d
  Ok (record { public = public; extra = others_of (m.Public ∷ []) d })

-- a key as it is declared
unfoldable pub key_in_of : Data → Result Key Error
key_in_of d = do
  keytype ← required text m.Keytype d
  scheme ← required text m.Scheme d
  keyval ← required key_val_of m.Keyval d
  Ok (record { keytype = keytype; scheme = scheme; keyval = keyval; extra = others_of (m.Keytype ∷ m.Scheme ∷ m.Keyval ∷ []) d })

unfoldable pub role_keys_of : Data → Result RoleKeys Error
role_keys_of d = do
  keyids ← required (sequence text) m.Keyids d
  threshold ← required u64 m.Threshold d
  Ok (record { keyids = keyids; threshold = threshold; extra = others_of (m.Keyids ∷ m.Threshold ∷ []) d })
