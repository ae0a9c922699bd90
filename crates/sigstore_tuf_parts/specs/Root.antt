-- The root document (TUF specification, section 4.3).
use Rattle.std.specs.Prelude.{[], ◌∷◌, false, Result, Ok}
use Rattle.serde_json.specs.Data.{Data}
use Rattle.foundation.specs.Steps.{◌>>=◌}
use Rattle.sigstore_tuf_text.specs.declared.error.Error.{Error}
use Rattle.sigstore_tuf_text.specs.declared.member.DocumentMember.TheVariants as m
use Rattle.sigstore_tuf_text.specs.Others.{others_of}
use Rattle.sigstore_tuf_parts.specs.declared.root.Root.{Root}
use Rattle.sigstore_tuf_text.specs.Words.{required, defaulted, bool, map}
use Rattle.sigstore_tuf_parts.specs.Head.{head_of}
use Rattle.sigstore_tuf_parts.specs.Keys.{key_in_of, role_keys_of}

unfoldable pub root_of : Data → Result Root Error
root_of d = do
  head ← head_of d
  consistent ← defaulted bool m.ConsistentSnapshot false d
  keys ← required (map key_in_of) m.Keys d
  roles ← required (map role_keys_of) m.Roles d
  Ok (record {
    type_ = head.type_;
    spec_version = head.spec_version;
    version = head.version;
    expires = head.expires;
    consistent_snapshot = consistent;
    keys = keys;
    roles = roles;
    extra = others_of (m.Type ∷ m.SpecVersion ∷ m.Version ∷ m.Expires ∷ m.ConsistentSnapshot ∷ m.Keys ∷ m.Roles ∷ []) d;
  })
