-- The snapshot document (TUF specification, section 4.4).
use Rattle.std.specs.Prelude.{[], ◌∷◌, Result, Ok}
use Rattle.serde_json.specs.Data.{Data}
use Rattle.foundation.specs.Steps.{◌>>=◌}
use Rattle.sigstore_tuf_text.specs.declared.error.Error.{Error}
use Rattle.sigstore_tuf_text.specs.declared.member.DocumentMember.TheVariants as m
use Rattle.sigstore_tuf_text.specs.Others.{others_of}
use Rattle.sigstore_tuf_parts.specs.declared.snapshot.Snapshot.{Snapshot}
use Rattle.sigstore_tuf_text.specs.Words.{required, map}
use Rattle.sigstore_tuf_parts.specs.Head.{head_of}
use Rattle.sigstore_tuf_parts.specs.Timestamp.{meta_file_of}

unfoldable pub snapshot_of : Data → Result Snapshot Error
snapshot_of d = do
  head ← head_of d
  meta ← required (map meta_file_of) m.Meta d
  Ok (record {
    type_ = head.type_;
    spec_version = head.spec_version;
    version = head.version;
    expires = head.expires;
    meta = meta;
    extra = others_of (m.Type ∷ m.SpecVersion ∷ m.Version ∷ m.Expires ∷ m.Meta ∷ []) d;
  })
