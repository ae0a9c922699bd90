-- The timestamp document, and pins (TUF specification, sections 4.4 and 4.6).
use Rattle.std.specs.Prelude.{[], ◌∷◌, Result, Ok}
use Rattle.serde_json.specs.Data.{Data}
use Rattle.foundation.specs.Steps.{◌>>=◌}
use Rattle.sigstore_tuf_text.specs.declared.error.Error.{Error}
use Rattle.sigstore_tuf_text.specs.declared.member.DocumentMember.TheVariants as m
use Rattle.sigstore_tuf_text.specs.Others.{others_of}
use Rattle.sigstore_tuf_parts.specs.declared.timestamp.MetaFile.{MetaFile}
use Rattle.sigstore_tuf_parts.specs.declared.timestamp.Timestamp.{Timestamp}
use Rattle.sigstore_tuf_text.specs.Words.{required, optional, u64, text, map}
use Rattle.sigstore_tuf_parts.specs.Head.{head_of}

-- a pin
unfoldable pub meta_file_of : Data → Result MetaFile Error
meta_file_of d = do
  version ← required u64 m.Version d
  length ← optional u64 m.Length d
  hashes ← optional (map text) m.Hashes d
  Ok (record { version = version; length = length; hashes = hashes; extra = others_of (m.Version ∷ m.Length ∷ m.Hashes ∷ []) d })

unfoldable pub timestamp_of : Data → Result Timestamp Error
timestamp_of d = do
  head ← head_of d
  meta ← required (map meta_file_of) m.Meta d
  Ok (record {
    type_ = head.type_;
    spec_version = head.spec_version;
    version = head.version;
    expires = head.expires;
    meta = meta;
    extra = others_of (m.Type ∷ m.SpecVersion ∷ m.Version ∷ m.Expires ∷ m.Meta ∷ []) d;
  })
