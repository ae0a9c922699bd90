-- What every kind of document begins with (TUF specification, section 4.3).
use Rattle.std.specs.Prelude.{Result, Ok}
use Rattle.serde_json.specs.Data.{Data}
use Rattle.foundation.specs.Steps.{◌>>=◌}
use Rattle.sigstore_tuf_text.specs.declared.error.Error.{Error}
use Rattle.sigstore_tuf_parts.specs.declared.head.Head.{Head}
use Rattle.sigstore_tuf_text.specs.declared.member.DocumentMember.TheVariants as m
use Rattle.sigstore_tuf_text.specs.Words.{required, u64, text, moment}

-- the members that all kinds have
unfoldable pub head_of : Data → Result Head Error
head_of d = do
  type_ ← required text m.Type d
  spec_version ← required text m.SpecVersion d
  version ← required u64 m.Version d
  expires ← required moment m.Expires d
  Ok (record { type_ = type_; spec_version = spec_version; version = version; expires = expires })
