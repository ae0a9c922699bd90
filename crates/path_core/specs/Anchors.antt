-- Certificates that are trusted beforehand (RFC 5280, 6.1.1 (d)).
use Rattle.std.specs.Prelude.{ℕ, List, Bool, not, ◌&&◌, int_lt, pos, Option, Result, Ok, Err, ⊤, if◌then◌else◌}
use Rattle.jiff_core.specs.declared.timestamp.Timestamp.{Timestamp}
use Rattle.x509_views.specs.Certificates.{Certificate as Parts, certificate_of}
use Rattle.spki_core.specs.Reading.{Reading}
use Rattle.sigstore_types_parts.specs.declared.time_range.TimeRange.{TimeRange}
use Rattle.sigstore_keys.specs.Keyring.{is_used_at}
use Rattle.path_core.specs.declared.error.PathError.{PathError}
use Rattle.path_core.specs.declared.error.PathError.TheVariants.{Certificate, NameConstraints}
use Rattle.path_core.specs.Traits.{constrains_names}

-- a certificate as its bytes, with the window in which it is trusted
pub record TrustAnchor : Type 0 where
  pub certificate : List ℕ
  pub valid_for : Option TimeRange

abbrev pub unconstrained : Parts → Result ⊤ PathError
unconstrained c = if constrains_names c then Err NameConstraints else Ok tt

abbrev pub unconstrained_read : Reading Parts → Result ⊤ PathError
unconstrained_read (Ok c) = unconstrained c
unconstrained_read (Err e) = Err Certificate

-- whether bytes are a certificate without name constraints, which aren't judged
unfoldable pub may_anchor : List ℕ → Result ⊤ PathError
may_anchor bytes = unconstrained_read (certificate_of bytes)

-- the moment isn't before 1970
abbrev pub is_since_1970 : Timestamp → Bool
is_since_1970 at = not (int_lt at.nanosecond (pos 0))

-- the moment isn't before 1970, and the anchor's window has it; its certificate's own dates aren't looked at, since it is trusted
-- by its window
unfoldable pub opens : Timestamp → TrustAnchor → Bool
opens at anchor = is_since_1970 at && is_used_at at anchor.valid_for
