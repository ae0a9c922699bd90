-- Whether an authority's certificates vouch for its leaf at a token's time (RFC 3161, 2.3; RFC 5280, 6).
use Rattle.std.specs.Prelude.{[], ◌∷◌, ⊤, Option, None, Result, Ok, Err, if◌then◌else◌}
use Rattle.foundation.specs.Steps.{◌>>=◌}
use Rattle.jiff_core.specs.declared.timestamp.Timestamp.{Timestamp}
use Rattle.x509_views.specs.Certificates.{Certificate}
use Rattle.sigstore_types_parts.specs.declared.time_range.TimeRange.{TimeRange}
use Rattle.sigstore_types_parts.specs.TimeRange.{has_started, ends_by}
use Rattle.sigstore_types.specs.declared.authority.TsaAuthority.{TsaAuthority}
use Rattle.sigstore_keys.specs.Good.{Judge}
use Rattle.sigstore_keys.specs.Keyring.{is_used_at}
use Rattle.path_core.specs.declared.purpose.Purpose.TheVariants.{TimeStamping}
use Rattle.path_core.specs.Anchors.{TrustAnchor, may_anchor}
use Rattle.path_core.specs.Path.{path_of}
use Rattle.path_core.specs.Paths.{Setting, setting}
use Rattle.path_core.specs.Traits.{window_of}
use Rattle.sigstore_tsa_parts.specs.declared.error.CertificateFault.{CertificateFault}
use Rattle.sigstore_tsa_parts.specs.declared.error.CertificateFault.TheVariants.{Root, Path, NotYetValid, Expired}
use Rattle.sigstore_tsa_parts.specs.declared.error.Error.TheVariants.{CertificateValidationError, TimestampOutsideValidity}
use Rattle.sigstore_tsa_parts.specs.Error.{Judged}

-- a step of the certificates', with the fault that it has
abbrev pub or_fault : {A E : Type 0} → CertificateFault → Result A E → Judged A
or_fault fault (Ok a) = Ok a
or_fault fault (Err e) = Err (CertificateValidationError fault)

-- the authority's root, which is trusted whatever its own dates are
abbrev pub root_anchor : TsaAuthority → TrustAnchor
root_anchor authority = record { certificate = authority.root; valid_for = None }

-- from the authority's leaf over its intermediates to its root, for time stamping
abbrev pub setting_of : Judge → TsaAuthority → Timestamp → Setting
setting_of accepts authority time =
    setting accepts authority.leaf authority.intermediates (root_anchor authority ∷ []) TimeStamping time

-- the leaf's validity has the time
abbrev pub within_validity : TimeRange → Timestamp → Judged ⊤
within_validity range time =
    if has_started range time then (if ends_by range.end time then Ok tt else Err (CertificateValidationError Expired))
    else Err (CertificateValidationError NotYetValid)

-- and the authority's window (else an authority that is no longer trusted could stamp on)
abbrev pub within_window : Option TimeRange → Timestamp → Judged ⊤
within_window window time = if is_used_at time window then Ok tt else Err (TimestampOutsideValidity time)

-- the root, the path, the leaf's validity, and the authority's window
unfoldable pub vouched_of : Judge → TsaAuthority → Certificate → Timestamp → Judged ⊤
vouched_of accepts authority leaf time = do
  _ ← or_fault Root (may_anchor authority.root)
  _ ← or_fault Path (path_of (setting_of accepts authority time))
  _ ← within_validity (window_of leaf) time
  within_window authority.valid_for time
