-- What a certificate says of its use, and whether that makes it a leaf or an intermediate (RFC 5280, 6.1).
use Rattle.std.specs.Prelude.{ℕ, List, Bool, false, not, ◌&&◌, ◌==◌, ⊤, Some, Result, Ok, Err, is_some, if◌then◌else◌}
use Rattle.foundation.specs.Steps.{◌>>=◌}
use Rattle.jiff_core.specs.declared.timestamp.Timestamp.{Timestamp}
use Rattle.x509_views.specs.Certificates.{Certificate, certificate_of}
use Rattle.spki_core.specs.Reading.{Reading}
use Rattle.sigstore_types_parts.specs.declared.time_range.TimeRange.{TimeRange}
use Rattle.sigstore_types_parts.specs.TimeRange.{contains}
use Rattle.certificate_fields.specs.Fields.{value_of, extensions_of, moment_of}
use Rattle.path_core.specs.declared.authority.CaConstraint.{CaConstraint}
use Rattle.path_core.specs.declared.error.LeafFault.{LeafFault}
use Rattle.path_core.specs.declared.error.LeafFault.TheVariants as fault
use Rattle.path_core.specs.declared.purpose.Purpose.{Purpose}
use Rattle.path_core.specs.declared.traits.Traits.{Traits}
use Rattle.path_core.specs.declared.usage.Usage.{Usage}
use Rattle.path_core.specs.CaConstraint.{authority_in, stands_above, is_no_ca}
use Rattle.path_core.specs.Extensions.{extension_oid, has_unknown_critical}
use Rattle.path_core.specs.Usage.{usage_in, has_purpose, allows_purpose}

-- ---- what it says

-- from notBefore to notAfter, both belonging to it (4.1.2.5)
abbrev pub window_of : Certificate → TimeRange
window_of c = record { start = moment_of c.signed.middle.not_before; end = Some (moment_of c.signed.middle.not_after) }

-- id-ce-nameConstraints, 2.5.29.30, is there (4.2.1.10)
unfoldable pub constrains_names : Certificate → Bool
constrains_names c = is_some (value_of (extension_oid 30) (extensions_of c))

-- id-ce-basicConstraints, 2.5.29.19
unfoldable pub authority_by : Certificate → CaConstraint
authority_by c = authority_in (value_of (extension_oid 19) (extensions_of c))

-- id-ce-extKeyUsage, 2.5.29.37
unfoldable pub usage_by : Certificate → Usage
usage_by c = usage_in (value_of (extension_oid 37) (extensions_of c))

abbrev pub traits_of : Certificate → Traits
traits_of c = record {
  version = c.signed.front.version;
  window = window_of c;
  unknown_critical = has_unknown_critical (extensions_of c);
  authority = authority_by c;
  usage = usage_by c;
  name_constraints = constrains_names c;
}

-- ---- a leaf

-- extensions are of the third version, which is written 2 (4.1.2.1)
abbrev pub of_third_version : ℕ → Result ⊤ LeafFault
of_third_version version = if version == 2 then Ok tt else Err fault.Version

abbrev pub without_unknown : Bool → Result ⊤ LeafFault
without_unknown unknown = if unknown then Err fault.CriticalExtension else Ok tt

abbrev pub of_no_ca : CaConstraint → Result ⊤ LeafFault
of_no_ca authority = if is_no_ca authority then Ok tt else Err fault.IsCa

abbrev pub for_purpose : Purpose → Usage → Result ⊤ LeafFault
for_purpose purpose usage = if has_purpose purpose usage then Ok tt else Err fault.Purpose

-- the first property that is lacking
unfoldable pub leaf_judged : Purpose → Traits → Result ⊤ LeafFault
leaf_judged purpose t = do
  _ ← of_third_version t.version
  _ ← without_unknown t.unknown_critical
  _ ← of_no_ca t.authority
  for_purpose purpose t.usage

abbrev pub leaf_read : Purpose → Reading Certificate → Result ⊤ LeafFault
leaf_read purpose (Ok c) = leaf_judged purpose (traits_of c)
leaf_read purpose (Err e) = Err fault.Unreadable

-- whether bytes are a leaf's for the purpose, or the first property that it lacks
unfoldable pub leaf_of : Purpose → List ℕ → Result ⊤ LeafFault
leaf_of purpose bytes = leaf_read purpose (certificate_of bytes)

-- ---- an intermediate

-- of the third version and a CA (6.1.4 (k)), its path length no less than the number of intermediates below it (6.1.4 (l) and
-- (m); those that issued themselves count too, which refuses more), for the purpose or for any, the moment in its window (6.1.3
-- (a) (2)), each critical extension known (6.1.4 (o)); name constraints (6.1.3 (b) and (c)) aren't judged, so it has none
unfoldable pub issues : Purpose → Timestamp → ℕ → Traits → Bool
issues purpose at below t =
    t.version == 2 && stands_above below t.authority && allows_purpose purpose t.usage && contains t.window at
    && not t.unknown_critical && not t.name_constraints

abbrev pub fits_read : Purpose → Timestamp → ℕ → Reading Certificate → Bool
fits_read purpose at below (Ok c) = issues purpose at below (traits_of c)
fits_read purpose at below (Err e) = false

-- bytes are an intermediate's that may stand above so many others
unfoldable pub fits : Purpose → Timestamp → ℕ → List ℕ → Bool
fits purpose at below bytes = fits_read purpose at below (certificate_of bytes)
