-- What every reader of a certificate takes from its parts (RFC 5280, 4.1.2.5 and 4.2).
use Rattle.std.specs.Prelude.{ℕ, List, [], ◌∷◌, bytes_eq, if◌then◌else◌, Option, Some, None}
use Rattle.jiff_core.specs.declared.timestamp.Timestamp.{Timestamp}
use Rattle.der_core.specs.declared.civil.Civil.{Civil}
use Rattle.der_core.specs.Times.{instant_of_civil}
use Rattle.x509_views.specs.Certificates.{Certificate}
use Rattle.x509_views.specs.Extensions.{OneExtension}
use Rattle.x509_views.specs.Walk.{all_extensions, walk_of}
use Rattle.sigstore_types_parts.specs.Instant.{at_nanosecond}

-- the value of the extension with this identifier, of which a certificate has at most one (RFC 5280, 4.2)
abbrev pub value_of : List ℕ → List OneExtension → Option (List ℕ)
value_of oid [] = None
value_of oid (x ∷ xs) = if bytes_eq x.oid oid then Some x.value else value_of oid xs

abbrev pub extensions_of : Certificate → List OneExtension
extensions_of certificate = walk_of (all_extensions certificate.signed.tail.extensions)

-- the moment of a civil time of UTC
unfoldable pub moment_of : Civil → Timestamp
moment_of civil = at_nanosecond (instant_of_civil civil)
