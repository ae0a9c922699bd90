-- The types that own their bytes, as a view of a certificate sees them.
use Rattle.std.specs.Prelude.{ℕ, List, Option, Some, None, Ok}
use Rattle.foundation.specs.Steps.{◌>>=◌}
use Rattle.der_grammar.specs.Outcome.{Outcome}
use Rattle.der_grammar.specs.Tlv.{tlv}
use Rattle.der_core.specs.declared.civil.Civil.{Civil}
use Rattle.der_core.specs.Times.{utc_of, generalized_of}
use Rattle.der_grammar.specs.Grammar.{read}
use Rattle.der_grammar.specs.Tags.{sequence_tag}
use Rattle.x509_views.specs.Extensions.{OneExtension}
use Rattle.spki_core.specs.Reading.{Reading, of_der}
use Rattle.spki_core.specs.Spki.{algorithm_at}
use Rattle.x509_core.specs.declared.algorithm.AlgorithmIdentifierOwned.{AlgorithmIdentifierOwned}
use Rattle.x509_core.specs.declared.extension.Extension.{Extension}
use Rattle.x509_core.specs.declared.time.Time.{Time}
use Rattle.x509_core.specs.declared.time.Time.TheVariants.{Utc, General}
use Rattle.x509_core.specs.Kinds.{name_type}
use Rattle.x509_core.specs.Types.{algorithm_type, extension_type}

-- a value of any type as it is encoded
abbrev pub any_seen : Option (ℕ × List ℕ) → Option (List ℕ)
any_seen None = None
any_seen (Some value) = Some (tlv value.0 value.1)

-- the identifier, and the parameters as they are encoded
abbrev pub algorithm_seen : AlgorithmIdentifierOwned → List ℕ × Option (List ℕ)
algorithm_seen a = (a.oid, any_seen a.parameters)

abbrev pub extension_seen : Extension → OneExtension
extension_seen e = record { oid = e.oid; critical = e.critical; value = e.value }

abbrev pub civil_of : Time → Outcome Civil
civil_of (Utc t) = utc_of t
civil_of (General t) = generalized_of t

-- ---- what is read at the front, and what follows

-- a `Name` as it is encoded
abbrev pub name_read : List ℕ → Reading (List ℕ × List ℕ)
name_read bytes = of_der (read name_type.grammar bytes) >>= λ x. Ok (tlv sequence_tag x.0, x.1)

-- an `AlgorithmIdentifierOwned`, and what a view has of one
abbrev pub algorithm_read : List ℕ → Reading ((List ℕ × Option (List ℕ)) × List ℕ)
algorithm_read bytes = of_der (read algorithm_type.grammar bytes) >>= λ x. Ok (algorithm_seen x.0, x.1)

abbrev pub algorithm_viewed : List ℕ → Reading ((List ℕ × Option (List ℕ)) × List ℕ)
algorithm_viewed bytes = algorithm_at bytes >>= λ x. Ok ((x.0.oid, x.0.parameters), x.1)

-- an `Extension`
abbrev pub extension_read : List ℕ → Reading (OneExtension × List ℕ)
extension_read bytes = of_der (read extension_type.grammar bytes) >>= λ x. Ok (extension_seen x.0, x.1)
