-- The names of a certificate's owner as they are found, one after the other.
use Rattle.std.specs.Prelude.{ℕ, List, Option, Some, None, Ok}
use Rattle.foundation.specs.Steps.{◌>>=◌}
use Rattle.der_grammar.specs.Outcome.{Outcome}
use Rattle.x509_core.specs.declared.general_name.GeneralName.{GeneralName}
use Rattle.x509_core.specs.declared.general_name.GeneralName.TheVariants as name
use Rattle.certificate_claims.specs.declared.certificate_info.SubjectAltName.{SubjectAltName}
use Rattle.certificate_claims.specs.declared.certificate_info.SubjectAltName.TheVariants.{Email, Uri}
use Rattle.certificate_claims.specs.declared.names.FoundName.{FoundName}
use Rattle.certificate_claims.specs.declared.names.FoundName.TheVariants as found
use Rattle.certificate_claims.specs.Info.{first_name}

-- what a name says of the owner, if anything
abbrev pub shown : GeneralName → Option SubjectAltName
shown (name.Rfc822Name text) = Some (Email text)
shown (name.Uri text) = Some (Uri text)
shown (name.Other other) = None

-- the same of a name that was found
abbrev pub said : Option FoundName → Option SubjectAltName
said None = None
said (Some (found.Email text)) = Some (Email text.now)
said (Some (found.Uri text)) = Some (Uri text.now)

abbrev pub shown_of : Outcome GeneralName → Outcome (Option SubjectAltName)
shown_of read = read >>= λ one. Ok (shown one)

-- what the name at the front says, and what follows
abbrev pub shown_at : Outcome (GeneralName × List ℕ) → Outcome (Option SubjectAltName × List ℕ)
shown_at read = read >>= λ one. Ok (shown one.0, one.1)

abbrev pub first_of : Outcome (List GeneralName) → Outcome (Option SubjectAltName)
first_of read = read >>= λ names. Ok (first_name names)

-- the earlier of two
abbrev pub or_first : Option SubjectAltName → Option SubjectAltName → Option SubjectAltName
or_first None later = later
or_first (Some name) later = Some name
