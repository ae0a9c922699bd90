-- The refusals of documents: what each misreading is, and each one's number and name.
use Rattle.std.specs.Prelude.{ℕ, List, codes}
use Rattle.sigstore_types_parts.specs.declared.misread.Misread.{Misread}
use Rattle.sigstore_types_parts.specs.declared.misread.Misread.TheVariants as misread
use Rattle.sigstore_types_parts.specs.declared.parse.JsonFault.{JsonFault}
use Rattle.sigstore_types_parts.specs.declared.parse.JsonFault.TheVariants as fault
use Rattle.sigstore_tuf_text.specs.declared.error.Error.{Error}
use Rattle.sigstore_tuf_text.specs.declared.error.Error.TheVariants.{Json, Malformed, NonIntegerNumber, UnusableKey}
use Rattle.sigstore_tuf_text.specs.declared.error.Error.TheVariants.{UnsupportedScheme, UnknownRole}
use Rattle.sigstore_tuf_text.specs.declared.error.Error.TheVariants.{DuplicateSignature, ThresholdNotMet, Rollback}
use Rattle.sigstore_tuf_text.specs.declared.error.Error.TheVariants.{EqualVersion, BadRootVersion, Expired}
use Rattle.sigstore_tuf_text.specs.declared.error.Error.TheVariants.{IntegrityMismatch, Crypto, NotRefreshed}
use Rattle.sigstore_tuf_text.specs.declared.error.Error.TheVariants.{TargetNotFound, Transport, NoMemory}

-- a misreading as a refusal: whatever isn't read is Json
abbrev pub error_of : Misread → Error
error_of misread.NoMemory = NoMemory
error_of misread.Shape = Json
error_of misread.Base64 = Json
error_of misread.Hex = Json
error_of (misread.Length expected actual) = Json

-- a fault of the JSON text as a refusal
abbrev pub error_of_fault : JsonFault → Error
error_of_fault fault.NotJson = Json
error_of_fault fault.Float = NonIntegerNumber
error_of_fault fault.NoMemory = NoMemory

abbrev pub number_of : Error → ℕ
number_of Json = 1
number_of (Malformed rule) = 2
number_of NonIntegerNumber = 3
number_of (UnusableKey key_id) = 4
number_of (UnsupportedScheme keytype scheme) = 5
number_of (UnknownRole name) = 6
number_of (DuplicateSignature role key_id) = 7
number_of (ThresholdNotMet role found threshold) = 8
number_of (Rollback role trusted new) = 9
number_of (EqualVersion role version) = 10
number_of (BadRootVersion trusted new) = 11
number_of (Expired role expires) = 12
number_of (IntegrityMismatch mismatch) = 13
number_of Crypto = 14
number_of NotRefreshed = 15
number_of (TargetNotFound path) = 16
number_of (Transport fault) = 18
number_of NoMemory = 19

abbrev pub name_of : Error → List ℕ
name_of Json = codes "Json"
name_of (Malformed rule) = codes "Malformed"
name_of NonIntegerNumber = codes "NonIntegerNumber"
name_of (UnusableKey key_id) = codes "UnusableKey"
name_of (UnsupportedScheme keytype scheme) = codes "UnsupportedScheme"
name_of (UnknownRole name) = codes "UnknownRole"
name_of (DuplicateSignature role key_id) = codes "DuplicateSignature"
name_of (ThresholdNotMet role found threshold) = codes "ThresholdNotMet"
name_of (Rollback role trusted new) = codes "Rollback"
name_of (EqualVersion role version) = codes "EqualVersion"
name_of (BadRootVersion trusted new) = codes "BadRootVersion"
name_of (Expired role expires) = codes "Expired"
name_of (IntegrityMismatch mismatch) = codes "IntegrityMismatch"
name_of Crypto = codes "Crypto"
name_of NotRefreshed = codes "NotRefreshed"
name_of (TargetNotFound path) = codes "TargetNotFound"
name_of (Transport fault) = codes "Transport"
name_of NoMemory = codes "NoMemory"
