-- What a signature is judged over.
use Rattle.std.specs.Prelude.{ℕ, List}
use Rattle.command_files.specs.declared.subject.Subject.{Subject}
use Rattle.command_files.specs.declared.subject.Subject.TheVariants.{Sha256, Sha384, Sha512, Message}

abbrev pub octets_of : Subject → List ℕ
octets_of (Sha256 digest) = digest
octets_of (Sha384 digest) = digest
octets_of (Sha512 digest) = digest
octets_of (Message message) = message.now
