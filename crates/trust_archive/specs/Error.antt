-- The number and the name of each refusal.
use Rattle.std.specs.Prelude.{ℕ, List, codes}
use Rattle.trust_archive.specs.declared.error.ArchiveError.{ArchiveError}
use Rattle.trust_archive.specs.declared.error.ArchiveError.TheVariants.{Format, FirstRoot, Root, Timestamp, Snapshot}
use Rattle.trust_archive.specs.declared.error.ArchiveError.TheVariants.{Role, Order, File, TooLong, NoMemory}

abbrev pub number_of : ArchiveError → ℕ
number_of (Format at) = 1
number_of FirstRoot = 2
number_of (Root position fault) = 3
number_of (Timestamp fault) = 4
number_of (Snapshot fault) = 5
number_of (Role position fault) = 6
number_of (Order position) = 7
number_of File = 8
number_of (TooLong length) = 9
number_of NoMemory = 10

abbrev pub name_of : ArchiveError → List ℕ
name_of (Format at) = codes "Format"
name_of FirstRoot = codes "FirstRoot"
name_of (Root position fault) = codes "Root"
name_of (Timestamp fault) = codes "Timestamp"
name_of (Snapshot fault) = codes "Snapshot"
name_of (Role position fault) = codes "Role"
name_of (Order position) = codes "Order"
name_of File = codes "File"
name_of (TooLong length) = codes "TooLong"
name_of NoMemory = codes "NoMemory"
