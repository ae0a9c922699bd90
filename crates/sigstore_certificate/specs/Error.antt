-- What a refusal of the search for a path is of the certificate.
use Rattle.std.specs.Prelude.{Result, Ok, Err}
use Rattle.path_core.specs.declared.error.LeafFault.TheVariants as leaf
use Rattle.path_core.specs.declared.error.PathError.{PathError}
use Rattle.path_core.specs.declared.error.PathError.TheVariants as path
use Rattle.sigstore_certificate.specs.declared.error.CertificateRefusal.{CertificateRefusal}
use Rattle.sigstore_certificate.specs.declared.error.CertificateRefusal.TheVariants.{Malformed, ChainInvalid, NoMemory}

-- One that is no leaf by its reading, its version or its critical extensions is malformed; one that may issue certificates or is for
-- another purpose has no path.
abbrev pub refusal_of_path : PathError → CertificateRefusal
refusal_of_path (path.Leaf leaf.Unreadable) = Malformed
refusal_of_path (path.Leaf leaf.Version) = Malformed
refusal_of_path (path.Leaf leaf.CriticalExtension) = Malformed
refusal_of_path (path.Leaf leaf.IsCa) = ChainInvalid
refusal_of_path (path.Leaf leaf.Purpose) = ChainInvalid
refusal_of_path path.NoPath = ChainInvalid
refusal_of_path path.NameConstraints = ChainInvalid
refusal_of_path path.Certificate = ChainInvalid
refusal_of_path path.NoMemory = NoMemory

abbrev pub by_path : {A : Type 0} → Result A PathError → Result A CertificateRefusal
by_path (Ok x) = Ok x
by_path (Err e) = Err (refusal_of_path e)
