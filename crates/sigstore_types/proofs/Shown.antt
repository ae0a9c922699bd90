-- What is judged of entries, where there is one.
use Rattle.std.proofs.Common.{◌≡◌, ◌<◌, List, [], ◌∷◌, length, true, false, if◌then◌else◌, Ok, Err, arith, ap}
use Rattle.std.specs.List.{list_all}
use Rattle.sigstore_types_parts.specs.declared.error.TypesError.TheVariants.{NoProof}
use Rattle.sigstore_entries.specs.declared.entry.TransparencyLogEntry.{TransparencyLogEntry}
use Rattle.sigstore_types.specs.Bundle.{has_proof, shown_of}

pub shown : (entries : List TransparencyLogEntry) → 0 < length entries → list_all has_proof entries ≡ true → shown_of entries ≡ Ok tt
shown [] some all = absurd (omega (arith, some))
shown (entry ∷ entries) some all = ap (λ b. if b then Ok tt else Err NoProof) all

pub unshown : (entries : List TransparencyLogEntry) → 0 < length entries → list_all has_proof entries ≡ false → shown_of entries ≡ Err NoProof
unshown [] some all = absurd (omega (arith, some))
unshown (entry ∷ entries) some all = ap (λ b. if b then Ok tt else Err NoProof) all
