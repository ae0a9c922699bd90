-- The lines that are looked at, as the code cuts them.
use Rattle.std.proofs.Common.{◌≡◌, List, length}
use Rattle.std.specs.Prelude.{min, take}
use Rattle.std.proofs.lemmas.List.{take_min}
use Rattle.sigstore_entries.specs.declared.signature_line.CheckpointSignature.{CheckpointSignature}

pub first_hundred : (lines : List CheckpointSignature) → take (min 100 (length lines)) lines ≡ take 100 lines
first_hundred lines = take_min 100 lines
