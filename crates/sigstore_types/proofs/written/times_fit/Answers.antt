use Rattle.std.proofs.lemmas.List.Elements.{recursion_from_All}
use Rattle.std.proofs.Common.{arith}
use Rattle.sigstore_entries.specs.Laws.{TimeFits}
use Rattle.sigstore_entries.specs.declared.entry.TransparencyLogEntry.{TransparencyLogEntry}
use Rattle.sigstore_types.proofs.written.times_fit.Goals as goal

pub returns : goal.returns
returns c =
    recursion_from_All (λ (entry : TransparencyLogEntry). TimeFits entry.integrated_time) c.args.entries.now (λ k d h. c.loop-entry.invariant k d (omega arith))
