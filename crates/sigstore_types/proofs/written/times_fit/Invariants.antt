use Rattle.std.proofs.Common.{ℕ, ◌<◌, slice_index_or}
use Rattle.sigstore_entries.specs.Laws.{TimeFits}
use Rattle.sigstore_entries.specs.declared.entry.TransparencyLogEntry.{TransparencyLogEntry}
use Rattle.sigstore_types.proofs.written.times_fit.Given as goal

-- those so far fit
abbrev pub invariant-loop-entry : goal.invariant-loop-entry
invariant-loop-entry l = (k : ℕ) (d : TransparencyLogEntry) → k < l.entry-index → TimeFits (slice_index_or l.entries k d).integrated_time
