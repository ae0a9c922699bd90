use Rattle.std.proofs.Common.{ap, ◌∙◌}
use Rattle.sigstore_entries.specs.Checkpoint.{ended_of}
use Rattle.sigstore_entries.proofs.LineFacts.{ended_line}
use Rattle.sigstore_entries.proofs.lines.ended_line.Goals as goal

pub returns-in-Some : goal.returns-in-Some
returns-in-Some c =
    ap (ended_of c.args.rule) (c.in-Some.ensures.0) ∙ ended_line c.args.rule c.in-Some.parts.0.now c.in-Some.parts.1.now
