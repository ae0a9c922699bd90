use Rattle.std.proofs.Common.{sym, ap, ◌∙◌}
use Rattle.sigstore_types_parts.specs.Instant.{at_nanosecond}
use Rattle.sigstore_types_parts.proofs.Instants.{at_nanosecond-nanosecond}
use Rattle.certificate_fields.specs.Fields.{moment_of}
use Rattle.certificate_fields.proofs.times.moment.Goals as goal

pub returns : goal.returns
unfolding moment_of
returns c = sym (at_nanosecond-nanosecond c.moment.result) ∙ ap at_nanosecond c.moment.ensures
