use Rattle.std.proofs.Common.{sym, ap, ◌∙◌}
use Rattle.sigstore_types_parts.proofs.Instants.{at_nanosecond-nanosecond}
use Rattle.sigstore_types.specs.TrustedRoot.{or_earliest}
use Rattle.sigstore_types.proofs.valid_for.or_earliest.Goals as goal

pub returns-in-None : goal.returns-in-None
returns-in-None c = sym (at_nanosecond-nanosecond _) ∙ ap or_earliest (sym c.in-None.is)
