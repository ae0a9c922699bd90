use Rattle.std.proofs.Common.{Some, option_map, sym, ap, ◌∙◌}
use Rattle.std.specs.Result.{result_ok}
use Rattle.sigstore_types_parts.specs.Instant.{at_nanosecond, instant_of}
use Rattle.sigstore_types_parts.proofs.Instants.{at_nanosecond-nanosecond}
use Rattle.sigstore_types_parts.proofs.leaves.instant.Goals as goal

pub returns-in-Ok : goal.returns-in-Ok
unfolding instant_of
returns-in-Ok c = sym (ap Some (at_nanosecond-nanosecond c.in-Ok.moment)) ∙ ap (option_map at_nanosecond) (ap result_ok c.in-Ok.ensures.value)

pub returns-in-Err : goal.returns-in-Err
unfolding instant_of
returns-in-Err c = ap (option_map at_nanosecond) (ap result_ok c.in-Err.ensures.value)
