use Rattle.std.proofs.Common.{List, Result, Ok, refl}
use Rattle.foundation.specs.Steps.{◌>>=◌}
use Rattle.command_files.proofs.Readings.{first_refused, then_reads, then_ok}
use Rattle.command_files.specs.Inputs.{Held}
use Rattle.command_files.specs.Gather.{rules_in, anchored_of, governed_of}
use Rattle.command_files.specs.declared.gather.Anchored.{Anchored}
use Rattle.command_files.specs.declared.gather.Governed.{Governed}
use Rattle.command_files.specs.declared.gather.CommandStop.{CommandStop}
use Rattle.sigstore_policy.specs.declared.policy.SigningPolicy.{SigningPolicy}
use Rattle.command_files.proofs.gather.GovernedGather.gather.Goals as goal

abbrev last : List SigningPolicy → Anchored → Held → Result Governed CommandStop
last rules anchored held = Ok (record { rules = rules; anchored = anchored })

abbrev others : List SigningPolicy → Held → Result Governed CommandStop
others rules held = anchored_of held >>= λ anchored. last rules anchored held

pub returns-in-Ok-gather : goal.returns-in-Ok-gather
unfolding governed_of
returns-in-Ok-gather g c =
    then_reads rules_in others _ _ _ c.in-Ok.rules _ c.in-Ok.ensures
    (then_ok anchored_of (last c.in-Ok.rules) _ _ c.in-Ok-gather.anchored _ c.in-Ok-gather.ensures (λ held. refl))

pub returns-in-Err-gather : goal.returns-in-Err-gather
unfolding governed_of
returns-in-Err-gather g c =
    then_reads rules_in others _ _ _ c.in-Ok.rules _ c.in-Ok.ensures
    (first_refused anchored_of (last c.in-Ok.rules) _ _ c.in-Err-gather.e c.in-Err-gather.ensures)

pub returns-in-Err : goal.returns-in-Err
unfolding governed_of
returns-in-Err g c = first_refused rules_in others _ _ c.in-Err.e c.in-Err.ensures
