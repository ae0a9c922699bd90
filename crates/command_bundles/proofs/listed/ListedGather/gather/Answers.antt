use Rattle.std.proofs.Common.{List, ℕ, Result, Ok, refl}
use Rattle.foundation.specs.Steps.{◌>>=◌}
use Rattle.command_files.specs.Inputs.{Held}
use Rattle.command_files.specs.Gather.{governed_of}
use Rattle.command_files.specs.declared.gather.CommandStop.{CommandStop}
use Rattle.command_files.specs.declared.gather.Governed.{Governed}
use Rattle.command_bundles.specs.declared.listed.Listed.{Listed}
use Rattle.command_bundles.specs.Listed.{list_in, listed_in}
use Rattle.command_bundles.proofs.Readings.{first_refused, then_reads, then_ok}
use Rattle.command_bundles.proofs.listed.ListedGather.gather.Goals as goal

abbrev last : Governed → List ℕ → Held → Result Listed CommandStop
last governed list held = Ok (record { governed = governed; list = list })

abbrev others : Governed → Held → Result Listed CommandStop
others governed held = list_in held >>= λ list. last governed list held

pub returns-in-Ok-take_list : goal.returns-in-Ok-take_list
unfolding listed_in
returns-in-Ok-take_list g c =
    then_reads governed_of others _ _ _ c.in-Ok.governed _ c.in-Ok.ensures
    (then_ok list_in (last c.in-Ok.governed) _ _ c.in-Ok-take_list.list _ c.in-Ok-take_list.ensures (λ held. refl))

pub returns-in-Err-take_list : goal.returns-in-Err-take_list
unfolding listed_in
returns-in-Err-take_list g c =
    then_reads governed_of others _ _ _ c.in-Ok.governed _ c.in-Ok.ensures
    (first_refused list_in (last c.in-Ok.governed) _ _ c.in-Err-take_list.e c.in-Err-take_list.ensures)

pub returns-in-Err : goal.returns-in-Err
unfolding listed_in
returns-in-Err g c = first_refused governed_of others _ _ c.in-Err.e c.in-Err.ensures
