use Rattle.std.proofs.Common.{List, ℕ, Result, Ok, refl, ap, sym}
use Rattle.foundation.specs.Steps.{◌>>=◌}
use Rattle.command_files.proofs.Readings.{first_refused, then_reads, then_ok}
use Rattle.command_files.specs.Inputs.{Held}
use Rattle.command_files.specs.Gather.{input_of, governed_of, with_bundle, gathered_of}
use Rattle.command_files.specs.declared.inputs.InputFile.TheVariants.{Bundle}
use Rattle.command_files.specs.declared.gather.Gathered.{Gathered}
use Rattle.command_files.specs.declared.gather.Governed.{Governed}
use Rattle.command_files.specs.declared.gather.CommandStop.{CommandStop}
use Rattle.command_files.proofs.gather.GatheredGather.gather.Goals as goal

abbrev last : Governed → List ℕ → Held → Result Gathered CommandStop
last governed bundle held = Ok (with_bundle governed bundle)

abbrev others : Governed → Held → Result Gathered CommandStop
others governed held = input_of Bundle held >>= λ bundle. last governed bundle held

pub returns-in-Ok-take_input : goal.returns-in-Ok-take_input
unfolding gathered_of
returns-in-Ok-take_input g c =
    then_reads governed_of others _ _ _ c.in-Ok.governed _ c.in-Ok.ensures
    (then_ok (input_of Bundle) (last c.in-Ok.governed) _ _ c.in-Ok-take_input.bundle c.with_bundle.result c.in-Ok-take_input.ensures
    (λ held. ap (λ (x : Gathered). Ok x) (sym c.with_bundle.ensures)))

pub returns-in-Err-take_input : goal.returns-in-Err-take_input
unfolding gathered_of
returns-in-Err-take_input g c =
    then_reads governed_of others _ _ _ c.in-Ok.governed _ c.in-Ok.ensures
    (first_refused (input_of Bundle) (last c.in-Ok.governed) _ _ c.in-Err-take_input.e c.in-Err-take_input.ensures)

pub returns-in-Err : goal.returns-in-Err
unfolding gathered_of
returns-in-Err g c = first_refused governed_of others _ _ c.in-Err.e c.in-Err.ensures
