use Rattle.std.proofs.Common.{List, ℕ, Result, Ok, refl}
use Rattle.foundation.specs.Steps.{◌>>=◌}
use Rattle.command_files.proofs.Readings.{first_refused, then_reads, then_ok}
use Rattle.command_files.specs.Inputs.{Held}
use Rattle.command_files.specs.Gather.{input_of, tables_in, anchored_of}
use Rattle.command_files.specs.declared.inputs.InputFile.TheVariants.{Root}
use Rattle.command_files.specs.declared.gather.Anchored.{Anchored}
use Rattle.command_files.specs.declared.gather.CommandStop.{CommandStop}
use Rattle.command_files.specs.declared.tables.Tables.{Tables}
use Rattle.command_files.proofs.gather.AnchoredGather.gather.Goals as goal

abbrev last : Tables → List ℕ → Held → Result Anchored CommandStop
last tables root held = Ok (record { tables = tables; root = root })

abbrev others : Tables → Held → Result Anchored CommandStop
others tables held = input_of Root held >>= λ root. last tables root held

pub returns-in-Ok-take_input : goal.returns-in-Ok-take_input
unfolding anchored_of
returns-in-Ok-take_input g c =
    then_reads tables_in others _ _ _ c.in-Ok.tables _ c.in-Ok.ensures
    (then_ok (input_of Root) (last c.in-Ok.tables) _ _ c.in-Ok-take_input.root _ c.in-Ok-take_input.ensures (λ held. refl))

pub returns-in-Err-take_input : goal.returns-in-Err-take_input
unfolding anchored_of
returns-in-Err-take_input g c =
    then_reads tables_in others _ _ _ c.in-Ok.tables _ c.in-Ok.ensures
    (first_refused (input_of Root) (last c.in-Ok.tables) _ _ c.in-Err-take_input.e c.in-Err-take_input.ensures)

pub returns-in-Err : goal.returns-in-Err
unfolding anchored_of
returns-in-Err g c = first_refused tables_in others _ _ c.in-Err.e c.in-Err.ensures
