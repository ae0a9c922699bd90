use Rattle.command_files.proofs.Readings.{input_given, input_refused}
use Rattle.command_files.proofs.gather.take_input.Goals as goal

pub returns-in-Ok : goal.returns-in-Ok
returns-in-Ok g c = input_given _ _ _ _ _ c.limit.ensures c.in-Ok.ensures

pub returns-in-Err : goal.returns-in-Err
returns-in-Err g c = input_refused _ _ _ _ _ _ c.limit.ensures c.stop_of.ensures c.in-Err.ensures
