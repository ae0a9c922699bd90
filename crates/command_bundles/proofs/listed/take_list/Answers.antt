use Rattle.command_bundles.proofs.Readings.{list_given, list_refused}
use Rattle.command_bundles.proofs.listed.take_list.Goals as goal

pub returns-in-Ok : goal.returns-in-Ok
returns-in-Ok g c = list_given _ _ c.in-Ok.list c.in-Ok.ensures

pub returns-in-Err : goal.returns-in-Err
returns-in-Err g c = list_refused _ _ c.in-Err.fault c.stop_of.result c.stop_of.ensures c.in-Err.ensures
