use Rattle.command_download.proofs.Delivered.{unfound_so, unplaced_so, delivered_so}
use Rattle.command_download.proofs.delivery.deliver.Goals as goal

pub returns-in-Ok-place : goal.returns-in-Ok-place
returns-in-Ok-place g c =
    delivered_so _ _ _ _ _ _ _ _ c.in-Ok.documents _ _ c.in-Ok.ensures c.as_str.ensures c.in-Ok-found.chain _ _ _ c.in-Ok-found.ensures c.as_str-in-Ok-found.ensures c.as_bytes.ensures c.in-Ok-place.ensures

pub returns-in-Err-place : goal.returns-in-Err-place
returns-in-Err-place g c =
    unplaced_so _ _ _ _ _ _ _ _ c.in-Ok.documents _ _ c.in-Ok.ensures c.as_str.ensures c.in-Ok-found.chain _ _ _ c.in-Ok-found.ensures c.as_str-in-Ok-found.ensures c.as_bytes.ensures c.in-Err-place.fault _ c.in-Err-place.ensures
    c.fault_of_shelf.ensures

pub returns-in-Err : goal.returns-in-Err
returns-in-Err g c = unfound_so _ _ _ _ _ _ _ _ c.in-Ok.documents _ _ c.in-Ok.ensures c.as_str.ensures c.in-Err.e _ c.in-Err.ensures c.fault_of.ensures
