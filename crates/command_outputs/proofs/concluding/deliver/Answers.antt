use Rattle.std.proofs.Common.{refl}
use Rattle.command_outputs.specs.Concluding.{want_payload}
use Rattle.command_outputs.proofs.Saying.{no_envelope_so, delivered_so}
use Rattle.command_outputs.proofs.concluding.deliver.Goals as goal

pub returns-in-Ok-Some : goal.returns-in-Ok-Some
returns-in-Ok-Some g c =
    delivered_so c.args.bundle.now c.args.path.now c.args.report _ _ c.in-Ok-Some.field-0 c.in-Ok-Some.ensures.ok c.put-said.result c.in-Ok-Some.payload c.as_bytes.result.now c.in-Ok-Some.field-0-is c.as_bytes.ensures c.put-said.ensures

pub returns-in-Ok-None : goal.returns-in-Ok-None
returns-in-Ok-None g c =
    no_envelope_so c.args.bundle.now c.args.path.now c.args.report _ _ c.in-Ok-None.field-0 c.in-Ok-None.ensures.ok c.no_envelope.result c.in-Ok-None.field-0-is refl c.no_envelope.ensures

pub returns-in-Err : goal.returns-in-Err
returns-in-Err g c = want_payload _ refl refl
