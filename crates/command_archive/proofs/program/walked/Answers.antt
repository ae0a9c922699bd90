use Rattle.std.proofs.Common.{ap, rules}
use Rattle.sigstore_verify.specs.Inputs.{anchor_with}
use Rattle.command_archive.specs.declared.output.Output.TheVariants.{Lines}
use Rattle.command_archive.specs.Run.{walk_refused}
use Rattle.command_archive.proofs.Saying.{walked_said}
use Rattle.command_archive.proofs.program.walked.Goals as goal

pub returns-in-Ok : goal.returns-in-Ok
returns-in-Ok g c =
    walked_said (anchor_with g.C.CryptoProvider g.M.Armor c.args.anchor.now) _ _ c.in-Ok.chain c.spelled-said.result c.in-Ok.ensures c.spelled-said.ensures

pub returns-in-Ok-said : goal.returns-in-Ok-said
returns-in-Ok-said g c = walk_refused c.in-Err.e (search rules) c.in-Err.ensures (ap Lines c.in-Ok-said.ensures)
