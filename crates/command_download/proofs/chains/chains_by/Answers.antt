use Rattle.std.proofs.Common.{Some, ap}
use Rattle.sigstore_tuf_runs.specs.State.{session_by}
use Rattle.command_download.specs.Chains.{unrefreshed}
use Rattle.command_download.specs.Client.{anchor_by}
use Rattle.command_download.proofs.Chaining.{came_so}
use Rattle.command_download.proofs.chains.chains_by.Goals as goal

pub returns-in-Ok : goal.returns-in-Ok
returns-in-Ok g c =
    came_so (anchor_by (session_by g.C.CryptoProvider g.M.Armor c.args.session.now) c.args.request.now.root.now) c.args.request.now.downloads.now _ _ _ c.in-Ok.documents c.deliver_chains-had.result
    (c.in-Ok.ensures _) c.deliver_chains-had.ensures

pub returns-in-Err : goal.returns-in-Err
returns-in-Err g c = unrefreshed c.in-Err.e (c.in-Err.ensures _) c.new.ensures (ap Some c.fault_of.ensures)
