use Rattle.std.proofs.Common.{◌≡◌, [], Some, IfOk, sym, subst}
use Rattle.command_download.specs.Run.{stop_answer, unrefreshed, told}
use Rattle.command_download.proofs.program.downloaded.Goals as goal

pub returns-in-Ok : goal.returns-in-Ok
returns-in-Ok g c = told _ c.in-Ok.documents (c.in-Ok.ensures _) c.deliver_each-said.ensures

pub returns-in-Err : goal.returns-in-Err
returns-in-Err g c =
    let downloads = c.args.asked.now.downloads.now in
    unrefreshed c.in-Err.e (c.in-Err.ensures _)
    (subst (λ fault. IfOk c.stopped_behind.result (λ said. stop_answer downloads [] fault ≡ Some said)) c.fault_of.ensures (c.stopped_behind.ensures downloads [] (sym c.new.ensures.bytes)))
