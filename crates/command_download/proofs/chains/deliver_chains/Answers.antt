use Rattle.std.proofs.Common.{arith}
use Rattle.std.proofs.lemmas.List.{drop_all}
use Rattle.sigstore_tuf_runs.specs.State.{session_by}
use Rattle.command_download.specs.Client.{outside_by}
use Rattle.command_download.proofs.Chaining.{carries_on, stopped_so, done_so}
use Rattle.command_download.proofs.chains.deliver_chains.Goals as goal

pub returns-in-Err : goal.returns-in-Err
returns-in-Err g c =
    stopped_so _ _ c.args.downloads.now _ c.downloads.download-index c.download-item.result _ c.downloads.chains c.downloads-test.true c.download-item.is c.downloads.invariant _ c.in-Err.fault c.in-Err.ensures

pub downloads-preserved : goal.downloads-preserved
downloads-preserved g c =
    carries_on _ _ c.args.downloads.now _ c.downloads.download-index c.download-item.result _ c.downloads.chains c.downloads-test.true c.download-item.is c.downloads.invariant _ c.in-Ok.chain c.push.new.self
    c.in-Ok.ensures c.in-Ok-push.ensures.ok

pub returns : goal.returns
returns g c =
    let none = drop_all c.downloads.download-index c.args.downloads.now (omega (arith, c.downloads-test.false, c.downloads.auto)) in
    done_so (session_by g.C.CryptoProvider g.M.Armor c.args.client.now.session.now) c.args.client.now.documents c.args.downloads.now
    (outside_by (g.R.Repository.seen c.args.repo.now) (g.S.MetadataStore.seen c.args.store.now) (g.F.Shelf.seen c.args.shelf.now)) c.downloads.download-index
    (outside_by (g.R.Repository.seen c.downloads.repo) (g.S.MetadataStore.seen c.downloads.store) (g.F.Shelf.seen c.downloads.shelf)) c.downloads.chains none c.downloads.invariant
