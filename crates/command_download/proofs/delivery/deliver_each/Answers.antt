use Rattle.std.proofs.Common.{Some, None, string_bytes, sym, ◌∙◌, arith}
use Rattle.std.proofs.lemmas.List.{drop_all}
use Rattle.command_download.specs.Client.{outside_by}
use Rattle.command_download.specs.declared.fault.DownloadFault.TheVariants.{NoMemory}
use Rattle.sigstore_tuf_runs.specs.State.{session_by}
use Rattle.command_download.proofs.Delivering.{line_so, carries_on, done_failed, done_wanting, done_all}
use Rattle.command_download.proofs.delivery.deliver_each.Goals as goal

pub returns-in-Err-pushed : goal.returns-in-Err-pushed
returns-in-Err-pushed g c =
    let w = done_wanting _ _ c.args.downloads.now _ c.downloads.download-index c.download-item.result _ (string_bytes c.downloads.lines) c.downloads-test.true c.download-item.is c.downloads.invariant _ c.in-Ok.chain c.in-Ok.ensures in
    record { chains = w.0; stop = Some NoMemory; delivers = w.1; said = tt }

pub returns-in-Err : goal.returns-in-Err
returns-in-Err g c =
    let w = done_failed _ _ c.args.downloads.now _ c.downloads.download-index c.download-item.result _ (string_bytes c.downloads.lines) c.downloads-test.true c.download-item.is c.downloads.invariant _ c.in-Err.fault c.in-Err.ensures in
    record { chains = w.0; stop = Some c.in-Err.fault; delivers = w.1; said = c.stopped_behind.ensures c.args.downloads.now w.0 w.2 }

pub downloads-preserved : goal.downloads-preserved
downloads-preserved g c =
    carries_on _ _ c.args.downloads.now _ c.downloads.download-index c.download-item.result _ (string_bytes c.downloads.lines) c.downloads-test.true c.download-item.is c.downloads.invariant _ c.in-Ok.chain (string_bytes c.push_target-pushed.new.text) c.in-Ok.ensures
    (line_so (string_bytes c.downloads.lines) (string_bytes c.push_target-pushed.new.text) c.as_str-name.result.now c.as_bytes.result.now c.download-item.result c.in-Ok.chain c.in-Ok-pushed.ensures c.as_str-name.ensures c.as_bytes.ensures)

pub returns : goal.returns
returns g c =
    let none = drop_all c.downloads.download-index c.args.downloads.now (omega (arith, c.downloads-test.false, c.downloads.auto)) in
    let w = done_all (session_by g.C.CryptoProvider g.M.Armor c.args.client.now.session.now) c.args.client.now.documents c.args.downloads.now
    (outside_by (g.R.Repository.seen c.args.repo.now) (g.S.MetadataStore.seen c.args.store.now) (g.F.Shelf.seen c.args.shelf.now)) c.downloads.download-index
    (outside_by (g.R.Repository.seen c.downloads.repo) (g.S.MetadataStore.seen c.downloads.store) (g.F.Shelf.seen c.downloads.shelf)) (string_bytes c.downloads.lines) none c.downloads.invariant in
    record { chains = w.0; stop = None; delivers = w.1; said = c.reported.ensures c.args.downloads.now w.0 (w.2 ∙ sym c.as_str.ensures.value) }
