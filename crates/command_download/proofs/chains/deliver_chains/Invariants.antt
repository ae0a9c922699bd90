use Rattle.sigstore_tuf_runs.specs.State.{session_by}
use Rattle.command_download.specs.Client.{outside_by}
use Rattle.command_download.proofs.Chaining.{Carries}
use Rattle.command_download.proofs.chains.deliver_chains.Given as goal

abbrev pub invariant-downloads : goal.invariant-downloads
invariant-downloads g l =
    Carries (session_by g.C.CryptoProvider g.M.Armor l.client.session.now) l.client.documents l.downloads
    (outside_by (g.R.Repository.seen l.initial.repo) (g.S.MetadataStore.seen l.initial.store) (g.F.Shelf.seen l.initial.shelf))
    l.download-index (outside_by (g.R.Repository.seen l.repo) (g.S.MetadataStore.seen l.store) (g.F.Shelf.seen l.shelf)) l.chains
