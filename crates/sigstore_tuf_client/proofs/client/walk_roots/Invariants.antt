use Rattle.std.proofs.Common.{◌-◌, Result}
use Rattle.std.specs.Prelude.{⊤}
use Rattle.sigstore_tuf_text.specs.declared.error.Error.{Error}
use Rattle.sigstore_tuf_runs.specs.State.{State, state_of, session_by}
use Rattle.sigstore_tuf_runs.specs.Run.{WalksRoots}
use Rattle.sigstore_tuf_client.proofs.client.walk_roots.Given as goal

-- what the rest of the walk does, the whole walk does
abbrev pub invariant-loop : goal.invariant-loop
invariant-loop g l =
    (new : State) (result : Result ⊤ Error)
    → WalksRoots (session_by g.C.CryptoProvider g.M.Armor l.session) (l.session.config.now.max_root_rotations - l.counter) (state_of l.documents (g.R.Repository.seen l.repo) (g.S.MetadataStore.seen l.store)) new result
    → WalksRoots (session_by g.C.CryptoProvider g.M.Armor l.session) l.session.config.now.max_root_rotations (state_of l.initial.documents (g.R.Repository.seen l.initial.repo) (g.S.MetadataStore.seen l.initial.store)) new result
