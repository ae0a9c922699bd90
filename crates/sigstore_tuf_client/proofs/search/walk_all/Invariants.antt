use Rattle.std.proofs.Common.{[], ◌∷◌, Result}
use Rattle.std.specs.Prelude.{reverse}
use Rattle.sigstore_tuf_text.specs.declared.error.Error.{Error}
use Rattle.sigstore_tuf_parts.specs.declared.snapshot.Snapshot.{Snapshot}
use Rattle.sigstore_tuf_runs.specs.State.{State, state_of, session_by}
use Rattle.sigstore_tuf_rules.specs.declared.visit.Walk.{Walk}
use Rattle.sigstore_tuf_rules.specs.Order.{first_visit, first_walk}
use Rattle.sigstore_tuf_runs.specs.Search.{IsSnapshot, Searches}
use Rattle.sigstore_tuf_client.proofs.search.walk_all.Given as goal

-- the snapshot stays, and what the rest of the search does, the whole search does
abbrev pub invariant-loop-walk : goal.invariant-loop-walk
invariant-loop-walk g l =
    (snapshot : Snapshot) → IsSnapshot l.initial.documents snapshot
    → IsSnapshot l.documents snapshot
    × ((new : State) (result : Result Walk Error)
    → Searches (session_by g.C.CryptoProvider g.M.Armor l.session) snapshot l.path (reverse l.pending.items) l.walk (state_of l.documents (g.R.Repository.seen l.repo) (g.S.MetadataStore.seen l.store)) new result
    → Searches (session_by g.C.CryptoProvider g.M.Armor l.session) snapshot l.path (first_visit ∷ []) (first_walk l.session.config.now.max_delegations) (state_of l.initial.documents (g.R.Repository.seen l.initial.repo) (g.S.MetadataStore.seen l.initial.store)) new result)

abbrev pub decreases-loop-walk : goal.decreases-loop-walk
decreases-loop-walk g l = l.walk.left
