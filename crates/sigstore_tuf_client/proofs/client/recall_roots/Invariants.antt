use Rattle.std.proofs.Common.{◌-◌, ◌^◌, Result}
use Rattle.std.specs.Prelude.{⊤}
use Rattle.foundation.specs.Watched.{Watched}
use Rattle.sigstore_keys.specs.Crypto.{crypto_with}
use Rattle.sigstore_tuf_text.specs.declared.error.Error.{Error}
use Rattle.sigstore_tuf_outside.specs.Repository.{Folders}
use Rattle.sigstore_tuf_runs.specs.State.{State, state_of}
use Rattle.sigstore_tuf_rules.specs.Serving.{version_in}
use Rattle.sigstore_tuf_runs.specs.Run.{RecallsRoots, roots_left}
use Rattle.sigstore_tuf_client.proofs.client.recall_roots.Given as goal

-- what the rest of the walk does, the whole walk does
abbrev pub invariant-loop-number : goal.invariant-loop-number
invariant-loop-number g l =
    (repo : Watched Folders) (new : State) (result : Result ⊤ Error)
    → RecallsRoots (crypto_with g.C.CryptoProvider g.M.Armor l.providers) (roots_left l.documents) (state_of l.documents repo (g.S.MetadataStore.seen l.store)) new result
    → RecallsRoots (crypto_with g.C.CryptoProvider g.M.Armor l.providers) (roots_left l.initial.documents) (state_of l.initial.documents repo (g.S.MetadataStore.seen l.initial.store)) new result

-- each root that is adopted leaves one less
abbrev pub decreases-loop-number : goal.decreases-loop-number
decreases-loop-number g l = 2 ^ 64 - 1 - version_in l.documents
