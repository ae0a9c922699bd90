use Rattle.std.proofs.Common.{Result, drop}
use Rattle.std.specs.Prelude.{⊤}
use Rattle.sigstore_tuf_text.specs.declared.error.Error.{Error}
use Rattle.sigstore_tuf_runs.specs.State.{State, state_of, session_by}
use Rattle.sigstore_tuf_runs.specs.Run.{Runs}
use Rattle.sigstore_tuf_client.proofs.client.run_steps.Given as goal

-- what the steps that are left do, all of them do
abbrev pub invariant-loop-step : goal.invariant-loop-step
invariant-loop-step g l =
    (new : State) (result : Result ⊤ Error)
    → Runs (session_by g.C.CryptoProvider g.M.Armor l.session) (drop l.step-index l.steps) (state_of l.documents (g.R.Repository.seen l.repo) (g.S.MetadataStore.seen l.store)) new result
    → Runs (session_by g.C.CryptoProvider g.M.Armor l.session) l.steps (state_of l.initial.documents (g.R.Repository.seen l.initial.repo) (g.S.MetadataStore.seen l.initial.store)) new result
