use Rattle.sigstore_tuf_runs.specs.State.{session_by}
use Rattle.sigstore_tuf_runs.proofs.Steps.{ran, ran_into}
use Rattle.sigstore_tuf_client.proofs.client.run_steps.Goals as goal

pub loop-step-preserved : goal.loop-step-preserved
loop-step-preserved g c = λ new result w.
    c.loop-step.invariant new result (ran (session_by g.C.CryptoProvider g.M.Armor c.args.session.now) c.args.steps.now c.loop-step.step-index _ _ _ new result c.loop-step-test.true c.in-Ok.ensures w)

pub returns-in-Err : goal.returns-in-Err
returns-in-Err g c =
    record { runs = c.loop-step.invariant _ _ (ran_into (session_by g.C.CryptoProvider g.M.Armor c.args.session.now) c.args.steps.now c.loop-step.step-index _ _ _ _ c.loop-step-test.true c.in-Err.ensures) }
