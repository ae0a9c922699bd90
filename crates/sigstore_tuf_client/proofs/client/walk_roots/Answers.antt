use Rattle.std.proofs.Common.{Err, refl, ap, sym, arith}
use Rattle.std.specs.Prelude.{⊤, Result}
use Rattle.sigstore_tuf_text.specs.declared.error.Error.{Error}
use Rattle.sigstore_tuf_text.specs.declared.error.Error.TheVariants.{Transport}
use Rattle.sigstore_tuf_text.specs.declared.error.TransportFault.TheVariants.{Rotations}
use Rattle.sigstore_tuf_runs.specs.State.{Session, session_by}
use Rattle.sigstore_tuf_runs.specs.Adopt.{Adopts}
use Rattle.sigstore_tuf_runs.specs.Run.{alone, root_loop}
use Rattle.sigstore_tuf_runs.proofs.Steps.{idles, stopped, turned, met}
use Rattle.sigstore_tuf_client.proofs.client.walk_roots.Goals as goal

abbrev limit : Session → Result ⊤ Error
limit session = Err (Transport (Rotations session.config.max_root_rotations))

pub returns-in_default : goal.returns-in_default
returns-in_default g c =
    let session = session_by g.C.CryptoProvider g.M.Armor c.args.session.now in
    c.loop.invariant _ _ (idles (Adopts session) (root_loop (limit session)) tt _ _ _ _ (ap alone (sym c.in_default.ensures.next), refl, refl))

pub returns-in-Ok-false : goal.returns-in-Ok-false
returns-in-Ok-false g c =
    let session = session_by g.C.CryptoProvider g.M.Armor c.args.session.now in
    c.loop.invariant _ _ (stopped (Adopts session) (root_loop (limit session)) tt _ _ _ _ _ tt (omega arith) (ap alone (sym c.in-Some.ensures.next)) (rw c.in-Ok-false.field-0-test at c.in-Ok-false.ensures))

pub returns-in-Err : goal.returns-in-Err
returns-in-Err g c =
    let session = session_by g.C.CryptoProvider g.M.Armor c.args.session.now in
    c.loop.invariant _ _ (stopped (Adopts session) (root_loop (limit session)) tt _ _ _ _ _ tt (omega arith) (ap alone (sym c.in-Some.ensures.next)) c.in-Err.ensures)

pub loop-preserved : goal.loop-preserved
loop-preserved g c = λ new result w.
    let session = session_by g.C.CryptoProvider g.M.Armor c.args.session.now in
    c.loop.invariant new result
    (turned (Adopts session) (root_loop (limit session)) tt _ new result _ _ _ tt _ (omega arith) (ap alone (sym c.in-Some.ensures.next)) (rw c.in-Ok-true.field-0-test at c.in-Ok-true.ensures) w)

pub returns-in-None : goal.returns-in-None
returns-in-None g c =
    let session = session_by g.C.CryptoProvider g.M.Armor c.args.session.now in
    c.loop.invariant _ _ (idles (Adopts session) (root_loop (limit session)) tt _ _ _ _ (ap alone (sym c.in-None.ensures.next), refl, refl))

pub returns-in-Some-next_number : goal.returns-in-Some-next_number
returns-in-Some-next_number g c =
    let session = session_by g.C.CryptoProvider g.M.Armor c.args.session.now in
    c.loop.invariant _ _ (met (Adopts session) (root_loop (limit session)) tt _ _ _ _ _ tt (omega arith) (ap alone (sym c.in-Some-next_number.ensures.next)) refl refl)
