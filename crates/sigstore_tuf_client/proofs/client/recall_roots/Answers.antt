use Rattle.std.proofs.Common.{Ok, None, ap, sym, arith}
use Rattle.foundation.specs.Watched.{untold}
use Rattle.sigstore_keys.specs.Crypto.{crypto_with}
use Rattle.sigstore_tuf_runs.specs.Adopt.{Seeds}
use Rattle.sigstore_tuf_runs.specs.Run.{alone, root_loop}
use Rattle.sigstore_tuf_runs.proofs.Steps.{seed_rises, one_less, some_left, turned, stopped}
use Rattle.sigstore_tuf_client.proofs.client.recall_roots.Goals as goal

pub loop-number-smaller : goal.loop-number-smaller
loop-number-smaller g c =
    let crypto = crypto_with g.C.CryptoProvider g.M.Armor c.args.providers.now in
    let seeds = rw c.in-Ok-true.field-0-test at c.in-Ok-true.ensures (untold 0) in
    let one = one_less c.loop-number.documents c.seed.new.documents c.in-Some.number c.in-Some.ensures.next c.in-Some.ensures.within (seed_rises crypto _ None _ _ seeds) in
    omega (arith, one)

pub loop-number-preserved : goal.loop-number-preserved
loop-number-preserved g c = λ repo new result w.
    let crypto = crypto_with g.C.CryptoProvider g.M.Armor c.args.providers.now in
    let seeds = rw c.in-Ok-true.field-0-test at c.in-Ok-true.ensures repo in
    c.loop-number.invariant repo new result (turned (λ k. Seeds crypto k None) (root_loop (Ok tt)) tt _ new result _ _ _ tt _
    (one_less c.loop-number.documents c.seed.new.documents c.in-Some.number c.in-Some.ensures.next c.in-Some.ensures.within (seed_rises crypto _ None _ _ seeds)) (ap alone (sym c.in-Some.ensures.next)) seeds w)

pub returns-in-Ok-false : goal.returns-in-Ok-false
returns-in-Ok-false g c = λ repo.
    c.loop-number.invariant repo _ _ (stopped (λ k. Seeds (crypto_with g.C.CryptoProvider g.M.Armor c.args.providers.now) k None) (root_loop (Ok tt)) tt _ _ _ _ _ tt
    (some_left c.loop-number.documents c.in-Some.number c.in-Some.ensures.next c.in-Some.ensures.within) (ap alone (sym c.in-Some.ensures.next)) (rw c.in-Ok-false.field-0-test at c.in-Ok-false.ensures repo))

pub returns-in-Err : goal.returns-in-Err
returns-in-Err g c = λ repo.
    c.loop-number.invariant repo _ _ (stopped (λ k. Seeds (crypto_with g.C.CryptoProvider g.M.Armor c.args.providers.now) k None) (root_loop (Ok tt)) tt _ _ _ _ _ tt
    (some_left c.loop-number.documents c.in-Some.number c.in-Some.ensures.next c.in-Some.ensures.within) (ap alone (sym c.in-Some.ensures.next)) (c.in-Err.ensures repo))
