use Rattle.sigstore_certificate.specs.Given.{issuer_in}
use Rattle.sigstore_certificate.proofs.TimesLaw.{turned, kept_right}
use Rattle.sigstore_certificate.proofs.times.issuer_before.Goals as goal

pub times-preserved : goal.times-preserved
times-preserved g c =
    let f = issuer_in g.C.CryptoProvider.accepts c.args.given.now in (
      turned f c.args.earlier.now c.times.time-index c.time-item.result c.args.last c.times-test.true c.time-item.is c.times.invariant.0 c.in_ok-found.ensures.valid,
      c.in_ok-found.ensures.after,
      kept_right f c.times.issuer c.in_ok-found.found c.kept-issuer.result c.time-item.result c.args.last c.kept-issuer.ensures c.times.invariant.2 c.in_ok-found.ensures.key,
    )
