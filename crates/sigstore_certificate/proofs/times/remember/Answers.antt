use Rattle.std.proofs.Common.{subst, sym}
use Rattle.sigstore_certificate.specs.Given.{issuer_in}
use Rattle.sigstore_certificate.specs.Times.{AreIssued}
use Rattle.sigstore_certificate.proofs.TimesLaw.{put}
use Rattle.sigstore_certificate.proofs.times.remember.Goals as goal

pub returns : goal.returns
returns g c =
    let f = issuer_in g.C.CryptoProvider.accepts c.args.given.now in
    subst (AreIssued f) (sym c.in_ok-insert.ensures.keys) (put f _ c.args.judged.now.keys c.args.time c.requires.valid c.requires.before)
