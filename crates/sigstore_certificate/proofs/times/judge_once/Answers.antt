use Rattle.std.proofs.Common.{sym, ◌∙◌}
use Rattle.sigstore_certificate.specs.Given.{issuer_in}
use Rattle.sigstore_certificate.proofs.TimesLaw.{found}
use Rattle.sigstore_certificate.proofs.times.judge_once.Goals as goal

pub returns-then-contains-clause-valid : goal.returns-then-contains-clause-valid
returns-then-contains-clause-valid g c =
    found (issuer_in g.C.CryptoProvider.accepts c.args.given.now) c.args.time c.args.judged.now.keys c.requires.before (sym c.contains.ensures ∙ c.if-contains.true)
