use Rattle.std.proofs.Common.{inr, refl, sym, ◌∙◌}
use Rattle.std.specs.Cmp.{signed_Decides}
use Rattle.sigstore_certificate.proofs.TimesLaw.{same_instant}
use Rattle.sigstore_certificate.proofs.times.kept.Goals as goal

pub returns-then-is_some : goal.returns-then-is_some
returns-then-is_some c =
    inr (refl, same_instant c.args.time c.args.last ((signed_Decides c.args.time.nanosecond c.args.last.nanosecond).0 (sym c.eq.ensures ∙ c.if-eq.true)))
