use Rattle.sigstore_tuf_text.proofs.Classes.{range_member, lone_member}
use Rattle.sigstore_tuf_text.proofs.class.range_from.Goals as goal

pub returns-then-dash-eq45-clause-exact : goal.returns-then-dash-eq45-clause-exact
returns-then-dash-eq45-clause-exact c =
    λ x. range_member c.args.first x c.dash-item.result c.last-item.result c.args.later.now c.in-len2-up.len_at_least c.dash-item.is c.last-item.is c.if-dash-eq45.true

pub returns-else-dash-eq45-clause-exact : goal.returns-else-dash-eq45-clause-exact
returns-else-dash-eq45-clause-exact c =
    λ x. lone_member c.args.first x c.dash-item.result c.args.later.now c.in-len2-up.len_at_least c.dash-item.is c.if-dash-eq45.false
