use Rattle.embedded_verify.specs.Unread.{no_moment}
use Rattle.embedded_verify.proofs.asking.ask.Goals as goal

pub returns-in_default : goal.returns-in_default
returns-in_default c = no_moment (c.moment.ensures.none c.in_default.is) c.in_ok-pair.ensures
