use Rattle.cms.proofs.Read.{built_read}
use Rattle.cms.proofs.laws.built_is_read.Goals as goal

pub returns : goal.returns
returns c = built_read
