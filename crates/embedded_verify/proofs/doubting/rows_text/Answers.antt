use Rattle.embedded_verify.proofs.Open.{none}
use Rattle.embedded_verify.proofs.doubting.rows_text.Goals as goal

pub loop-row-init : goal.loop-row-init
loop-row-init c = none _ _ _ c.new-noted.ensures.text
