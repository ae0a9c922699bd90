use Rattle.std.proofs.Common.{sym, ◌∙◌}
use Rattle.embedded_verify.proofs.Open.{no_wanted, one_wanted}
use Rattle.embedded_verify.proofs.doubting.file_text.Goals as goal

pub returns-in_default : goal.returns-in_default
returns-in_default c = no_wanted _ _ c.new-text.ensures.bytes

pub returns-then-request : goal.returns-then-request
returns-then-request c = no_wanted _ _ c.new-text.ensures.bytes

pub returns : goal.returns
returns c =
    one_wanted _ _ _ _ _ c.find.result c.new-text.ensures.bytes c.in_ok-push_file_line.ensures c.find.ensures (sym c.is_some.ensures ∙ c.if-is_some.false) (sym c.is_among.ensures ∙ c.if-is_among.false) c.if-request.false
