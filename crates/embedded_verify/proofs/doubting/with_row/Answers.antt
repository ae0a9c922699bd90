use Rattle.std.proofs.Common.{◌∙◌, sym}
use Rattle.embedded_verify.proofs.Open.{one_more}
use Rattle.embedded_verify.proofs.doubting.with_row.Goals as goal

pub returns : goal.returns
returns c =
    one_more _ _ c.with_signature.result c.args.noted _ _ _ _ c.requires (sym c.accepts.ensures ∙ c.if-accepts.false) (sym c.accepts-else-accepts.ensures ∙ c.if-accepts-2.false) c.with_signature.ensures
