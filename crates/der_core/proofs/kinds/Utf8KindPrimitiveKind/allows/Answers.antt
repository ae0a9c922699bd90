use Rattle.std.proofs.Common.{◌∙◌}
use Rattle.der_core.proofs.Texts.{utf8_answer}
use Rattle.der_core.proofs.kinds.Utf8KindPrimitiveKind.allows.Goals as goal

pub returns : goal.returns
returns c = c.is_ok.ensures.value ∙ utf8_answer c.args.contents.now c.from_utf8.result _ _ c.from_utf8.ensures.cases
