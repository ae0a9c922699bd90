use Rattle.std.proofs.Common.{◌∙◌}
use Rattle.sigstore_entries.proofs.NumberFacts.{unsigned_read}
use Rattle.sigstore_entries.proofs.number.unsigned_text.Goals as goal

pub returns : goal.returns
returns c = c.ok.ensures.value ∙ unsigned_read c.args.text.now c.parse.result c.parse.ensures.value.0
