use Rattle.std.proofs.Common.{◌∙◌}
use Rattle.sigstore_tuf_parts.proofs.TextSets.{found-among}
use Rattle.sigstore_tuf_parts.proofs.text_set.TextSet.contains.Goals as goal

pub returns : goal.returns
returns c = rw (← c.self.view_is) (c.contains.ensures ∙ found-among c.args.text.now c.self.inside.inner.keys)
