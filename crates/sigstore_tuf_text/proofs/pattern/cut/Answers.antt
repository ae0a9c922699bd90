use Rattle.std.proofs.Common.{lit<, ◌∙◌}
use Rattle.std.proofs.lemmas.Iterator.Consumers.{map_from_collect}
use Rattle.std.proofs.lemmas.Iterator.Splits.{YieldsList-from_str_split}
use Rattle.sigstore_tuf_text.proofs.Patterns.{split_is_cut}
use Rattle.sigstore_tuf_text.proofs.pattern.cut.Goals as goal

pub returns : goal.returns
returns c =
    let parts = map_from_collect c.collect.result c.collect.ensures.ran (YieldsList-from_str_split {s = c.split.result} 47 c.args.text.now (lit< tt) c.split.ensures.text c.split.ensures.has_more c.split.ensures.pattern) in
    (rw c.in_ok-collect.was at parts) ∙ split_is_cut c.args.text.now
