use Rattle.std.proofs.Common.{◌∙◌, ap}
use Rattle.std.specs.Prelude.{not}
use Rattle.sigstore_tuf_parts.proofs.TextSets.{found-among, inserted}
use Rattle.sigstore_tuf_parts.proofs.text_set.TextSet.insert.Goals as goal

pub returns-clause-fresh : goal.returns-clause-fresh
returns-clause-fresh c = rw (← c.self.view_is) (c.in_ok-insert.ensures.added ∙ ap not (found-among c.args.text.now c.self.inside.inner.keys))

pub returns-clause-all : goal.returns-clause-all
returns-clause-all c other = rw (← c.self.view_is) (inserted c.args.text.now other c.self.inside.inner.keys c.insert.new.self.keys (c.in_ok-insert.ensures.updates.0 (record { ref_ptr = (0, 0); now = other })))
