use Rattle.std.proofs.Common.{arith, ◌∙◌}
use Rattle.log_tiles.proofs.Cuts.{cut_more, cut_end}
use Rattle.log_tiles.proofs.reading.hashes_in.Goals as goal

pub hashes-preserved : goal.hashes-preserved
hashes-preserved c =
    cut_more c.args.octets.now c.hashes.rest.now c.in-Some.behind.now _ c.hashes.hashes _ (omega (arith, c.in-Some.ensures.cases.2))
    (c.new.ensures ∙ c.in-Some.ensures.cases.0) c.in-Some.ensures.cases.1 c.in_ok-push.ensures.ok c.hashes.invariant

pub returns : goal.returns
returns c = cut_end c.args.octets.now c.hashes.rest.now c.hashes.hashes c.in_default.ensures.cases c.hashes.invariant
