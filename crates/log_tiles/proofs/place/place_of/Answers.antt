use Rattle.std.proofs.Common.{arith, sym, ◌∙◌}
use Rattle.std.proofs.lemmas.Bool.{false≢true}
use Rattle.log_tiles.proofs.Places.{climbed_start, climbed_more, place_is}
use Rattle.log_tiles.proofs.place.place_of.Goals as goal

pub levels-init : goal.levels-init
levels-init c = climbed_start c.args.start c.args.count c.requires

pub levels-preserved : goal.levels-preserved
levels-preserved c =
    climbed_more c.args.start c.args.count c.levels.level c.levels.run c.levels.invariant (c.stands_higher.ensures.0 c.levels-test.true)

pub returns : goal.returns
returns c =
    place_is c.args.start c.args.count c.levels.level c.levels.run c.levels.invariant c.requires (omega arith)
    (λ higher. absurd (false≢true (sym c.levels-test.false ∙ c.stands_higher.ensures.1 higher)))
