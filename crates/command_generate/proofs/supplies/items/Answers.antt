use Rattle.std.proofs.Common.{arith}
use Rattle.command_generate.proofs.Placing.{item_more}
use Rattle.command_generate.proofs.supplies.items.Goals as goal

pub items-preserved : goal.items-preserved
items-preserved c =
    item_more c.args.log.now _ c.items.items c.push.new.self c.in_ok-make_item.field-0 c.items.index c.args.drawn.now c.args.paths.now
    c.index-drawn-index.result c.index-paths-index.result c.items-test.true (omega (arith, c.items-test.true, c.requires.each))
    c.index-drawn-index.is c.index-paths-index.is c.in_ok-make_item.ensures c.in_ok-push.ensures.ok c.items.invariant
