use Rattle.command_generate.proofs.Adding.{item_more}
use Rattle.command_generate.proofs.rows.add_items.Goals as goal

pub items-preserved : goal.items-preserved
items-preserved c =
    item_more c.args.provider.now.rows c.items.provider.rows c.add_item.new.provider.rows c.args.items.now c.items.drawn-index c.drawn-item.result
    c.items-test.true c.drawn-item.is c.in_ok-add_item.ensures c.items.invariant
