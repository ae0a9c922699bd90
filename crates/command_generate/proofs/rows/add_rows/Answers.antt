use Rattle.command_generate.proofs.Adding.{row_more}
use Rattle.command_generate.proofs.rows.add_rows.Goals as goal

pub rows-preserved : goal.rows-preserved
rows-preserved c = row_more c.args.provider.now.rows c.rows.provider.rows c.add.new.self.rows c.rows.yielded c.in-Some.row c.in_ok-add.ensures c.rows.invariant
