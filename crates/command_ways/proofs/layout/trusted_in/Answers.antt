use Rattle.command_ways.specs.Layout.{trusted_in}
use Rattle.command_ways.proofs.layout.trusted_in.Goals as goal

pub returns : goal.returns
unfolding trusted_in
returns c = rw (c.trusted_by.ensures, c.has.ensures, c.has-2.ensures, c.has-3.ensures, c.has-4.ensures, c.has-5.ensures)
