use Rattle.std.proofs.Common.{◌≡◌}
use Rattle.der_grammar.specs.Sets.{values}
use Rattle.der_grammar.proofs.keyed.members_of.Given as goal

abbrev pub invariant-keys : goal.invariant-keys
invariant-keys g l = l.members.items ≡ values l.yielded
