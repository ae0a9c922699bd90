use Rattle.std.proofs.Common.{◌≡◌, take}
use Rattle.der_grammar.proofs.set.copies.Given as goal

abbrev pub invariant-members : goal.invariant-members
invariant-members g l = l.out.items ≡ take l.member-index l.members
