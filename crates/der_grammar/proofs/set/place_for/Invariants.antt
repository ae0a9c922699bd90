use Rattle.std.proofs.Common.{◌≡◌}
use Rattle.der_grammar.proofs.Placing.{PlacesOn}
use Rattle.der_grammar.proofs.set.place_for.Given as goal

abbrev pub invariant-members : goal.invariant-members
invariant-members g l = PlacesOn g.T.Der.grammar l.key l.members l.member-index × (l.place ≡ l.member-index)
