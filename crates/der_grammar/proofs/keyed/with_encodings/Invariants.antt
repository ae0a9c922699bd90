use Rattle.std.proofs.Common.{length}
use Rattle.der_grammar.proofs.Members.{KeyedOn}
use Rattle.der_grammar.proofs.keyed.with_encodings.Given as goal

abbrev pub invariant-members : goal.invariant-members
invariant-members g l = KeyedOn g.T.Der.grammar l.keys.items (length l.yielded) l.fn.members.items
