use Rattle.std.proofs.Common.{drop}
use Rattle.der_core.proofs.OidText.{TextOn}
use Rattle.der_core.proofs.dotted.arcs_of_text.Given as goal

abbrev pub invariant-characters : goal.invariant-characters
invariant-characters l = TextOn l.arcs.items l.number (drop l.character-index l.text) l.text
