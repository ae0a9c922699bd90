use Rattle.std.proofs.Common.{◌≡◌, ◌++◌, drop, string_bytes}
use Rattle.verification_details.specs.Lines.{claim_lines}
use Rattle.verification_details.proofs.lines.push_each.Given as goal

abbrev pub invariant-names : goal.invariant-names
invariant-names l =
    string_bytes l.fn.text ++ claim_lines l.claims l.names ≡ string_bytes l.text ++ claim_lines l.claims (drop l.name-index l.names)
