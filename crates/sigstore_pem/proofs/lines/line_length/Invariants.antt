use Rattle.std.proofs.Common.{length, ◌-◌, ◌≡◌, ◌≤◌, take, not, true}
use Rattle.std.specs.List.{list_all}
use Rattle.sigstore_pem.specs.Pem.{is_line_end}
use Rattle.sigstore_pem.proofs.lines.line_length.Given as goal

abbrev pub invariant-bytes : goal.invariant-bytes
invariant-bytes l = record { within : l.at ≤ length l.text; plain : list_all (λ b. not (is_line_end b)) (take l.at l.text) ≡ true }

abbrev pub decreases-bytes : goal.decreases-bytes
decreases-bytes l = length l.text - l.at
