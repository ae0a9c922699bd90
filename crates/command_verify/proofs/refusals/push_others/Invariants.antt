use Rattle.std.proofs.Common.{◌≡◌, ◌++◌, drop, string_bytes}
use Rattle.command_verify.specs.Run.{others_text}
use Rattle.command_verify.proofs.refusals.push_others.Given as goal

abbrev pub invariant-faults : goal.invariant-faults
invariant-faults l = string_bytes l.initial.text ++ others_text l.faults ≡ string_bytes l.text ++ others_text (drop l.fault-index l.faults)
