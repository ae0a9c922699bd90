use Rattle.std.proofs.Common.{◌≡◌, ◌++◌, drop, string_bytes}
use Rattle.command_bundles.specs.Concluding.{refusals_text}
use Rattle.command_bundles.proofs.concluding.push_refusals.Given as goal

abbrev pub invariant-refusals : goal.invariant-refusals
invariant-refusals l = string_bytes l.initial.text ++ refusals_text l.refusals ≡ string_bytes l.text ++ refusals_text (drop l.refusal-index l.refusals)
