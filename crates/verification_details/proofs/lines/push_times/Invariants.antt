use Rattle.std.proofs.Common.{◌≡◌, ◌++◌, drop, string_bytes}
use Rattle.verification_details.specs.Lines.{time_lines}
use Rattle.verification_details.proofs.lines.push_times.Given as goal

abbrev pub invariant-times : goal.invariant-times
invariant-times l =
    string_bytes l.fn.text ++ time_lines l.word l.times ≡ string_bytes l.text ++ time_lines l.word (drop l.time-index l.times)
