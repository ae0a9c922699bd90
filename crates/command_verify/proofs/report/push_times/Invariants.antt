use Rattle.std.proofs.Common.{◌≡◌, drop, string_bytes}
use Rattle.command_verify.specs.Report.{times_added}
use Rattle.command_verify.proofs.report.push_times.Given as goal

abbrev pub invariant-times : goal.invariant-times
invariant-times l = times_added (string_bytes l.fn.text) l.times ≡ times_added (string_bytes l.text) (drop l.time-index l.times)
