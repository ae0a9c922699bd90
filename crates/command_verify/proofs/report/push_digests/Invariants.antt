use Rattle.std.proofs.Common.{◌≡◌, drop, string_bytes}
use Rattle.command_verify.specs.Report.{digests_added}
use Rattle.command_verify.proofs.report.push_digests.Given as goal

abbrev pub invariant-digests : goal.invariant-digests
invariant-digests l = digests_added (string_bytes l.fn.text) l.digests ≡ digests_added (string_bytes l.text) (drop l.digest-index l.digests)
