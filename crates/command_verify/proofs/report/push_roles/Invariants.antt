use Rattle.std.proofs.Common.{◌≡◌, drop, string_bytes}
use Rattle.command_verify.specs.Report.{roles_added}
use Rattle.command_verify.proofs.report.push_roles.Given as goal

abbrev pub invariant-roles : goal.invariant-roles
invariant-roles l = roles_added (string_bytes l.fn.text) l.roles ≡ roles_added (string_bytes l.text) (drop l.role-index l.roles)
