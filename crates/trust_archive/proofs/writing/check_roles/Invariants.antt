use Rattle.std.proofs.Common.{◌≡◌, drop}
use Rattle.trust_archive.specs.Grammar.{all_fit_of}
use Rattle.trust_archive.specs.Spelling.{role_numbers, each_number}
use Rattle.trust_archive.proofs.writing.check_roles.Given as goal

-- those that are left decide
abbrev pub invariant-loop-role : goal.invariant-loop-role
invariant-loop-role l = all_fit_of (each_number role_numbers (drop l.role-index l.roles)) ≡ all_fit_of (each_number role_numbers l.roles)
