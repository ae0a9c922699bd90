use Rattle.std.proofs.Common.{◌≡◌, ◌++◌, drop}
use Rattle.trust_archive.specs.Grammar.{each_spelled}
use Rattle.trust_archive.specs.Spelling.{role_spelled}
use Rattle.trust_archive.proofs.writing.push_roles.Given as goal

-- what is written, and what is left
abbrev pub invariant-loop-role : goal.invariant-loop-role
invariant-loop-role l = l.out.items ++ each_spelled role_spelled (drop l.role-index l.roles) ≡ l.initial.out.items ++ each_spelled role_spelled l.roles
