-- Laws of a policy file's rules: there is one, and there are at most 64.
use Rattle.std.specs.Prelude.{◌≡◌, ◌≤◌, ℕ, List, length, Ok}
use Rattle.sigstore_policy.specs.declared.policy.SigningPolicy.{SigningPolicy}
use Rattle.command_files.specs.Rules.{rules_of}

-- a file that is read has a rule
abbrev pub HasARule : Type 0
HasARule = (bytes : List ℕ) (rules : List SigningPolicy) → rules_of bytes ≡ Ok rules → 1 ≤ length rules

-- a file that is read has at most 64 rules
abbrev pub HasFewRules : Type 0
HasFewRules = (bytes : List ℕ) (rules : List SigningPolicy) → rules_of bytes ≡ Ok rules → length rules ≤ 64
