-- The policy file: rules, one behind the other, each but the first behind a line `or`.
use Rattle.std.specs.Prelude.{ℕ, List, [], ◌∷◌, ◌++◌, length, bytes_eq, codes, nat_lt, if◌then◌else◌}
use Rattle.std.specs.Prelude.{Option, Some, None, Result, Ok, Err, ok_or}
use Rattle.foundation.specs.Steps.{◌>>=◌}
use Rattle.sigstore_policy.specs.declared.policy.SigningPolicy.{SigningPolicy}
use Rattle.command_files.specs.Lines.{file_folded_of}
use Rattle.command_files.specs.Policy.{purposeful, begun_of, later_line_of}
use Rattle.command_files.specs.declared.usage_fault.UsageFault.{UsageFault}
use Rattle.command_files.specs.declared.usage_fault.UsageFault.TheVariants.{Usage}
use Rattle.command_files.specs.declared.policy.Draft.{Draft}
use Rattle.command_files.specs.declared.rules.RulesDraft.{RulesDraft}

-- a line of the begun rule; where none is begun, the first line of one
unfoldable pub rule_line_of : Option Draft → List ℕ → Result (Option Draft) UsageFault
rule_line_of None line = begun_of line >>= λ draft. Ok (Some draft)
rule_line_of (Some draft) line = later_line_of draft line >>= λ next. Ok (Some next)

-- the whole rules with one more behind them: before it stand fewer than 64
abbrev pub with_rule : List SigningPolicy → Draft → Result (List SigningPolicy) UsageFault
with_rule whole begun = do
  policy ← purposeful begun.policy
  if nat_lt (length whole) 64 then Ok (whole ++ policy ∷ []) else Err Usage

-- the end of a rule: one is begun, and then none
unfoldable pub ended : RulesDraft → Result RulesDraft UsageFault
ended draft = do
  begun ← ok_or draft.begun Usage
  whole ← with_rule draft.whole begun
  Ok (record { whole = whole; begun = None })

-- a line of the file: the one word `or`, or a line of a rule
abbrev pub rules_line_of : RulesDraft → List ℕ → Result RulesDraft UsageFault
rules_line_of draft line =
    if bytes_eq line (codes "or") then ended draft
    else (rule_line_of draft.begun line >>= λ begun. Ok (record draft { begun = begun }))

-- the rules of a file; its end ends the last of them
unfoldable pub rules_of : List ℕ → Result (List SigningPolicy) UsageFault
rules_of bytes = do
  draft ← file_folded_of rules_line_of (record { whole = []; begun = None }) bytes
  closed ← ended draft
  Ok closed.whole
