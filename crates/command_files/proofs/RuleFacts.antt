-- How many rules a policy file has.
use Rattle.std.proofs.Common.{◌≡◌, ℕ, ◌≤◌, ◌<◌, List, [], ◌∷◌, ◌++◌, length, length-append, Bool, true, false, nat_lt, if◌then◌else◌, None, Result, Ok, Err, ok_or, refl, subst, arith, ltb-true}
use Rattle.foundation.specs.Results.{ok_same, step_ok}
use Rattle.sigstore_policy.specs.declared.policy.SigningPolicy.{SigningPolicy}
use Rattle.command_files.specs.Lines.{file_folded_of}
use Rattle.command_files.specs.Policy.{purposeful}
use Rattle.command_files.specs.Rules.{with_rule, ended, rules_line_of, rules_of}
use Rattle.command_files.specs.RuleLaws.{HasARule, HasFewRules}
use Rattle.command_files.specs.declared.usage_fault.UsageFault.{UsageFault}
use Rattle.command_files.specs.declared.usage_fault.UsageFault.TheVariants.{Usage}
use Rattle.command_files.specs.declared.policy.Draft.{Draft}
use Rattle.command_files.specs.declared.rules.RulesDraft.{RulesDraft}

abbrev AreFew : List SigningPolicy → Type 0
AreFew rules = (1 ≤ length rules) × (length rules ≤ 64)

one_more : (whole : List SigningPolicy) (policy : SigningPolicy) → length whole < 64 → AreFew (whole ++ policy ∷ [])
one_more whole policy h = let e = length-append whole (policy ∷ []) in (omega (arith, e), omega (arith, e, h))

by_room : (whole rules : List SigningPolicy) (policy : SigningPolicy) (b : Bool) → nat_lt (length whole) 64 ≡ b
    → ◌≡◌ {A = Result (List SigningPolicy) UsageFault} (if b then Ok (whole ++ policy ∷ []) else Err Usage) (Ok rules) → AreFew rules
by_room whole rules policy true h e = subst AreFew (ok_same _ _ e) (one_more whole policy (ltb-true _ _ h))
by_room whole rules policy false h e = cc

added_few : (whole rules : List SigningPolicy) (begun : Draft) → with_rule whole begun ≡ Ok rules → AreFew rules
added_few whole rules begun h =
    let policy = step_ok (purposeful begun.policy) _ rules h in
    by_room whole rules policy.0 (nat_lt (length whole) 64) refl policy.2

ended_few : (draft closed : RulesDraft) → ended draft ≡ Ok closed → AreFew closed.whole
unfolding ended
ended_few draft closed h =
    let begun = step_ok (ok_or draft.begun Usage) _ closed h in
    let whole = step_ok (with_rule draft.whole begun.0) _ closed begun.2 in
    subst (λ (d : RulesDraft). AreFew d.whole) (ok_same _ closed whole.2) (added_few draft.whole whole.0 begun.0 whole.1)

are_few : (bytes : List ℕ) (rules : List SigningPolicy) → rules_of bytes ≡ Ok rules → AreFew rules
unfolding rules_of
are_few bytes rules h =
    let read = step_ok (file_folded_of rules_line_of (record { whole = []; begun = None }) bytes) _ rules h in
    let closed = step_ok (ended read.0) _ rules read.2 in
    subst AreFew (ok_same _ rules closed.2) (ended_few read.0 closed.0 closed.1)

pub has_a_rule : HasARule
has_a_rule bytes rules h = (are_few bytes rules h).0

pub has_few_rules : HasFewRules
has_few_rules bytes rules h = (are_few bytes rules h).1
