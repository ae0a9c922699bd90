use Rattle.std.proofs.Common.{refl, sym}
use Rattle.sigstore_verify.specs.ByRules.{rules_asked_by}
use Rattle.command_files.specs.Tables.{crypto_of}
use Rattle.command_verify.specs.Run.{given_of}
use Rattle.command_questions.proofs.WaySufficing.{judged_alone}
use Rattle.command_questions.proofs.way_suffice.check_rule.Goals as goal

pub returns : goal.returns
returns c = λ file trusted.
    judged_alone (rules_asked_by (given_of (crypto_of c.args.tables.now) c.args.request.now)) c.args.request.now.rules.now file c.args.judged.now c.in-Some.policy.now
    c.args.trust.now c.in-Ok.bundle c.as_slice.result.now c.check_case-checked.result refl (sym c.in-Some.ensures) trusted c.in-Ok.ensures.ok c.as_slice.ensures
    c.check_case-checked.ensures
