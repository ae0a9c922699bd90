use Rattle.std.proofs.Common.{refl, sym}
use Rattle.command_files.specs.Tables.{crypto_of}
use Rattle.command_verify.specs.Run.{given_of}
use Rattle.command_questions.proofs.Sufficing.{accepted_alone}
use Rattle.command_questions.proofs.suffice.check_bundle.Goals as goal

pub returns : goal.returns
returns c =
    accepted_alone (given_of (crypto_of c.args.tables.now) c.args.request.now) c.args.request.now.rules.now c.args.ruled.now c.in-Some.policy.now c.args.trust.now c.in-Ok.bundle
    c.as_slice.result.now c.check_case-checked.result refl (sym c.in-Some.ensures) c.requires c.in-Ok.ensures.ok c.as_slice.ensures c.check_case-checked.ensures
