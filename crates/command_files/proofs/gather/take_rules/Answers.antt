use Rattle.command_files.proofs.Readings.{first_refused, then_ok, then_malformed}
use Rattle.command_files.specs.Gather.{input_of, by_form, rules_in}
use Rattle.command_files.specs.Rules.{rules_of}
use Rattle.command_files.specs.declared.inputs.InputFile.TheVariants.{Policy}
use Rattle.command_files.proofs.gather.take_rules.Goals as goal

pub returns-in-Ok-formed_rules : goal.returns-in-Ok-formed_rules
unfolding rules_in
returns-in-Ok-formed_rules g c = then_ok (input_of Policy) (λ bytes held. by_form Policy (rules_of bytes)) _ _ c.in-Ok.bytes c.in-Ok-formed_rules.rules c.in-Ok.ensures (λ held. c.in-Ok-formed_rules.ensures.ok)

pub returns-in-Err-formed_rules : goal.returns-in-Err-formed_rules
unfolding rules_in
returns-in-Err-formed_rules g c = then_malformed Policy rules_of _ _ c.in-Ok.bytes c.in-Err-formed_rules.e (λ m. m) c.in-Ok.ensures c.in-Err-formed_rules.ensures.err

pub returns-in-Err : goal.returns-in-Err
unfolding rules_in
returns-in-Err g c = first_refused (input_of Policy) (λ bytes held. by_form Policy (rules_of bytes)) _ _ c.in-Err.e c.in-Err.ensures
