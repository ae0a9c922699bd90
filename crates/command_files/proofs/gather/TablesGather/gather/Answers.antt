use Rattle.command_files.proofs.Readings.{first_refused, then_ok, then_malformed}
use Rattle.command_files.specs.Gather.{input_of, by_form, tables_in}
use Rattle.command_files.specs.Tables.{tables_of}
use Rattle.command_files.specs.declared.inputs.InputFile.TheVariants.{Provider}
use Rattle.command_files.proofs.gather.TablesGather.gather.Goals as goal

pub returns-in-Ok-formed_tables : goal.returns-in-Ok-formed_tables
unfolding tables_in
returns-in-Ok-formed_tables g c = then_ok (input_of Provider) (λ bytes held. by_form Provider (tables_of bytes)) _ _ c.in-Ok.bytes c.in-Ok-formed_tables.tables c.in-Ok.ensures (λ held. c.in-Ok-formed_tables.ensures.ok)

pub returns-in-Err-formed_tables : goal.returns-in-Err-formed_tables
unfolding tables_in
returns-in-Err-formed_tables g c = then_malformed Provider tables_of _ _ c.in-Ok.bytes c.in-Err-formed_tables.e (λ m. m) c.in-Ok.ensures c.in-Err-formed_tables.ensures.err

pub returns-in-Err : goal.returns-in-Err
unfolding tables_in
returns-in-Err g c = first_refused (input_of Provider) (λ bytes held. by_form Provider (tables_of bytes)) _ _ c.in-Err.e c.in-Err.ensures
