use Rattle.std.proofs.Common.{sym, ap, ◌∙◌}
use Rattle.sigstore_entries.specs.Checkpoint.{is_shortest_decimal}
use Rattle.sigstore_entries.proofs.NumberFacts.{decimal_refused}
use Rattle.sigstore_entries.proofs.checkpoint.decimal.Goals as goal

pub returns-in-Err : goal.returns-in-Err
returns-in-Err c =
    sym (decimal_refused c.args.digits.now c.parse.result c.in-Err.field-0 c.parse.ensures.value.0 c.in-Err.is
    (ap is_shortest_decimal (sym c.as_bytes.ensures.value) ∙ sym c.is_shortest_decimal.ensures ∙ c.if-not-is_shortest_decimal.false))
