use Rattle.std.proofs.Common.{refl, string_bytes}
use Rattle.command_files.proofs.Printing.{printed_more}
use Rattle.command_files.proofs.printed.push_printed.Goals as goal

pub bytes-preserved : goal.bytes-preserved
bytes-preserved c =
    printed_more _ (string_bytes c.bytes.text) _ c.args.bytes.now c.bytes.byte-index _ c.bytes-test.true refl c.bytes.invariant c.in_ok-push_byte.ensures
