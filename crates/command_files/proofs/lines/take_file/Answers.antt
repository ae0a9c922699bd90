use Rattle.std.proofs.Common.{◌≡◌, ◌==◌, true, length, eq-eqb}
use Rattle.std.specs.Str.Lossy.{utf8_valid_len}
use Rattle.std.proofs.lemmas.Str.{utf8_valid_len-IsUtf8}
use Rattle.command_files.proofs.lines.take_file.Goals as goal

pub returns-in-Ok-take_text-clause-ok : goal.returns-in-Ok-take_text-clause-ok
returns-in-Ok-take_text-clause-ok g c =
    let whole : (utf8_valid_len c.args.bytes.now == length c.args.bytes.now) ≡ true =
    eq-eqb _ _ (utf8_valid_len-IsUtf8 c.args.bytes.now c.in-Ok.ensures.cases.1) in
    rw (whole, ← c.in-Ok.ensures.cases.0) c.in-Ok-take_text.ensures.ok
