use Rattle.std.proofs.Common.{◌≡◌, ◌==◌, true, length, refl, eq-eqb}
use Rattle.std.specs.Str.Lossy.{utf8_valid_len}
use Rattle.std.proofs.lemmas.Str.{utf8_valid_len-IsUtf8}
use Rattle.sigstore_entries.proofs.lines.line_text.Goals as goal

pub returns-in-Ok : goal.returns-in-Ok
returns-in-Ok c =
    let whole : (utf8_valid_len c.args.line.now == length c.args.line.now) ≡ true =
    eq-eqb _ _ (utf8_valid_len-IsUtf8 c.args.line.now c.in-Ok.ensures.cases.1) in
    rw (whole, c.in-Ok.ensures.cases.0) refl
