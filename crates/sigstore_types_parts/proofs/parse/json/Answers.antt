use Rattle.std.proofs.Common.{◌≡◌, ◌==◌, true, length, eq-eqb}
use Rattle.std.specs.Str.Lossy.{utf8_valid_len}
use Rattle.std.proofs.lemmas.Result.{IfOk-weaker}
use Rattle.std.proofs.lemmas.Str.{utf8_valid_len-IsUtf8}
use Rattle.sigstore_types_parts.proofs.parse.json.Goals as goal

pub returns-in-Ok-clause-ok : goal.returns-in-Ok-clause-ok
returns-in-Ok-clause-ok c =
    let whole : (utf8_valid_len c.args.bytes.now == length c.args.bytes.now) ≡ true =
    eq-eqb _ _ (utf8_valid_len-IsUtf8 c.args.bytes.now c.in-Ok.ensures.cases.1) in
    IfOk-weaker c.json_of_text.result _ _ (λ v e. rw (whole, ← c.in-Ok.ensures.cases.0) e) c.json_of_text.ensures.ok
