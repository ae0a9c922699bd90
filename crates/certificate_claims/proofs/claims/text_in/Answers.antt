use Rattle.std.proofs.Common.{rules, ◌≡◌, refl, ap, sym, Ok, true, false}
use Rattle.std.specs.Str.{is_utf8}
use Rattle.std.proofs.lemmas.Str.{is_utf8-from_IsUtf8}
use Rattle.certificate_claims.proofs.claims.text_in.Goals as goal

pub returns-in-Ok-clause-ok : goal.returns-in-Ok-clause-ok
returns-in-Ok-clause-ok c =
    let is : is_utf8 c.args.contents.now ≡ true = is_utf8-from_IsUtf8 c.args.contents.now c.in-Ok.ensures.cases.1 in
    rw is (ap Ok (sym c.in-Ok.ensures.cases.0))

pub returns-in-Err-clause-err : goal.returns-in-Err-clause-err
unfolding is_utf8
returns-in-Err-clause-err c =
    let no : is_utf8 c.args.contents.now ≡ false = search rules in
    rw no refl
