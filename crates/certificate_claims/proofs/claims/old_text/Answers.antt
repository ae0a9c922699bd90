use Rattle.std.proofs.Common.{rules, ◌≡◌, refl, ap, Some, true, false}
use Rattle.std.specs.Str.{is_utf8}
use Rattle.std.proofs.lemmas.Str.{is_utf8-from_IsUtf8}
use Rattle.certificate_claims.proofs.claims.old_text.Goals as goal

pub returns-in-Ok : goal.returns-in-Ok
returns-in-Ok c =
    let is : is_utf8 c.args.value.now ≡ true = is_utf8-from_IsUtf8 c.args.value.now c.in-Ok.ensures.cases.1 in
    rw (← c.in-None.ensures, is) (ap Some c.in-Ok.ensures.cases.0)

pub returns-in-Err : goal.returns-in-Err
unfolding is_utf8
returns-in-Err c =
    let no : is_utf8 c.args.value.now ≡ false = search rules in
    rw (← c.in-None.ensures, no) refl
