use Rattle.std.proofs.Common.{◌≡◌, ◌<◌, true, false, length, sym, ◌∙◌, arith}
use Rattle.std.specs.Prelude.{is_some}
use Rattle.std.proofs.lemmas.Bool.Decides.{nat_tests}
use Rattle.std.proofs.lemmas.Result.{err_from_is_err_and}
use Rattle.x509_views.specs.Extensions.{found_of}
use Rattle.x509_views.specs.Views.{extension_parts, found_parts}
use Rattle.x509_views.proofs.Lists.{distinct-none, distinct-refused, distinct-twice, distinct-later, same_some}
use Rattle.x509_views.proofs.extension.check_list.Goals as goal

pub returns-in_err-extension : goal.returns-in_err-extension
returns-in_err-extension c =
    let some : 0 < length c.extensions.rest.now = grind (arith, nat_tests) in
    let p = err_from_is_err_and c.from_residual.result c.from_residual.ensures.1 in
    rw (p.1, p.2) (sym (distinct-refused c.extensions.rest.now c.in_err-extension.field-0.0 some c.in_err-extension.ensures.err) ∙ c.extensions.invariant)

pub returns-then-is_some : goal.returns-then-is_some
returns-then-is_some c =
    let some : 0 < length c.extensions.rest.now = grind (arith, nat_tests) in
    let s = same_some found_parts c.find.result (found_of c.in_ok-extension.extension.oid.now c.in_ok-extension.behind.now) c.find.ensures in
    let test : is_some (found_of c.in_ok-extension.extension.oid.now c.in_ok-extension.behind.now) ≡ true = cc in
    sym (distinct-twice c.extensions.rest.now (extension_parts c.in_ok-extension.extension) c.in_ok-extension.behind.now some c.in_ok-extension.ensures.ok test) ∙ c.extensions.invariant

pub extensions-preserved : goal.extensions-preserved
extensions-preserved c =
    let some : 0 < length c.extensions.rest.now = grind (arith, nat_tests) in
    let s = same_some found_parts c.find.result (found_of c.in_ok-extension.extension.oid.now c.in_ok-extension.behind.now) c.find.ensures in
    let test : is_some (found_of c.in_ok-extension.extension.oid.now c.in_ok-extension.behind.now) ≡ false = cc in
    sym (distinct-later c.extensions.rest.now (extension_parts c.in_ok-extension.extension) c.in_ok-extension.behind.now some c.in_ok-extension.ensures.ok test) ∙ c.extensions.invariant

pub returns : goal.returns
returns c =
    let none : length c.extensions.rest.now ≡ 0 = grind (arith, nat_tests) in
    sym (distinct-none c.extensions.rest.now none) ∙ c.extensions.invariant
