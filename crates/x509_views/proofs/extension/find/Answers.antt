use Rattle.std.proofs.Common.{◌≡◌, ◌<◌, true, false, length, sym, ◌∙◌, arith}
use Rattle.std.specs.Prelude.{bytes_eq}
use Rattle.std.proofs.lemmas.Bool.Decides.{nat_tests}
use Rattle.x509_views.specs.Views.{extension_parts}
use Rattle.x509_views.proofs.Lists.{found-none, found-stop, found-here, found-later}
use Rattle.x509_views.proofs.extension.find.Goals as goal

pub returns-then-eq : goal.returns-then-eq
returns-then-eq c =
    let some : 0 < length c.extensions.rest.now = grind (arith, nat_tests) in
    let test : bytes_eq c.in-Ok.extension.oid.now c.args.oid.now ≡ true = cc in
    sym (found-here c.args.oid.now c.extensions.rest.now (extension_parts c.in-Ok.extension) c.in-Ok.behind.now some c.in-Ok.ensures.ok test) ∙ c.extensions.invariant

pub extensions-preserved : goal.extensions-preserved
extensions-preserved c =
    let some : 0 < length c.extensions.rest.now = grind (arith, nat_tests) in
    let test : bytes_eq c.in-Ok.extension.oid.now c.args.oid.now ≡ false = cc in
    sym (found-later c.args.oid.now c.extensions.rest.now (extension_parts c.in-Ok.extension) c.in-Ok.behind.now some c.in-Ok.ensures.ok test) ∙ c.extensions.invariant

pub returns-in-Err : goal.returns-in-Err
returns-in-Err c =
    let some : 0 < length c.extensions.rest.now = grind (arith, nat_tests) in
    sym (found-stop c.args.oid.now c.extensions.rest.now c.in-Err.field-0 some c.in-Err.ensures.err) ∙ c.extensions.invariant

pub returns : goal.returns
returns c =
    let none : length c.extensions.rest.now ≡ 0 = grind (arith, nat_tests) in
    sym (found-none c.args.oid.now c.extensions.rest.now none) ∙ c.extensions.invariant
