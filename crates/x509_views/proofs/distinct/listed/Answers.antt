use Rattle.std.proofs.Common.{◌≡◌, ◌<◌, length, map, arith}
use Rattle.std.proofs.lemmas.Bool.Decides.{nat_tests}
use Rattle.std.proofs.lemmas.List.{map-append}
use Rattle.x509_views.specs.Views.{extension_parts}
use Rattle.x509_views.proofs.Identifiers.{lists_one, stops, ends}
use Rattle.x509_views.proofs.distinct.listed.Goals as goal

pub extensions-preserved : goal.extensions-preserved
extensions-preserved c =
    let some : 0 < length c.extensions.rest.now = grind (arith, nat_tests) in
    rw (c.in_ok-push-in-Ok.ensures.items, map-append)
    (lists_one (map (λ oid. oid.now) c.extensions.identifiers.items) c.extensions.rest.now c.in-Ok.behind.now c.args.list.now (extension_parts c.in-Ok.extension) some c.in-Ok.ensures.ok c.extensions.invariant)

pub returns-in-Err-clause-ok : goal.returns-in-Err-clause-ok
returns-in-Err-clause-ok c =
    let some : 0 < length c.extensions.rest.now = grind (arith, nat_tests) in
    stops (map (λ oid. oid.now) c.extensions.identifiers.items) c.extensions.rest.now c.args.list.now c.in-Err.refusal some c.in-Err.ensures.err c.extensions.invariant

pub returns-clause-ok : goal.returns-clause-ok
returns-clause-ok c =
    let none : length c.extensions.rest.now ≡ 0 = grind (arith, nat_tests) in
    ends (map (λ oid. oid.now) c.extensions.identifiers.items) c.extensions.rest.now c.args.list.now none c.extensions.invariant
