use Rattle.std.proofs.Common.{Ok, Err, refl}
use Rattle.x509_views.specs.Views.{extension_parts}
use Rattle.x509_views.proofs.Walks.{walk-as}
use Rattle.x509_views.proofs.walk.ExtensionsIterator.next.Goals as goal

pub returns-in-Ok-clause-steps : goal.returns-in-Ok-clause-steps
returns-in-Ok-clause-steps c = record {
  step = c.in-Ok.ensures.ok;
  first = walk-as c.args.self.now.rest.now (Ok (extension_parts c.in-Ok.extension, c.in-Ok.rest.now)) c.in-Ok.ensures.ok;
}

pub returns-in-Err-clause-steps : goal.returns-in-Err-clause-steps
returns-in-Err-clause-steps c =
    let none = walk-as c.args.self.now.rest.now (Err c.in-Err.field-0) c.in-Err.ensures.err in
    record { step = (rw c.in-Err.ensures.err refl, refl); first = (none, none) }
