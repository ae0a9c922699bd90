use Rattle.std.proofs.Common.{ap, ◌∙◌, to_z-of_z}
use Rattle.sigstore_entries.specs.Promise.{written}
use Rattle.sigstore_entries.proofs.promise.written.Goals as goal

pub returns : goal.returns
returns c =
    let args = c.args in
    c.in_ok-format.ensures.ok ∙ ap (λ time. written args.body.now time args.id.now args.index) (to_z-of_z c.ranges.time)
