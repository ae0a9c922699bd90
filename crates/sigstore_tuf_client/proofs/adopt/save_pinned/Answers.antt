use Rattle.std.proofs.Common.{ap, ◌∙◌}
use Rattle.std.specs.Prelude.{option_copied}
use Rattle.sigstore_tuf_runs.proofs.Steps.{both_versioned, all_as}
use Rattle.sigstore_tuf_client.proofs.adopt.save_pinned.Goals as goal

pub returns-in-Ok : goal.returns-in-Ok
returns-in-Ok g c = all_as _ _ _ _ (both_versioned c.in-true-Some.pin.now c.args.name.now c.in-true-Some.is-0 (ap option_copied c.in-true-Some.is-1) (c.as_str.ensures ∙ c.in-Ok.ensures)) c.save_twice.ensures
