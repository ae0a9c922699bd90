use Rattle.std.proofs.Common.{ap, sym, ◌∙◌}
use Rattle.std.specs.Prelude.{option_copied, option_and_then}
use Rattle.sigstore_tuf_rules.specs.declared.visit.Visit.{Visit}
use Rattle.sigstore_tuf_runs.specs.Search.{listed_by}
use Rattle.sigstore_tuf_rules.proofs.TakenIn.{slice_last}
use Rattle.sigstore_tuf_client.proofs.target.last_entry.Goals as goal

pub returns-in-Some : goal.returns-in-Some
returns-in-Some c =
    c.listed.ensures
    ∙ ap (option_and_then (λ (v : Visit). listed_by c.args.documents.now c.args.path.now v.name)) (sym (ap option_copied c.in-Some.is) ∙ c.last.ensures.value ∙ slice_last c.args.visits.now)
