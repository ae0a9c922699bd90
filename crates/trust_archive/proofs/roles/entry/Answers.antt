use Rattle.std.proofs.Common.{ap, sym, ◌∙◌}
use Rattle.std.specs.Prelude.{option_copied, option_and_then}
use Rattle.sigstore_tuf_rules.proofs.TakenIn.{slice_last}
use Rattle.trust_archive.specs.Judgement.{listed_in}
use Rattle.trust_archive.proofs.roles.entry.Goals as goal

pub returns-in-Some : goal.returns-in-Some
returns-in-Some c =
    c.listed_in.ensures
    ∙ ap (option_and_then (listed_in c.args.documents.now c.args.path.now))
    (sym (ap option_copied c.in-Some.is) ∙ rw c.as_slice.ensures at c.last.ensures.value ∙ slice_last c.args.search.now.read)
