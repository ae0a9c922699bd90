use Rattle.std.proofs.Common.{length, ap, sym, ◌∙◌, Ok}
use Rattle.std.specs.Prelude.{ok_or, option_copied}
use Rattle.trust_archive.specs.declared.error.ArchiveError.TheVariants.{Order}
use Rattle.trust_archive.proofs.roles.visits_from.Goals as goal

pub returns-in_ok-duplicate-in-Some-clause-ok : goal.returns-in_ok-duplicate-in-Some-clause-ok
returns-in_ok-duplicate-in-Some-clause-ok g c =
    c.in_ok-visit_all.ensures.ok ∙ ap (λ o. ok_or o (Order (length c.args.roles.now))) (sym c.entry.ensures ∙ ap option_copied c.in-Some.is)
    ∙ ap Ok (sym c.in_ok-duplicate-in-Some.ensures)

pub returns-in-None-clause-err : goal.returns-in-None-clause-err
returns-in-None-clause-err g c = λ other. c.in_ok-visit_all.ensures.ok ∙ ap (λ o. ok_or o (Order (length c.args.roles.now))) (sym c.entry.ensures ∙ ap option_copied c.in-None.is)
