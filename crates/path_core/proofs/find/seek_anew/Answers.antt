use Rattle.std.proofs.Common.{◌≡◌, ◌∙◌, sym, subst, arith}
use Rattle.path_core.specs.Counts.{Counts}
use Rattle.path_core.specs.Search.{setting_of}
use Rattle.path_core.proofs.Counting.{costs, rises, counts_answer, found_itself, refused_itself}
use Rattle.path_core.proofs.find.seek_anew.Goals as goal

pub returns-clause-ok : goal.returns-clause-ok
returns-clause-ok g c =
    let w = setting_of g.C.CryptoProvider.accepts c.args.given.now in
    found_itself w c.seek_over-answer.new.made c.seek_over-answer.result c.seek_over-answer.ensures.ok

pub returns-clause-err : goal.returns-clause-err
returns-clause-err g c =
    let w = setting_of g.C.CryptoProvider.accepts c.args.given.now in
    refused_itself w c.seek_over-answer.new.made c.seek_over-answer.result c.seek_over-answer.ensures.err

pub returns-clause-cost : goal.returns-clause-cost
returns-clause-cost g c =
    let w = setting_of g.C.CryptoProvider.accepts c.args.given.now in
    let most = costs w c.new-made.result c.seek_over-answer.new.made c.new-made.ensures.empty c.seek_over-answer.ensures.keeps in
    let began = c.new-made.ensures.steps in
    let same = c.requires.begun in
    let back = c.copied-counted.ensures.same in
    omega arith

pub returns-clause-rises : goal.returns-clause-rises
returns-clause-rises g c =
    let w = setting_of g.C.CryptoProvider.accepts c.args.given.now in
    let began = c.new-made.ensures.steps in
    let same = c.requires.begun in
    let fits = c.requires.fits in
    let up = rises w c.new-made.result c.seek_over-answer.new.made (omega arith) c.seek_over-answer.ensures.keeps in
    let back = c.copied-counted.ensures.same in
    omega arith

pub returns-clause-counted : goal.returns-clause-counted
returns-clause-counted g c =
    let w = setting_of g.C.CryptoProvider.accepts c.args.given.now in
    let a = c.new-made.result in
    let b = c.seek_over-answer.new.made in
    let answer = c.seek_over-answer.result in
    let began : a.steps ≡ c.args.steps.now = c.new-made.ensures.steps ∙ c.requires.begun in
    subst (λ n. Counts w n c.copied-counted.result answer) began
    (subst (λ n. Counts w a.steps n answer) (sym c.copied-counted.ensures.same)
    (counts_answer w a b answer c.new-made.ensures.empty c.seek_over-answer.ensures.keeps c.seek_over-answer.ensures.ok c.seek_over-answer.ensures.err))
