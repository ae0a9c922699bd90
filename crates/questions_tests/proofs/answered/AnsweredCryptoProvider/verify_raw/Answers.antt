use Rattle.std.proofs.Common.{◌∙◌, ap}
use Rattle.questions_tests.specs.Answered.{by_answers}
use Rattle.questions_tests.proofs.answered.AnsweredCryptoProvider.verify_raw.Goals as goal

pub returns : goal.returns
returns g c =
    c.answer.ensures
    ∙ ap (λ s. by_answers c.args.self.now.good.now.rows c.args.self.now.refused.now.rows g.J.AnyJudge.judges c.args.scheme c.args.key.now s c.args.signature.now)
    (c.as_bytes.ensures ∙ c.new-subject.ensures)
