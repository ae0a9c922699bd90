use Rattle.questions_tests.proofs.AnswerFacts.{promised}
use Rattle.questions_tests.proofs.answered.verify_by_answers.Goals as goal

pub returns : goal.returns
returns g c =
    promised _ _ _ g.J.AnyJudge.judges c.args.answers.provider.now.good.now.rows c.args.answers.provider.now.refused.now.rows c.args.request.now _ _ _ c.verify_request.ensures
