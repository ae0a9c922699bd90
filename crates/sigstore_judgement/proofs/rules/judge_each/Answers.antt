use Rattle.std.proofs.Common.{map}
use Rattle.sigstore_policy.specs.Policy.{meaning_in}
use Rattle.sigstore_judgement.specs.Grounds.{grounds_by}
use Rattle.sigstore_judgement.specs.Rules.{answer_by, answers_by}
use Rattle.sigstore_judgement.proofs.Picking.{each_more}
use Rattle.sigstore_judgement.proofs.rules.judge_each.Goals as goal

pub rules-preserved : goal.rules-preserved
rules-preserved g c =
    let grounds = grounds_by g.C.CryptoProvider g.M.Armor c.args.grounds.now in (
      c.in_ok-remember-in-Err.ensures grounds c.args.artifact.now c.rules.invariant.0 c.in-Err.ensures.err,
      each_more (answer_by grounds c.args.bundle.now c.args.artifact.now) (answers_by grounds c.args.bundle.now c.args.artifact.now (map meaning_in c.args.rules.now))
          c.rules.refusals c.add_refusal.new.refusals c.args.rules.now c.rules.k c.index-rules-k.result c.in-Err.e c.rules-test.true c.index-rules-k.is
          c.rules.invariant.1.0 c.rules.invariant.1.1 (c.in-Err.ensures.err c.in_ok-add_refusal-in-Err.ensures.ok.1) c.in_ok-add_refusal-in-Err.ensures.ok.1 c.in_ok-add_refusal-in-Err.ensures.ok.0,
    )
