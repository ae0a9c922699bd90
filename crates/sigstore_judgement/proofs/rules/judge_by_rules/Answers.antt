use Rattle.std.proofs.Common.{map, sym}
use Rattle.sigstore_policy.specs.Policy.{meaning_in}
use Rattle.sigstore_judgement.specs.Grounds.{grounds_by}
use Rattle.sigstore_judgement.proofs.RulesLaw.{judged_each}
use Rattle.sigstore_judgement.proofs.rules.judge_by_rules.Goals as goal

pub returns : goal.returns
returns g c =
    let reads = c.in_ok-artifact.ensures c.in_ok-needed.ensures.hashed in
    judged_each (grounds_by g.C.CryptoProvider g.M.Armor c.args.grounds.now) c.args.bundle.now (map meaning_in c.args.rules.now) _ _ c.args.max reads.later reads.within
    c.in_ok-needed.needed c.in_ok-artifact.artifact (sym c.in_ok-needed.ensures.needed) reads.had c.judge_each.result c.judge_each.ensures.ok c.judge_each.ensures.err
