use Rattle.std.proofs.Common.{sym, subst}
use Rattle.sigstore_keys.specs.Crypto.{crypto_with}
use Rattle.sigstore_judgement.specs.UnderRules.{rules_asked_with}
use Rattle.command_ways.specs.Judging.{Judges}
use Rattle.command_ways.proofs.judging.judge_subject.Goals as goal

pub returns-in-None : goal.returns-in-None
returns-in-None g c =
    subst (λ told. Judges (rules_asked_with (crypto_with g.C.CryptoProvider g.M.Armor c.args.anchor.now.providers) c.args.anchor.now.now c.args.asked.now)
    c.args.file.now told (g.A.ArtifactSource.seen c.args.artifact.now) (g.A.ArtifactSource.seen c.judge_bundle_by_rules.new.artifact)
    c.judge_bundle_by_rules.result) (sym c.in-None.is) c.judge_bundle_by_rules.ensures
