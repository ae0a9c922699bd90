use Rattle.std.proofs.Common.{rules, refl, ap}
use Rattle.release_gate.specs.Judgement.{terms_in}
use Rattle.release_gate.specs.Reading.{unheld}
use Rattle.release_gate.specs.Verdict.{by_bundle}
use Rattle.release_gate.proofs.Readings.{reads_as, reads_refused}
use Rattle.release_gate.proofs.judgement.Judgement.by_bundle.Goals as goal

pub returns-in-Ok-clause-rests : goal.returns-in-Ok-clause-rests
returns-in-Ok-clause-rests g c =
    let terms = terms_in g.C.CryptoProvider g.M.Armor c.args.self.now in
    reads_as _ _ _ _ _ _ _ _ _ (λ bytes. ap (by_bundle terms c.args.self.now.max bytes) c.in-Ok.ensures.ok) c.by_rules-verdict.ensures.rests

pub returns-in-Err-NoMemory-clause-rests : goal.returns-in-Err-NoMemory-clause-rests
returns-in-Err-NoMemory-clause-rests g c = unheld refl

pub returns-in-Err-clause-rests : goal.returns-in-Err-clause-rests
returns-in-Err-clause-rests g c =
    let terms = terms_in g.C.CryptoProvider g.M.Armor c.args.self.now in
    reads_refused _ _ _ _ _ _ _ _ c.refused.result (λ bytes. ap (by_bundle terms c.args.self.now.max bytes) (c.in-Err.ensures.err (search rules))) refl c.refused.ensures
