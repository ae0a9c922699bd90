use Rattle.log_tiles.proofs.Audited.{audit_served}
use Rattle.log_tiles.proofs.auditing.audit.Goals as goal

pub returns-clause-served : goal.returns-clause-served
returns-clause-served g c = λ leaves older newer signed of serves.
    audit_served _ c.args.key.now c.args.first.now c.args.second.now older newer leaves _ _ c.audited.result c.audited.ensures signed of
    serves
