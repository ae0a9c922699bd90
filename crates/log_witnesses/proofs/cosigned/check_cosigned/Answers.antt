use Rattle.log_witnesses.proofs.Judged.{cosigned_where_ok, cause_where_refused, wanting_where_cosigned}
use Rattle.log_witnesses.proofs.cosigned.check_cosigned.Goals as goal

pub returns-clause-cosigned : goal.returns-clause-cosigned
returns-clause-cosigned g c =
    cosigned_where_ok (g.C.CryptoProvider.accepts c.args.provider.now) c.args.asked c.args.witnesses.now c.args.checkpoint.now
    c.cosigned_judged.result c.cosigned_judged.ensures.ok

pub returns-clause-cause : goal.returns-clause-cause
returns-clause-cause g c =
    cause_where_refused (g.C.CryptoProvider.accepts c.args.provider.now) c.args.asked c.args.witnesses.now c.args.checkpoint.now
    c.cosigned_judged.result c.cosigned_judged.ensures.err

pub returns-clause-complete : goal.returns-clause-complete
returns-clause-complete g c =
    wanting_where_cosigned (g.C.CryptoProvider.accepts c.args.provider.now) c.args.asked c.args.witnesses.now c.args.checkpoint.now
    c.cosigned_judged.result c.cosigned_judged.ensures.err
