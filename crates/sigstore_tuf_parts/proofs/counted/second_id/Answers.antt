use Rattle.std.proofs.Common.{◌∙◌, sym}
use Rattle.sigstore_tuf_parts.proofs.CountFacts.{second_step}
use Rattle.sigstore_tuf_parts.proofs.counted.second_id.Goals as goal

pub loop-signature-preserved : goal.loop-signature-preserved
loop-signature-preserved c =
    c.loop-signature.invariant
    ∙ second_step c.args.signatures.now c.loop-signature.signature-index c.signature-item.result c.loop-signature.seen c.insert.new.self c.as_str.result.now c.loop-signature-test.true
    (sym c.signature-item.is) c.as_str.ensures (sym c.in_ok-insert.ensures.fresh ∙ c.if-not-branch.false) c.in_ok-insert.ensures.all
