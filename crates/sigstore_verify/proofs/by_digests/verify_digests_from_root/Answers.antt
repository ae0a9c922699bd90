use Rattle.std.proofs.Common.{ap, Err}
use Rattle.sigstore_verify.specs.declared.by_rules.RulesFault.TheVariants.{Root}
use Rattle.sigstore_verify.specs.ByDigests.{chain_refused, judged}
use Rattle.sigstore_verify.proofs.by_digests.verify_digests_from_root.Goals as goal

pub returns-in-Err : goal.returns-in-Err
returns-in-Err g c = chain_refused c.in-Err.e c.in-Err.ensures (ap (λ f. Err (Root f)) c.tuf_fault.ensures)

pub returns : goal.returns
returns g c = judged c.in-Ok.chain c.judge_digests-judged.result c.in-Ok.ensures (rw c.as_bytes.ensures at c.judge_digests-judged.ensures) c.ruled.ensures
