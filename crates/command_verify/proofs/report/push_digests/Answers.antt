use Rattle.std.proofs.Common.{ap, ◌∙◌, string_bytes}
use Rattle.sigstore_types_parts.specs.HashAlgorithm.{rekor_name_of}
use Rattle.command_verify.proofs.Digests.{digests_more}
use Rattle.command_verify.proofs.report.push_digests.Goals as goal

pub digests-preserved : goal.digests-preserved
digests-preserved c =
    digests_more _ (string_bytes c.digests.text) _ _ _ c.args.digests.now c.digests.digest-index c.digest-item.result c.digests-test.true c.digest-item.is c.digests.invariant
    (c.as_rekor_str-name.ensures ∙ ap rekor_name_of c.algorithm.ensures) c.as_bytes.ensures.bytes c.in_ok-push_hex_line.ensures
