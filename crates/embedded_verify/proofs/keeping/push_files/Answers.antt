use Rattle.std.proofs.Common.{string_bytes, ap}
use Rattle.sigstore_types_parts.specs.Entries.{named}
use Rattle.embedded_verify.proofs.Kept.{one_more}
use Rattle.embedded_verify.proofs.keeping.push_files.Goals as goal

pub loop-name-preserved : goal.loop-name-preserved
loop-name-preserved c =
    one_more _ _ _ _ (named c.next.new.self) (string_bytes c.in-Some.name.now) c.in-Some.bytes.now c.as_bytes.result.now c.as_bytes-in-loop-name.result.now c.loop-name.invariant (ap named c.in-Some.ensures.steps) c.in_ok-push_keep_line.ensures c.as_bytes.ensures.value c.as_bytes-in-loop-name.ensures
