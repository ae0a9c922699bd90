use Rattle.std.proofs.Common.{◌∙◌, string_bytes}
use Rattle.serde_json.specs.View.{view}
use Rattle.sigstore_rekor.proofs.ReadAgain.{text_is}
use Rattle.sigstore_rekor.proofs.written.envelope_text.Goals as goal

-- src/written.rt:30:1
pub returns : goal.returns
returns c =
    c.from_string.ensures
    ∙ text_is c.args.envelope.now (view c.in_ok-value.value) (string_bytes c.in_ok-to_string.field-0) c.in_ok-value.ensures c.in_ok-to_string.ensures.text
