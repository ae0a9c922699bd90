use Rattle.std.proofs.Common.{ap, subst, ◌∙◌}
use Rattle.sigstore_types.specs.Bundle.{bundle_of_bytes}
use Rattle.sigstore_types.specs.Laws.{TimesFit}
use Rattle.sigstore_types.proofs.WrittenText.{text_written, text_again}
use Rattle.sigstore_types.proofs.bundle.Bundle.to_json.Goals as goal

pub returns-clause-written : goal.returns-clause-written
returns-clause-written c =
    c.from_vec.ensures ∙ text_written c.args.self.now _ _ c.in_ok-value.ensures c.in_ok-to_vec.ensures.text

pub returns-clause-again : goal.returns-clause-again
returns-clause-again c = λ bytes h.
    let fits = subst TimesFit c.as_slice.ensures c.times_fit.ensures in
    ap bundle_of_bytes c.from_vec.ensures
    ∙ text_again c.args.self.now _ _ c.in_ok-value.ensures c.in_ok-to_vec.ensures.utf8 c.in_ok-to_vec.ensures.reads_back fits bytes h
