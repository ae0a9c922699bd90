use Rattle.sigstore_envelopes.proofs.Distinct.{distinct}
use Rattle.sigstore_envelopes.proofs.laws.encodings_are_distinct.Goals as goal

pub returns : goal.returns
returns c = distinct
