use Rattle.sigstore_envelopes.proofs.ReadAgain.{envelope_again}
use Rattle.sigstore_envelopes.proofs.laws.envelopes_are_read_again.Goals as goal

pub returns : goal.returns
returns c = λ d envelope h. (envelope_again envelope (record { from = d; was = h })).back
