use Rattle.sigstore_rekor.proofs.ReadAgain.{envelopes, hashed_rekords, dsse_entries, hashed_rekords_v2, searches}
use Rattle.sigstore_rekor.proofs.laws.bodies_are_read.Goals as goal

pub returns : goal.returns
returns c =
    record { envelopes = envelopes; hashed_rekords = hashed_rekords; dsse_entries = dsse_entries; hashed_rekords_v2 = hashed_rekords_v2; searches = searches }
