use Rattle.sigstore_judgement.proofs.Agree.{blob_agrees}
use Rattle.sigstore_judgement.proofs.laws.blob_and_reader_agree.Goals as goal

pub returns : goal.returns
returns c = blob_agrees
