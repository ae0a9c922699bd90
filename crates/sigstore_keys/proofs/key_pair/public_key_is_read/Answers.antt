use Rattle.sigstore_keys.proofs.PublicKeys.{is_read}
use Rattle.sigstore_keys.proofs.key_pair.public_key_is_read.Goals as goal

pub returns : goal.returns
returns c = is_read
