use Rattle.sigstore_tsa_parts.proofs.NoBothLaw.{no_both}
use Rattle.sigstore_tsa_parts.proofs.laws.response_is_no_content_info.Goals as goal

pub returns : goal.returns
returns c = no_both
