use Rattle.sigstore_tsa.proofs.TokensLaw.{tokens_exactly, tokens_counted, token_refused}
use Rattle.sigstore_tsa.proofs.laws.tokens_exactly.Goals as goal

pub returns : goal.returns
returns c = record { accepted = tokens_exactly; counted = tokens_counted; refused = token_refused }
