use Rattle.std.proofs.Common.{ap, ◌∙◌, ◌∷◌}
use Rattle.sigstore_pem.specs.Pem.{lines_of}
use Rattle.sigstore_pem.proofs.LineFacts.{at_feed}
use Rattle.sigstore_pem.proofs.lines.behind_feed.Goals as goal

pub returns-then-byte-eq10-clause-feed : goal.returns-then-byte-eq10-clause-feed
returns-then-byte-eq10-clause-feed c =
    let rest = c.in-Some.rest.now in
    λ _. ap lines_of c.in-Some.ensures.cases.0 ∙ ap (λ b. lines_of (b ∷ rest)) c.if-byte-eq10.true ∙ at_feed rest
