use Rattle.std.proofs.Common.{ap, sym, ◌∙◌, ◌∷◌, slice_index}
use Rattle.std.proofs.lemmas.Bool.{ne_eqb}
use Rattle.sigstore_pem.specs.Pem.{is_line_end, lines_of}
use Rattle.sigstore_pem.proofs.LineFacts.{behind_return, behind_other}
use Rattle.sigstore_pem.proofs.lines.behind_end.Goals as goal

pub returns-then-byte-eq13-clause-end : goal.returns-then-byte-eq13-clause-end
returns-then-byte-eq13-clause-end c =
    let rest = c.in-Some.rest.now in
    λ _. ap lines_of c.in-Some.ensures.cases.0 ∙ ap (λ b. lines_of (b ∷ rest)) c.if-byte-eq13.true
    ∙ behind_return rest c.behind_feed.result.now c.behind_feed.ensures.feed c.behind_feed.ensures.other

pub returns-else-byte-eq13-clause-end : goal.returns-else-byte-eq13-clause-end
returns-else-byte-eq13-clause-end c =
    let byte = c.in-Some.byte.now in
    let e = c.in-Some.ensures.cases.0 in
    λ h. ap lines_of e ∙ behind_other byte c.in-Some.rest.now (ap (λ x. is_line_end (slice_index x 0)) (sym e) ∙ h) (ne_eqb byte 13 c.if-byte-eq13.false)
