use Rattle.sigstore_tuf_parts.specs.Document.{document_in}
use Rattle.sigstore_tuf_parts.proofs.document.read_frame.Goals as goal

pub returns-clause-ok : goal.returns-clause-ok
unfolding document_in
returns-clause-ok g c = simp (c.in_ok-signed.ensures.ok, c.in_ok-signatures.ensures.ok) c.assembled.ensures.ok

pub returns-clause-err : goal.returns-clause-err
unfolding document_in
returns-clause-err g c = simp (c.in_ok-signed.ensures.ok, c.in_ok-signatures.ensures.ok) c.assembled.ensures.err
