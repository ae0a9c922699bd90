use Rattle.std.proofs.Common.{◌≡◌, map, take}
use Rattle.sigstore_tuf_runs.specs.Chain.{role_doc_in}
use Rattle.sigstore_tuf_client.proofs.target.role_docs.Given as goal

-- those that were seen have their documents
abbrev pub invariant-loop-visit : goal.invariant-loop-visit
invariant-loop-visit l = l.docs ≡ map (role_doc_in l.documents) (take l.visit-index l.visits)
