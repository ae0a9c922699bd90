use Rattle.std.proofs.Common.{refl}
use Rattle.sigstore_tuf_client.proofs.search.advance.Goals as goal

pub returns-in-Ok-push_next-clause-ok : goal.returns-in-Ok-push_next-clause-ok
returns-in-Ok-push_next-clause-ok c = λ snapshot at allowed.
    (record { walk = c.make_visit.new.walk; next = c.in-Ok.next }, c.in-Ok.ensures.ok snapshot at allowed, refl, c.in-Ok-push_next.ensures)
