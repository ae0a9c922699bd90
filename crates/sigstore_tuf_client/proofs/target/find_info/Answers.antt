use Rattle.std.proofs.Common.{refl, ap, Ok, Err}
use Rattle.sigstore_tuf_runs.specs.Search.{unfound, uncopied, given}
use Rattle.sigstore_tuf_client.proofs.target.find_info.Goals as goal

pub returns-in-Ok-copied_entry : goal.returns-in-Ok-copied_entry
returns-in-Ok-copied_entry g c = given _ c.in-Ok.ensures (ap Ok (rw c.as_slice.ensures at c.in-Ok-copied_entry.ensures))

pub returns-in-Ok : goal.returns-in-Ok
returns-in-Ok g c = uncopied _ c.in-Ok.ensures (ap Err c.from.ensures)

pub returns : goal.returns
returns g c = unfound _ c.in-Err.ensures refl
