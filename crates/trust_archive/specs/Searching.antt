-- How far the visits are, as the code has it.
use Rattle.std.specs.Prelude.{reverse}
use Rattle.sigstore_tuf_rules.specs.declared.documents.InForce.{InForce}
use Rattle.trust_archive.specs.declared.roles.Search.{Search}
use Rattle.trust_archive.specs.Judgement.{Going}

abbrev pub going_of : InForce → Search → Going
going_of set search = record { set = set; pending = reverse search.pending.items; read = search.read; left = search.left }
