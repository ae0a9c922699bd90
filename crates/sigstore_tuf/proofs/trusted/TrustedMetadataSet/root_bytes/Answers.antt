use Rattle.std.proofs.Common.{Some, ap, sym, ◌∙◌}
use Rattle.std.specs.Prelude.{option_copied}
use Rattle.sigstore_tuf_rules.proofs.TakenIn.{slice_last}
use Rattle.sigstore_tuf.proofs.trusted.TrustedMetadataSet.root_bytes.Goals as goal

pub returns-in-Some : goal.returns-in-Some
returns-in-Some g c =
    rw (sym c.self.view_is) (ap Some c.as_bytes.ensures ∙ sym (ap option_copied c.in-Some.is) ∙ rw c.as_slice.ensures at c.last.ensures.value ∙ slice_last c.self.inside.documents.roots)
