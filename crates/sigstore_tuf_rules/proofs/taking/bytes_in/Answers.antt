use Rattle.std.proofs.Common.{Some, ap, sym, ◌∙◌}
use Rattle.std.specs.Prelude.{option_copied}
use Rattle.sigstore_tuf_rules.specs.Taking.{bytes_in}
use Rattle.sigstore_tuf_rules.proofs.TakenIn.{slice_last}
use Rattle.sigstore_tuf_rules.proofs.taking.bytes_in.Goals as goal

pub returns-in-Some : goal.returns-in-Some
returns-in-Some c =
    ap Some c.as_bytes.ensures ∙ sym (ap option_copied c.in-Some.is) ∙ rw c.as_slice.ensures at c.last.ensures.value
    ∙ slice_last c.args.documents.now.roots ∙ ap (λ k. bytes_in k c.args.documents.now) (sym c.in-Root.is)
