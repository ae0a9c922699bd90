use Rattle.std.proofs.Common.{◌≡◌, length}
use Rattle.sigstore_tuf_text.specs.Pattern.{is_member}
use Rattle.sigstore_tuf_text.proofs.class.is_member.Given as goal

abbrev pub invariant-members : goal.invariant-members
invariant-members l = is_member l.rest l.c ≡ is_member l.fn.members l.c

abbrev pub decreases-members : goal.decreases-members
decreases-members l = length l.rest
