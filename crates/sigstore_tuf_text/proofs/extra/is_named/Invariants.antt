use Rattle.std.proofs.Common.{◌≡◌, drop}
use Rattle.sigstore_tuf_text.specs.Others.{is_named}
use Rattle.sigstore_tuf_text.proofs.extra.is_named.Given as goal

-- no member that was seen has the name
abbrev pub invariant-loop-member : goal.invariant-loop-member
invariant-loop-member l = is_named l.known l.name ≡ is_named (drop l.member-index l.known) l.name
