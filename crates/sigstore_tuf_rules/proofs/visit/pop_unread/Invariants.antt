use Rattle.std.proofs.Common.{◌≡◌, length}
use Rattle.std.specs.Prelude.{reverse}
use Rattle.sigstore_tuf_rules.specs.Order.{unread_of}
use Rattle.sigstore_tuf_rules.proofs.visit.pop_unread.Given as goal

-- those that are left decide
abbrev pub invariant-loop-visit : goal.invariant-loop-visit
invariant-loop-visit l = unread_of l.read (reverse l.pending.items) ≡ unread_of l.read (reverse l.initial.pending.items)

abbrev pub decreases-loop-visit : goal.decreases-loop-visit
decreases-loop-visit l = length l.pending.items
