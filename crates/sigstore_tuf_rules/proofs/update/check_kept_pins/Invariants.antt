use Rattle.std.proofs.Common.{◌≡◌}
use Rattle.sigstore_types_parts.specs.Entries.{named}
use Rattle.sigstore_tuf_rules.specs.Update.{kept_pins_in}
use Rattle.sigstore_tuf_rules.proofs.update.check_kept_pins.Given as goal

-- the pins that were seen are kept, so that the answer is that of those that are left
abbrev pub invariant-loop-name : goal.invariant-loop-name
invariant-loop-name l = kept_pins_in l.old l.new ≡ kept_pins_in (named l.name-iterator) l.new
