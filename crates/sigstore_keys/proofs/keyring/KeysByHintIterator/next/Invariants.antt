use Rattle.std.proofs.Common.{◌≡◌, ◌≤◌, length}
use Rattle.sigstore_keys.specs.Coming.{coming}
use Rattle.sigstore_keys.proofs.keyring.KeysByHintIterator.next.Given as goal

-- no entry that was passed over is meant
abbrev pub invariant-entries : goal.invariant-entries
invariant-entries l = record {
  same : coming l.initial.self ≡ coming l.self;
  shorter : length l.self.entries ≤ length l.initial.self.entries;
}

abbrev pub decreases-entries : goal.decreases-entries
decreases-entries l = length l.self.entries
