use Rattle.std.proofs.Common.{◌≡◌, ◌≤◌, ◌-◌, length, take}
use Rattle.std.specs.Io.KnownBytes.{append_known}
use Rattle.command_files.proofs.writing.write_all.Given as goal

abbrev pub invariant-pieces : goal.invariant-pieces
invariant-pieces g l =
    let seen = g.K.Sink.seen in
    record { within : l.at ≤ length l.text; later : (seen l.fn.out).faults ≤ (seen l.out).faults; taken : (seen l.out).told ≡ append_known (seen l.fn.out).told (take l.at l.text) }

abbrev pub decreases-pieces : goal.decreases-pieces
decreases-pieces g l = length l.text - l.at
