use Rattle.std.proofs.Common.{◌≡◌, ◌++◌, map, drop}
use Rattle.sigstore_judgement.specs.Error.{number_of}
use Rattle.release_gate.proofs.judgement.numbers_of.Given as goal

-- the numbers so far, and behind them those of the refusals that are left
abbrev pub invariant-refusals : goal.invariant-refusals
invariant-refusals l = l.numbers ++ map number_of (drop l.e-index l.refusals) ≡ map number_of l.refusals
