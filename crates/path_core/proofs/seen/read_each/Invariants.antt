use Rattle.std.proofs.Common.{◌≡◌, take}
use Rattle.path_core.proofs.seen.read_each.Given as goal

abbrev pub invariant-certificates : goal.invariant-certificates
invariant-certificates l = l.seen.items ≡ take l.certificate-index l.certificates
