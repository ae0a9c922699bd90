use Rattle.std.proofs.Common.{◌≡◌, [], drop}
use Rattle.command_ways.specs.Digests.{told_from}
use Rattle.command_ways.proofs.digests.told_digests.Given as goal

abbrev pub invariant-words : goal.invariant-words
invariant-words l = told_from [] l.words ≡ told_from l.told (drop l.word-index l.words)
