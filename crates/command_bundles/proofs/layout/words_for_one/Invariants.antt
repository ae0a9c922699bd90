use Rattle.std.proofs.Common.{◌≡◌, [], drop}
use Rattle.command_bundles.specs.Layout.{words_from}
use Rattle.command_bundles.proofs.layout.words_for_one.Given as goal

abbrev pub invariant-words : goal.invariant-words
invariant-words l = words_from [] l.words ≡ words_from l.found (drop l.given-index l.words)
