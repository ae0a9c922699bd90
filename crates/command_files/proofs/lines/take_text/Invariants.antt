use Rattle.std.proofs.Common.{◌≡◌, length}
use Rattle.std.specs.Str.{IsUtf8}
use Rattle.command_files.specs.Lines.{text_folded_of}
use Rattle.command_files.proofs.lines.take_text.Given as goal

abbrev pub invariant-lines : goal.invariant-lines
invariant-lines g l = record { text : IsUtf8 l.rest; folded : text_folded_of g.S.ByLine.takes l.fn.state l.text ≡ text_folded_of g.S.ByLine.takes l.state l.rest }

abbrev pub decreases-lines : goal.decreases-lines
decreases-lines g l = length l.rest
