use Rattle.std.proofs.Common.{◌≡◌, drop}
use Rattle.command_download.specs.Layout.{is_taken}
use Rattle.command_download.proofs.layout.is_taken.Given as goal

abbrev pub invariant-loop-download : goal.invariant-loop-download
invariant-loop-download l = is_taken (drop l.download-index l.downloads) l.out ≡ is_taken l.downloads l.out
