use Rattle.std.proofs.Common.{◌≡◌, take}
use Rattle.std.specs.Prelude.{filter_map}
use Rattle.foundation.specs.Watched.{IfTold, Since}
use Rattle.release_gate.specs.Lines.{line_of}
use Rattle.release_gate.specs.Walk.{Walked}
use Rattle.release_gate.proofs.walk.judge_each.Given as goal

-- the lines so far are those of the names so far
abbrev pub invariant-names : goal.invariant-names
invariant-names g l =
    let seen = g.D.Folder.seen in
    let judging = g.J.Judge.judging l.judge in
    record {
      since : Since (seen l.fn.folder) (seen l.folder);
      lines : IfTold (seen l.fn.folder).told (λ contents. l.lines ≡ filter_map (line_of (judging contents.files) contents.files) (take l.name-index l.names));
      walked : Walked (g.J.Judge.rests l.judge _ g.D.Folder.gave l.names) l.fn.folder (take l.name-index l.names) l.lines l.folder;
    }
