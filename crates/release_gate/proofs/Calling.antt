-- A listing, as a call with its answer.
use Rattle.std.proofs.Common.{List, ℕ, Result, Ok, Err}
use Rattle.foundation.specs.Watched.{Watched}
use Rattle.release_gate.specs.declared.folder.FolderFault.{FolderFault}
use Rattle.release_gate.specs.Folder.{Contents, Lists, Answers, listing_asked}

pub lists_answers : (V : Type 0) (items : V → List (List ℕ)) (old new : Watched Contents) (result : Result V FolderFault) → Lists items old new result
    → Answers old (listing_asked items result) new
lists_answers V items old new (Ok names) l = record { since = l.since; given = l.given; refused = tt }
lists_answers V items old new (Err e) l = record { since = l.since; given = tt; refused = l.refused }
