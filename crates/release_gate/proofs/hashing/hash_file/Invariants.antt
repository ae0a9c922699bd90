use Rattle.std.proofs.Common.{List, ℕ, length}
use Rattle.foundation.specs.Watched.{Since}
use Rattle.sigstore_keys.proofs.SoFar.{SoFar}
use Rattle.release_gate.specs.Folder.{source_of}
use Rattle.release_gate.specs.Given.{Gives}
use Rattle.release_gate.proofs.hashing.hash_file.Given as goal

abbrev pub invariant-pieces : goal.invariant-pieces
invariant-pieces g l =
    let seen = g.D.Folder.seen in
    record {
      since : Since (seen l.fn.folder) (seen l.folder);
      bytes : List ℕ;
      taken : SoFar g.H.HashUpdate.grows (source_of (seen l.fn.folder) l.name 0) (source_of (seen l.folder) l.name (length bytes)) l.fn.hashers l.hashers l.max l.left bytes;
      gives : Gives g.D.Folder.gave l.name l.fn.folder bytes l.folder;
    }

abbrev pub decreases-pieces : goal.decreases-pieces
decreases-pieces g l = l.left
