use Rattle.std.proofs.Common.{arith}
use Rattle.std.proofs.lemmas.Grind.{common_steps}
use Rattle.release_gate.proofs.Pieces.{piece_is}
use Rattle.release_gate.proofs.memory_folder.piece_of.Goals as goal

pub returns-clause-piece : goal.returns-clause-piece
returns-clause-piece c =
    piece_is c.args.bytes.now c.copy_from_slice.new.self _ c.args.offset c.min-at.result c.min-count.result (grind (arith, common_steps)) (grind (arith, common_steps)) (grind (arith, common_steps))
    (λ none room. grind (arith, common_steps)) (grind (arith, common_steps))
