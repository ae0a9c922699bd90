use Rattle.std.proofs.Common.{◌≡◌, ◌∙◌, sym, ap, length}
use Rattle.std.proofs.lemmas.Bool.{false≢true}
use Rattle.log_tiles.proofs.Nodes.{nodes_collide}
use Rattle.log_tiles.proofs.grown.over_same.Goals as goal

pub returns : goal.returns
returns c =
    let one = ap length c.as_array.ensures in
    let other = ap length c.as_array-2.ensures in
    let lengths : length c.args.left.now ≡ length c.args.other_left.now = sym one ∙ (c.count.ensures ∙ (sym c.count-2.ensures ∙ other)) in
    rw (c.copied.ensures, c.copied-2.ensures, c.copied-3.ensures, c.copied-4.ensures)
    (nodes_collide _ _ _ _ lengths (λ same. absurd (false≢true (sym c.if-are_same.false ∙ c.are_same.ensures.1 same))) c.requires)
