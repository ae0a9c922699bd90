use Rattle.std.proofs.Common.{arith, ◌∙◌, sym, ap}
use Rattle.log_tiles.specs.Consistency.{with_left, with_right}
use Rattle.log_tiles.proofs.Given.{given_same, given_left, given_right, given_none}
use Rattle.log_tiles.proofs.judge.+roots_of.Goals as goal

pub returns-then-first-second : goal.returns-then-first-second
returns-then-first-second t c =
    c.roots_alike.ensures ∙ sym (given_same _ _ c.args.whole c.args.hashes.now c.args.root.now c.if-first-second.true)

pub returns-in_err-hash : goal.returns-in_err-hash
returns-in_err-hash t c =
    c.from_residual.ensures ∙ sym (given_none _ _ c.args.whole c.args.hashes.now c.args.root.now (omega arith) c.in_err-hash.ensures.cases)

pub returns-then-part-first : goal.returns-then-part-first
returns-then-part-first t c =
    c.with_left.ensures
    ∙ (ap (with_left c.in_ok-hash.hash.now) c.roots_of.ensures
    ∙ given_left _ _ _ c.args.whole c.args.hashes.now _ _ c.args.root.now c.split-part.ensures.value (omega arith) c.if-part-first.true
    c.in_ok-hash.ensures.cases.0)

pub returns-else-part-first : goal.returns-else-part-first
returns-else-part-first t c =
    c.with_right.ensures
    ∙ (ap (with_right c.in_ok-hash.hash.now) c.roots_of-else-part-first.ensures
    ∙ given_right _ _ _ c.args.whole c.args.hashes.now _ _ c.args.root.now c.split-part.ensures.value (omega arith) c.if-part-first.false
    c.in_ok-hash.ensures.cases.0)
