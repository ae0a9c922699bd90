use Rattle.std.proofs.Common.{◌∙◌, sym, ap, ◌<◌, length, arith}
use Rattle.std.specs.List.{list_any}
use Rattle.sigstore_tuf_outside.specs.Store.{components, is_parent}
use Rattle.sigstore_tuf_outside.proofs.Components.{first_is, none_is, later_is}
use Rattle.sigstore_tuf_outside.proofs.name.has_parent.Goals as goal

pub returns-then-is_parent : goal.returns-then-is_parent
returns-then-is_parent c =
    sym (c.loop-rest.invariant ∙ first_is c.loop-rest.rest.now c.first_len-len.result c.first_len-len.ensures.len (ap is_parent (sym c.split_at.ensures.front) ∙ sym c.is_parent.ensures ∙ c.if-is_parent.true))

pub returns-then-len-rest : goal.returns-then-len-rest
returns-then-len-rest c =
    sym (c.loop-rest.invariant ∙ none_is c.loop-rest.rest.now c.first_len-len.result c.first_len-len.ensures.len c.if-len-rest.true (ap is_parent (sym c.split_at.ensures.front) ∙ sym c.is_parent.ensures ∙ c.if-is_parent.false))

pub loop-rest-preserved : goal.loop-rest-preserved
loop-rest-preserved c =
    let more : c.first_len-len.result < length c.loop-rest.rest.now = omega (arith, c.first_len-len.ensures.within, c.if-len-rest.false) in
    c.loop-rest.invariant
    ∙ later_is c.loop-rest.rest.now c.first_len-len.result c.first_len-len.ensures.len more (ap is_parent (sym c.split_at.ensures.front) ∙ sym c.is_parent.ensures ∙ c.if-is_parent.false)
    ∙ ap (λ rest. list_any is_parent (components rest)) (sym c.split_at-in-loop-rest.ensures.back)
