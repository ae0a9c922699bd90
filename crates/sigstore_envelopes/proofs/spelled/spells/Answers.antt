use Rattle.std.proofs.Common.{sym, ◌∙◌, true, false}
use Rattle.sigstore_envelopes.proofs.Digits.{next_compared, none_left, all_compared}
use Rattle.sigstore_envelopes.proofs.spelled.spells.Goals as goal

pub returns-then-rest-lt2 : goal.returns-then-rest-lt2
returns-then-rest-lt2 c =
    let l = c.octets in
    sym (l.invariant ∙ none_left l.rest.now c.args.octets.now l.octet-index c.octets-test.true c.if-rest-lt2.true)

pub returns-then-not-spells_octet : goal.returns-then-not-spells_octet
returns-then-not-spells_octet c =
    let l = c.octets in
    let parts = c.split_at in
    let differs = sym c.if-not-spells_octet.true ∙ c.spells_octet.ensures in
    sym (l.invariant ∙ next_compared l.rest.now parts.result.0.now parts.result.1.now c.args.octets.now l.octet-index false c.octets-test.true c.if-rest-lt2.false parts.ensures.front parts.ensures.back differs)

pub octets-preserved : goal.octets-preserved
octets-preserved c =
    let l = c.octets in
    let parts = c.split_at in
    let same = sym c.if-not-spells_octet.false ∙ c.spells_octet.ensures in
    l.invariant ∙ next_compared l.rest.now parts.result.0.now parts.result.1.now c.args.octets.now l.octet-index true c.octets-test.true c.if-rest-lt2.false parts.ensures.front parts.ensures.back same

pub returns : goal.returns
returns c = let l = c.octets in c.is_empty.ensures ∙ sym (l.invariant ∙ all_compared l.rest.now c.args.octets.now l.octet-index c.octets-test.false)
