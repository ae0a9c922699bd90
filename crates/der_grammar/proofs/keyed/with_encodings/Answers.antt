use Rattle.std.proofs.Common.{◌∙◌, arith, length}
use Rattle.std.proofs.lemmas.Result.{err_from_is_err_and}
use Rattle.std.proofs.lemmas.Iterator.Consumers.{YieldsList-turn, YieldsList-end}
use Rattle.std.proofs.lemmas.Iterator.Adapters.{YieldsList-from_vec}
use Rattle.std.proofs.lemmas.List.{length_push}
use Rattle.der_grammar.proofs.Members.{begins_keying, keys_one, keying_refused, ends_keying}
use Rattle.der_grammar.proofs.keyed.with_encodings.Goals as goal

pub members-init : goal.members-init
members-init g c = rw c.new-keys.ensures.items (begins_keying g.T.Der.grammar c.args.members.items)

pub returns-in_err-key-clause-err : goal.returns-in_err-key-clause-err
returns-in_err-key-clause-err g c =
    let b = c.into_iter-member-iterator.ensures.into_iter_gives in
    let t = YieldsList-turn (YieldsList-from_vec c.args.members.items b.0 (b.1 ∙ c.args.members.ok.0)) c.members.yielded c.members.member-iterator c.members.yielded_by c.next.result c.next.new.self c.in-Some.member c.in-Some.is c.next.ensures.steps in
    let p = err_from_is_err_and c.from_residual.result c.from_residual.ensures.1 in
    rw (p.1, p.2) (keying_refused c.in_err-key.field-0.0 g.T.Der.grammar c.members.keys.items (length c.members.yielded) c.args.members.items c.in-Some.member t.0 t.1 c.in_err-key.ensures.err c.members.invariant)

pub members-preserved : goal.members-preserved
members-preserved g c =
    let b = c.into_iter-member-iterator.ensures.into_iter_gives in
    let t = YieldsList-turn (YieldsList-from_vec c.args.members.items b.0 (b.1 ∙ c.args.members.ok.0)) c.members.yielded c.members.member-iterator c.members.yielded_by c.next.result c.next.new.self c.in-Some.member c.in-Some.is c.next.ensures.steps in
    rw (c.in_ok-push.ensures.items, length_push c.members.yielded c.in-Some.member)
    (keys_one g.T.Der.grammar c.members.keys.items (length c.members.yielded) c.args.members.items c.in-Some.member c.in_ok-key.key t.0 t.1 c.in_ok-key.ensures.ok c.members.invariant)

pub returns-clause-ok : goal.returns-clause-ok
returns-clause-ok g c =
    let b = c.into_iter-member-iterator.ensures.into_iter_gives in
    let t = YieldsList-end (YieldsList-from_vec c.args.members.items b.0 (b.1 ∙ c.args.members.ok.0)) c.members.yielded c.members.member-iterator c.members.yielded_by c.next.result c.next.new.self c.in-None.is c.next.ensures.steps in
    ends_keying g.T.Der.grammar c.members.keys.items (length c.members.yielded) c.args.members.items (omega (arith, t.1)) c.members.invariant
