use Rattle.std.proofs.Common.{◌∙◌}
use Rattle.std.proofs.lemmas.Result.{IfErr-weaker}
use Rattle.der_grammar.proofs.Placing.{put_is, put_as, keeps_set}
use Rattle.der_grammar.proofs.set.SetOfVec.insert.Goals as goal

pub invariant_of-self : goal.invariant_of-self
invariant_of-self g c = keeps_set c.put_in.result g.T.Der.grammar c.args.member c.self.inside.members.items c.put_in.new.members.items c.self.invariant c.put_in.ensures.ok c.put_in.ensures.same

pub returns-clause-ok : goal.returns-clause-ok
returns-clause-ok g c = rw (← c.self.view_is) (put_as c.put_in.result g.T.Der.grammar c.args.member c.self.inside.members.items c.put_in.new.members.items c.self.invariant c.put_in.ensures.ok)

pub returns-clause-err : goal.returns-clause-err
returns-clause-err g c = rw (← c.self.view_is) (IfErr-weaker c.put_in.result _ _ (λ e h other. put_is g.T.Der.grammar c.args.member c.self.inside.members.items c.self.invariant ∙ h other) c.put_in.ensures.err)
