use Rattle.given_objects.proofs.Overlaid.{over_put, over_tame}
use Rattle.given_objects.specs.Given.{given_files}
use Rattle.given_objects.proofs.store.GivenStore.put.Goals as goal

pub returns-clause-ok : goal.returns-clause-ok
returns-clause-ok c =
    over_put c.insert.result _ _ (given_files c.args.self.now.files.now) _ _ _ _ c.insert.ensures.ok c.in_ok-new.ensures c.in_ok-new-2.ensures

pub invariant_of-self-2 : goal.invariant_of-self-2
invariant_of-self-2 c = record {
  tame = over_tame c.insert.result _ _ (given_files c.args.self.now.files.now) c.args.name.now c.args.bytes.now c.requires c.args.self.now.tame
      (over_put c.insert.result _ _ (given_files c.args.self.now.files.now) _ _ _ _ c.insert.ensures.ok c.in_ok-new.ensures c.in_ok-new-2.ensures) c.insert.ensures.err;
}
