use Rattle.given_objects.proofs.Overlaid.{given_same}
use Rattle.given_objects.proofs.store.GivenStore.is_over.Goals as goal

pub returns : goal.returns
returns c = λ e. given_same _ _ (c.are_same.ensures e)
