use Rattle.std.proofs.Common.{refl}
use Rattle.sigstore_verify.specs.Inputs.{anchor_with}
use Rattle.command_ways.specs.Trust.{file_of}
use Rattle.command_bundles.specs.Judging.{found_as, inputs_with}
use Rattle.command_bundles.proofs.Verdicts.{judged_list}
use Rattle.command_bundles.proofs.judging.judge_under.Goals as goal

pub returns-in-Ok-found : goal.returns-in-Ok-found
returns-in-Ok-found g c = (
  refl,
  judged_list (inputs_with (anchor_with g.C.CryptoProvider g.M.Armor c.args.anchor.now) c.args.asked.now) (file_of c.args.trust) c.in-Ok.verifier.material c.args.told _ _
      (found_as c.in-Ok-found.found) (rw c.file.ensures at c.in-Ok.ensures.kept)
      (rw (c.in-Ok.ensures.provider, c.in-Ok.ensures.armor) at c.in-Ok-found.ensures),
)
