use Rattle.cms.proofs.Read.{signature_of_set}
use Rattle.cms.proofs.laws.signature_is_of_the_set.Goals as goal

pub returns : goal.returns
returns g c = λ b. signature_of_set _ (g.S.CmsSigner.identifier b.signer) (g.S.CmsSigner.signs b.signer) b
