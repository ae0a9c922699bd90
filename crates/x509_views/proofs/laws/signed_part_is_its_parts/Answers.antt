use Rattle.x509_views.proofs.Made.{extension-facts}
use Rattle.x509_views.proofs.laws.signed_part_is_its_parts.Goals as goal

pub returns : goal.returns
returns c = λ bytes certificate list fits read some. (extension-facts bytes certificate list fits read some).whole
