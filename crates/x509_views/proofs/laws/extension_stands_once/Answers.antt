use Rattle.x509_views.proofs.Made.{extension-facts}
use Rattle.x509_views.proofs.Once.{once}
use Rattle.x509_views.proofs.laws.extension_stands_once.Goals as goal

pub returns : goal.returns
returns c = λ bytes certificate list oid found fits read some found_so. once oid list found (extension-facts bytes certificate list fits read some).list_facts.once found_so
