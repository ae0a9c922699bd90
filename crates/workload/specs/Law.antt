-- That the fixed repository offers its chain, whoever judges signatures, as long as he accepts those of the documents.
use Rattle.std.specs.Prelude.{◌≡◌, true, Some}
use Rattle.std.specs.List.{AllByRecursion}
use Rattle.sigstore_keys.specs.Crypto.{Crypto}
use Rattle.sigstore_tuf_rules.specs.Config.{default_config}
use Rattle.sigstore_tuf_offers.specs.Offer.{Offers}
use Rattle.command_files.specs.declared.rows.AcceptRow.{AcceptRow}
use Rattle.workload.specs.Keys.{armored_key, spki}
use Rattle.workload.specs.Documents.{root_bytes}
use Rattle.workload.specs.Rows.{document_rows, moment}
use Rattle.workload.specs.Published.{published, trust_name, chain}

-- the signature is good
abbrev pub IsAccepted : Crypto → AcceptRow → Type 0
IsAccepted crypto row = crypto.accepts row.scheme row.key row.subject row.signature ≡ true

-- the documents' signatures are good, and the declared key's text holds the key
pub record SignsDocuments (crypto : Crypto) : Type 0 where
  pub rows : AllByRecursion (IsAccepted crypto) document_rows
  pub armored : crypto.armored armored_key ≡ true
  pub held : crypto.key_in armored_key ≡ Some spki

abbrev pub RepositoryOffers : Type 0
RepositoryOffers = (crypto : Crypto) → SignsDocuments crypto → Offers crypto published root_bytes moment default_config trust_name chain
