-- What a workload's verifications are over, all of one number.
use Rattle.std.specs.Prelude.{◌≡◌, ℕ, suc, List, [], ◌∷◌, map, Some}
use Rattle.sigstore_merkle.specs.Tree.{leaf_hash}
use Rattle.sigstore_tuf_outside.specs.Memory.{told_folders}
use Rattle.sigstore_types.specs.Written.{bundle_text_of}
use Rattle.workload.specs.Documents.{root_bytes}
use Rattle.workload.specs.Published.{published}
use Rattle.workload.specs.Rows.{document_rows}
use Rattle.workload.specs.Drawn.{drawn_from}
use Rattle.sigstore_merkle.specs.Whole.{Path, IsTree}
use Rattle.workload.specs.Log.{IsLog, bundle_of}
use Rattle.command_generate.specs.Provider.{provider_rows_of, tables_of}
use Rattle.workload.specs.declared.drawn.Drawn.{Drawn}
use Rattle.workload.specs.declared.log.Log.{Log}
use Rattle.command_generate.specs.declared.supplies.Item.{Item}
use Rattle.command_generate.specs.declared.supplies.Supplies.{Supplies}

-- the hashes of the bodies, in their order
abbrev pub leaves_of : List Drawn → List (List ℕ)
leaves_of drawn = map (λ (item : Drawn). leaf_hash item.body) drawn

-- What all items share: the log that has their bodies in one tree, and each item's path.
pub record Plan : Type 0 where
  pub log : Log
  pub paths : List Path

pub record IsPlanOf (count : ℕ) (drawn : List Drawn) (plan : Plan) : Type 0 where
  pub tree : IsTree (leaves_of drawn) plan.log.root plan.paths
  pub log : IsLog count plan.log.root plan.log

abbrev pub IsPlan : ℕ → ℕ → Plan → Type 0
IsPlan number count plan = IsPlanOf count (drawn_from 0 number count) plan

-- an item as it is handed in
abbrev pub item_of : Log → ℕ → Drawn → Path → Item
item_of log index drawn path = record {
  bundle = bundle_text_of (bundle_of log (record { value = index }) drawn path);
  artifact = drawn.artifact;
}

-- items from a place on
abbrev pub items_from : Log → ℕ → List Drawn → List Path → List Item
items_from log index [] paths = []
items_from log index (drawn ∷ more) [] = []
items_from log index (drawn ∷ more) (path ∷ paths) = item_of log index drawn path ∷ items_from log (suc index) more paths

abbrev pub items_of : ℕ → ℕ → Plan → List Item
items_of number count plan = items_from plan.log 0 (drawn_from 0 number count) plan.paths

-- what was drawn is supplied so, and no call of the repository fails
pub record AreSupplies (drawn : List Drawn) (plan : Plan) (supplies : Supplies) : Type 0 where
  pub root : supplies.root ≡ root_bytes
  pub repository : told_folders supplies.repository.metadata supplies.repository.targets supplies.repository.calls.faults
      ≡ record { told = Some published; faults = 0 }
  pub quiet : supplies.repository.calls.failures ≡ []
  pub tables : supplies.tables ≡ tables_of document_rows plan.log drawn
  pub items : supplies.items ≡ items_from plan.log 0 drawn plan.paths

-- by some plan, which the number and the count determine
abbrev pub AreSupplied : ℕ → List Drawn → Supplies → Type 0
AreSupplied count drawn supplies = (plan : Plan) × IsPlanOf count drawn plan × AreSupplies drawn plan supplies
