-- A workload: what is verified, and under which policy.
use Rattle.std.specs.Prelude.{◌≡◌, ℕ, List, [], Some}
use Rattle.sigstore_tuf_outside.specs.Memory.{told_folders}
use Rattle.sigstore_policy.specs.PublicKey.{keyed}
use Rattle.sigstore_policy.specs.declared.public_key.PublicKeyVerificationPolicy.{PublicKeyVerificationPolicy}
use Rattle.command_files.specs.declared.tables.Tables.{Tables}
use Rattle.workload.specs.Keys.{spki}
use Rattle.workload.specs.Drawn.{drawn_from}
use Rattle.workload.specs.declared.drawn.Drawn.{Drawn}
use Rattle.workload.specs.Documents.{root_bytes}
use Rattle.workload.specs.Published.{published}
use Rattle.workload.specs.Rows.{document_rows}
use Rattle.command_generate.specs.Provider.{tables_of}
use Rattle.command_generate.specs.Supplies.{Plan, IsPlan, items_from}
use Rattle.command_generate.specs.declared.generating.Workload.{Workload}

-- the one key has signed, and the log has to show it
abbrev pub policy_of : PublicKeyVerificationPolicy
policy_of = keyed spki

-- its tables
abbrev pub tables_in : Workload → Tables
tables_in workload = record { provider = workload.provider; armor = workload.armor }

-- the workload of what was drawn; no call of its repository fails
pub record IsWorkloadOf (drawn : List Drawn) (plan : Plan) (workload : Workload) : Type 0 where
  pub root : workload.root ≡ root_bytes
  pub repository : told_folders workload.repository.metadata workload.repository.targets workload.repository.calls.faults
      ≡ record { told = Some published; faults = 0 }
  pub quiet : workload.repository.calls.failures ≡ []
  pub tables : tables_in workload ≡ tables_of document_rows plan.log drawn
  pub policy : workload.policy ≡ policy_of
  pub items : workload.items ≡ items_from plan.log 0 drawn plan.paths

-- the workload of a number, by some plan, which the number and the count determine
abbrev pub IsWorkload : ℕ → ℕ → Workload → Type 0
IsWorkload number count workload =
    (plan : Plan) × IsPlan number count plan × IsWorkloadOf (drawn_from 0 number count) plan workload
