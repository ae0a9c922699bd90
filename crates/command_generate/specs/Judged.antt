-- What a workload's items are judged as, and how many as what.
use Rattle.std.specs.Prelude.{◌≡◌, ◌⊎◌, ℕ, zero, suc, ◌==◌, List, []}
use Rattle.std.specs.Prelude.{◌∷◌, ◌++◌, map, length, count_by, codes, Bool, if◌then◌else◌}
use Rattle.std.specs.Prelude.{Option, Some, None, Result, Ok, Err, ⊤}
use Rattle.std.specs.Fmt.{decimal}
use Rattle.command_files.specs.Printed.{number_line}
use Rattle.command_files.specs.declared.tables.Tables.{Tables}
use Rattle.sigstore_tuf_rules.specs.Config.{default_config}
use Rattle.sigstore_judgement.specs.declared.error.Error.{Error}
use Rattle.sigstore_judgement.specs.declared.report.JudgedBundle.{JudgedBundle}
use Rattle.sigstore_judgement.specs.Error.{number_of, name_of}
use Rattle.sigstore_policy.specs.Policy.{PublicKey}
use Rattle.sigstore_verify.specs.Inputs.{VerifyInputs}
use Rattle.sigstore_verify.specs.declared.from_root.Acceptance.{Acceptance}
use Rattle.sigstore_verify.specs.declared.from_root.RootFault.{RootFault}
use Rattle.sigstore_verify.specs.declared.from_root.RootFault.TheVariants as root
use Rattle.sigstore_verify.specs.Complete.{verdict_of, rooted_of}
use Rattle.workload.specs.Documents.{root_bytes}
use Rattle.workload.specs.Trust.{trust_file}
use Rattle.workload.specs.Published.{chain}
use Rattle.workload.specs.Rows.{document_rows, moment}
use Rattle.workload.specs.Drawn.{drawn_from}
use Rattle.command_generate.specs.Provider.{tables_of}
use Rattle.command_generate.specs.Supplies.{Plan, items_of}
use Rattle.command_files.specs.Tables.{crypto_of}
use Rattle.command_generate.specs.Workload.{policy_of}
use Rattle.command_generate.specs.declared.supplies.Item.{Item}

-- ---- what an item is judged as

-- accepted, or refused by the first check that fails
abbrev pub Outcome : Type 0
Outcome = Result ⊤ Error

abbrev pub outcome_of : Result JudgedBundle Error → Outcome
outcome_of (Ok kept) = Ok tt
outcome_of (Err e) = Err e

-- what the top call is given with an item: the workload's root, tables and policy, the moment at which its documents are fresh, and
-- no more of the artifact than there is
abbrev pub given_with_item : Tables → Item → VerifyInputs
given_with_item tables item = record {
  anchor = record { crypto = crypto_of tables; root = root_bytes; config = default_config; now = moment };
  policy = PublicKey policy_of;
  bundle = item.bundle;
  max = length item.artifact;
}

-- the verdict under the trust file of the workload's repository
abbrev pub judged_as : Tables → Item → Outcome
judged_as tables item = outcome_of (verdict_of (given_with_item tables item) trust_file item.artifact)

-- the top call answers want of memory, or this verdict with the chain that the repository offers
abbrev pub AnswersItem : Tables → Item → Result Acceptance RootFault → Type 0
AnswersItem tables item result =
    (result ≡ Err root.NoMemory) ⊎ (result ≡ rooted_of chain (verdict_of (given_with_item tables item) trust_file item.artifact))

abbrev pub workload_tables : ℕ → ℕ → Plan → Tables
workload_tables number count plan = tables_of document_rows plan.log (drawn_from 0 number count)

-- of each item of a workload, in their order
abbrev pub outcomes_of : ℕ → ℕ → Plan → List Outcome
outcomes_of number count plan = map (judged_as (workload_tables number count plan)) (items_of number count plan)

-- ---- how many

-- the number of a refusal, and 0 for an acceptance
abbrev pub outcome_number : Outcome → ℕ
outcome_number (Ok x) = 0
outcome_number (Err e) = number_of e

abbrev pub has_number : ℕ → Outcome → Bool
has_number number outcome = outcome_number outcome == number

-- how many outcomes have the number
abbrev pub counted_of : ℕ → List Outcome → ℕ
counted_of number outcomes = count_by (has_number number) outcomes

-- the first refusal of the number
abbrev pub first_of : ℕ → List Outcome → Option Error
first_of number [] = None
first_of number (Ok x ∷ outcomes) = first_of number outcomes
first_of number (Err e ∷ outcomes) = if number_of e == number then Some e else first_of number outcomes

-- ---- the summary

abbrev pub counted_line : Error → ℕ → List ℕ
counted_line e count =
    codes "refused verify " ++ (decimal (number_of e) ++ (32 ∷ name_of e ++ (32 ∷ decimal count ++ 10 ∷ [])))

-- a line where a refusal of the number occurred
abbrev pub line_if : Option Error → ℕ → List ℕ
line_if None count = []
line_if (Some e) count = counted_line e count

-- so many numbers in ascending order, from one on
unfoldable pub lines_from : ℕ → ℕ → List Outcome → List ℕ
lines_from number zero outcomes = []
lines_from number (suc more) outcomes =
    line_if (first_of number outcomes) (counted_of number outcomes) ++ lines_from (suc number) more outcomes

-- how many items there are, how many are accepted, and for each refusal that occurred its number, its name and how many
unfoldable pub summary_of : List Outcome → List ℕ
summary_of outcomes =
    number_line (codes "generated") (length outcomes)
    ++ (number_line (codes "accepted") (counted_of 0 outcomes) ++ lines_from 1 32 outcomes)
