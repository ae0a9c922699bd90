-- What supplies are, by what they were drawn from.
use Rattle.std.proofs.Common.{◌≡◌, ℕ, List, [], length, true, Some, Ok, Err, IfOk, refl, ap, sym, subst, ◌∙◌}
use Rattle.std.specs.Prelude.{Result}
use Rattle.foundation.specs.declared.no_memory.NoMemory.{NoMemory}
use Rattle.command_files.specs.RowLaws.{AddsSignature}
use Rattle.command_files.specs.Tables.{is_armored_by, armor_content, crypto_of}
use Rattle.workload.specs.Keys.{armored_key, spki, raw_key}
use Rattle.workload.specs.Drawn.{drawn_from}
use Rattle.workload.specs.declared.drawn.Drawn.{Drawn}
use Rattle.workload.specs.declared.log.Log.{Log}
use Rattle.workload.specs.Rows.{document_rows}
use Rattle.workload.specs.Law.{SignsDocuments}
use Rattle.base64.proofs.OnLiterals.{base64_on_literals}
use Rattle.workload.proofs.Texts.{armored_text}
use Rattle.command_generate.specs.Provider.{tables_of}
use Rattle.command_generate.specs.Supplies.{AreSupplied}
use Rattle.command_generate.specs.declared.supplies.Supplies.{Supplies}
use Rattle.command_generate.proofs.Adding.{documents_there}
use Rattle.command_generate.proofs.Placing.{drawn_many, whole_many}

pub counted : (number count : ℕ) (result : Result Supplies NoMemory) → IfOk result (AreSupplied count (drawn_from 0 number count))
    → IfOk result (λ supplies. length supplies.items ≡ count)
counted number count (Ok supplies) s =
    let plan = s.0 in
    ap length s.2.items ∙ (whole_many plan.log (drawn_from 0 number count) plan.log.root plan.paths s.1.tree ∙ drawn_many 0 number count)
counted number count (Err e) s = tt

key_armored : is_armored_by (record { keys = []; certificates = [] }) armored_key ≡ true
key_armored = rw armored_text refl

key_held : armor_content [] armored_key ≡ Some spki
unfolding spki raw_key base64_on_literals
key_held = rw armored_text refl

tables_sign : AddsSignature → (log : Log) (drawn : List Drawn) → SignsDocuments (crypto_of (tables_of document_rows log drawn))
tables_sign law log drawn = record {
  rows = documents_there law document_rows log drawn;
  armored = key_armored;
  held = key_held;
}

pub signed : (count : ℕ) (drawn : List Drawn) (result : Result Supplies NoMemory) → AddsSignature → IfOk result (AreSupplied count drawn)
    → IfOk result (λ supplies. SignsDocuments (crypto_of supplies.tables))
signed count drawn (Ok supplies) law s = subst (λ tables. SignsDocuments (crypto_of tables)) (sym s.2.tables) (tables_sign law s.0.log drawn)
signed count drawn (Err e) law s = tt
