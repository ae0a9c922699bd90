-- The table of the signatures of a workload that are good.
use Rattle.std.specs.Prelude.{ℕ, List, [], ◌∷◌, codes, if◌then◌else◌}
use Rattle.sha2.specs.Sha256.{sha256}
use Rattle.sigstore_keys.specs.declared.scheme.SigningScheme.TheVariants.{EcdsaP256Sha256}
use Rattle.command_files.specs.Rows.{AcceptRows, with_accept_row}
use Rattle.command_files.specs.declared.rows.AcceptRow.{AcceptRow}
use Rattle.command_files.specs.declared.tables.Tables.{Tables}
use Rattle.workload.specs.Keys.{raw_key}
use Rattle.workload.specs.Numbers.{has_row}
use Rattle.workload.specs.Log.{signed_text_of}
use Rattle.workload.specs.declared.drawn.Drawn.{Drawn}
use Rattle.workload.specs.declared.log.Log.{Log}

-- a signature over a SHA-256 value, by the one key of the workload
abbrev pub row_of : List ℕ → List ℕ → AcceptRow
row_of subject signature = record { scheme = EcdsaP256Sha256; key = raw_key; subject = subject; signature = signature }

-- rows in their order
abbrev pub rows_with : AcceptRows → List AcceptRow → AcceptRows
rows_with rows [] = rows
rows_with rows (row ∷ more) = rows_with (with_accept_row rows row) more

-- the log's signature over its checkpoint
abbrev pub checkpoint_row_of : Log → AcceptRow
checkpoint_row_of log = row_of (sha256 (signed_text_of log.size log.root)) (codes "c")

-- an item's signature, where it is good
abbrev pub row_added : AcceptRows → Drawn → AcceptRows
row_added rows drawn = if has_row drawn.kind then with_accept_row rows (row_of drawn.subject drawn.signature) else rows

abbrev pub rows_added : AcceptRows → List Drawn → AcceptRows
rows_added rows [] = rows
rows_added rows (drawn ∷ items) = rows_added (row_added rows drawn) items

-- those of the documents, the log's, and the items'
abbrev pub provider_rows_of : List AcceptRow → Log → List Drawn → AcceptRows
provider_rows_of documents log items = rows_added (with_accept_row (rows_with [] documents) (checkpoint_row_of log)) items

-- no text is armoured but by its form
abbrev pub tables_of : List AcceptRow → Log → List Drawn → Tables
tables_of documents log items = record {
  provider = record { rows = provider_rows_of documents log items };
  armor = record { keys = []; certificates = [] };
}
