-- When an entry is of a signature: the function that gives the first refusal, and the relation without an order.
use Rattle.std.specs.Prelude.{◌≡◌, ◌↔◌, true, Result, Ok, ⊤}
use Rattle.foundation.specs.Steps.{◌>>=◌}
use Rattle.sigstore_entries.specs.declared.entry.TransparencyLogEntry.{TransparencyLogEntry}
use Rattle.sigstore_rekor_parts.specs.Body.{body_of}
use Rattle.sigstore_rekor_parts.specs.declared.body.RekorEntryBody.{RekorEntryBody}
use Rattle.sigstore_binding.specs.declared.error.BindingError.{BindingError}
use Rattle.sigstore_binding.specs.declared.error.BindingError.TheVariants.{Unsupported}
use Rattle.sigstore_binding.specs.Checks.{AllPass, checks_of, holds_or}
use Rattle.sigstore_binding.specs.Rows.{Signed, has_row, row_of}
use Rattle.sigstore_binding.specs.Verifier.{Readings, Signatory, or_malformed}

-- the entry's kind has a row for what was signed; its body is read; and what the row names is compared in its order
unfoldable pub describes_of : Readings → Signatory → Signed → TransparencyLogEntry → Result ⊤ BindingError
describes_of readings who signed entry = do
  _ ← holds_or Unsupported (has_row signed entry.kind_version)
  body ← or_malformed (body_of entry.kind_version entry.canonicalized_body)
  checks_of (row_of readings who signed entry.integrated_time body)

-- the body is read, and everything that its row names is this signature's
pub record Describes (readings : Readings) (who : Signatory) (signed : Signed) (entry : TransparencyLogEntry) : Type 0 where
  pub body : RekorEntryBody
  pub read : body_of entry.kind_version entry.canonicalized_body ≡ Ok body
  pub row : has_row signed entry.kind_version ≡ true
  pub same : AllPass (row_of readings who signed entry.integrated_time body)

-- an entry is of a signature exactly where it describes it
abbrev pub DescribesExactly : Type 0
DescribesExactly =
    (readings : Readings) (who : Signatory) (signed : Signed) (entry : TransparencyLogEntry)
    → (describes_of readings who signed entry ≡ Ok tt) ↔ Describes readings who signed entry
