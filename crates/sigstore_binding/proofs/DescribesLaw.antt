-- An entry is of a signature exactly where it describes it.
use Rattle.std.proofs.Common.{◌≡◌, Result, Ok, Err, ap, ◌∙◌}
use Rattle.std.specs.Prelude.{⊤}
use Rattle.foundation.specs.Steps.{◌>>=◌}
use Rattle.foundation.specs.Results.{step_ok}
use Rattle.sigstore_entries.specs.declared.entry.TransparencyLogEntry.{TransparencyLogEntry}
use Rattle.sigstore_rekor_parts.specs.Body.{body_of}
use Rattle.sigstore_rekor_parts.specs.declared.error.Error.{Error as RekorError}
use Rattle.sigstore_rekor_parts.specs.declared.body.RekorEntryBody.{RekorEntryBody}
use Rattle.sigstore_binding.specs.declared.error.BindingError.{BindingError}
use Rattle.sigstore_binding.specs.declared.error.BindingError.TheVariants.{Unsupported}
use Rattle.sigstore_binding.specs.Checks.{holds_or, checks_of}
use Rattle.sigstore_binding.specs.Described.{describes_of, Describes, DescribesExactly}
use Rattle.sigstore_binding.specs.Rows.{Signed, has_row, row_of}
use Rattle.sigstore_binding.specs.Verifier.{Readings, Signatory, or_malformed}
use Rattle.sigstore_binding.proofs.Checks.{holds_there, all_pass, pass_all}

read_so : (r : Result RekorEntryBody RekorError) (body : RekorEntryBody) → or_malformed r ≡ Ok body → r ≡ Ok body
read_so (Ok x) body h = cc
read_so (Err e) body h = cc

module _ (readings : Readings) (who : Signatory) (signed : Signed) (entry : TransparencyLogEntry) where
  abbrev after_body : RekorEntryBody → Result ⊤ BindingError
  after_body body = checks_of (row_of readings who signed entry.integrated_time body)

  abbrev after_row : ⊤ → Result ⊤ BindingError
  after_row u = or_malformed (body_of entry.kind_version entry.canonicalized_body) >>= after_body

  means : describes_of readings who signed entry ≡ Ok tt → Describes readings who signed entry
  unfolding describes_of
  means h =
      let a = step_ok (holds_or Unsupported (has_row signed entry.kind_version)) after_row tt h in
      let b = step_ok (or_malformed (body_of entry.kind_version entry.canonicalized_body)) after_body tt a.2 in
      record {
        body = b.0;
        read = read_so (body_of entry.kind_version entry.canonicalized_body) b.0 b.1;
        row = holds_there Unsupported (has_row signed entry.kind_version) a.0 a.1;
        same = all_pass (row_of readings who signed entry.integrated_time b.0) tt b.2;
      }

  accepts : Describes readings who signed entry → describes_of readings who signed entry ≡ Ok tt
  unfolding describes_of
  accepts d =
      ap (λ b. holds_or Unsupported b >>= after_row) d.row
      ∙ ap (λ r. or_malformed r >>= after_body) d.read
      ∙ pass_all (row_of readings who signed entry.integrated_time d.body) d.same

pub describes_exactly : DescribesExactly
describes_exactly readings who signed entry = (means readings who signed entry, accepts readings who signed entry)
