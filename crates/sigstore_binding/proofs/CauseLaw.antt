-- Each refusal of an entry has its cause.
use Rattle.std.proofs.Common.{◌≡◌, Bool, true, false, Result, Ok, Err, refl, sym}
use Rattle.foundation.specs.Steps.{◌>>=◌}
use Rattle.foundation.specs.Results.{err_same}
use Rattle.sigstore_entries.specs.declared.entry.TransparencyLogEntry.{TransparencyLogEntry}
use Rattle.sigstore_rekor_parts.specs.Body.{body_of}
use Rattle.sigstore_rekor_parts.specs.declared.error.Error.{Error as RekorError}
use Rattle.sigstore_rekor_parts.specs.declared.body.RekorEntryBody.{RekorEntryBody}
use Rattle.sigstore_binding.specs.declared.error.BindingError.{BindingError}
use Rattle.sigstore_binding.specs.declared.error.BindingError.TheVariants.{Unsupported, MalformedEntry}
use Rattle.sigstore_binding.specs.Cause.{BindingCause, no_row, body_unread, another, RefusalsHaveCauses}
use Rattle.sigstore_binding.specs.Checks.{holds_or, checks_of}
use Rattle.sigstore_binding.specs.Described.{describes_of}
use Rattle.sigstore_binding.specs.Rows.{Signed, has_row, row_of}
use Rattle.sigstore_binding.specs.Verifier.{Readings, Signatory, or_malformed}
use Rattle.sigstore_binding.proofs.Checks.{one_fails}

module _ (readings : Readings) (who : Signatory) (signed : Signed) (entry : TransparencyLogEntry) (fault : BindingError) where
  by_body : (r : Result RekorEntryBody RekorError) → body_of entry.kind_version entry.canonicalized_body ≡ r
      → (or_malformed r >>= λ body. checks_of (row_of readings who signed entry.integrated_time body)) ≡ Err fault → BindingCause readings who signed entry fault
  by_body (Ok body) is h =
      let one = one_fails (row_of readings who signed entry.integrated_time body) fault h in
      another body is one.0 one.1 one.2
  by_body (Err e) is h = body_unread e is (sym (err_same MalformedEntry fault h))

  by_row : (b : Bool) → has_row signed entry.kind_version ≡ b
      → (holds_or Unsupported b >>= λ _. or_malformed (body_of entry.kind_version entry.canonicalized_body) >>= λ body. checks_of (row_of readings who signed entry.integrated_time body)) ≡ Err fault
      → BindingCause readings who signed entry fault
  by_row true is h = by_body (body_of entry.kind_version entry.canonicalized_body) refl h
  by_row false is h = no_row is (sym (err_same Unsupported fault h))

pub refusals_have_causes : RefusalsHaveCauses
unfolding describes_of
refusals_have_causes readings who signed entry fault h = by_row readings who signed entry fault (has_row signed entry.kind_version) refl h
