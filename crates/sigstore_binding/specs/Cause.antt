-- What each refusal of an entry tells, without an order of checks.
use Rattle.std.specs.Prelude.{◌≡◌, false, Contains, Ok, Err}
use Rattle.sigstore_entries.specs.declared.entry.TransparencyLogEntry.{TransparencyLogEntry}
use Rattle.sigstore_rekor_parts.specs.Body.{body_of}
use Rattle.sigstore_rekor_parts.specs.declared.error.Error.{Error as RekorError}
use Rattle.sigstore_rekor_parts.specs.declared.body.RekorEntryBody.{RekorEntryBody}
use Rattle.sigstore_binding.specs.declared.error.BindingError.{BindingError}
use Rattle.sigstore_binding.specs.declared.error.BindingError.TheVariants.{Unsupported, MalformedEntry}
use Rattle.sigstore_binding.specs.Checks.{Check, Fails}
use Rattle.sigstore_binding.specs.Described.{describes_of}
use Rattle.sigstore_binding.specs.Rows.{Signed, has_row, row_of}
use Rattle.sigstore_binding.specs.Verifier.{Readings, Signatory}

-- there is no row for the entry's kind; its body isn't read; or something that its row names isn't read, or is another
pub data BindingCause (readings : Readings) (who : Signatory) (signed : Signed) (entry : TransparencyLogEntry)
    (fault : BindingError) : Type 0 where
  no_row : has_row signed entry.kind_version ≡ false → fault ≡ Unsupported → BindingCause readings who signed entry fault
  body_unread : (e : RekorError) → body_of entry.kind_version entry.canonicalized_body ≡ Err e → fault ≡ MalformedEntry
      → BindingCause readings who signed entry fault
  another : (body : RekorEntryBody) → body_of entry.kind_version entry.canonicalized_body ≡ Ok body → (check : Check)
      → Contains (row_of readings who signed entry.integrated_time body) check → Fails fault check
      → BindingCause readings who signed entry fault

-- each refusal has its cause
abbrev pub RefusalsHaveCauses : Type 0
RefusalsHaveCauses =
    (readings : Readings) (who : Signatory) (signed : Signed) (entry : TransparencyLogEntry) (fault : BindingError)
    → describes_of readings who signed entry ≡ Err fault → BindingCause readings who signed entry fault
