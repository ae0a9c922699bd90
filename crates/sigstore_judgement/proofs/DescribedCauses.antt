-- A refusal of what entries say is of one of them, and has its cause.
use Rattle.std.proofs.Common.{◌≡◌, List, [], ◌∷◌, Result, Ok, Err, refl}
use Rattle.std.specs.Prelude.{⊤, Contains}
use Rattle.foundation.specs.Results.{err_same, refused_at}
use Rattle.sigstore_types.specs.declared.bundle.Bundle.{Bundle}
use Rattle.sigstore_entries.specs.declared.entry.TransparencyLogEntry.{TransparencyLogEntry}
use Rattle.sigstore_binding.specs.declared.error.BindingError.{BindingError}
use Rattle.sigstore_binding.specs.Cause.{BindingCause}
use Rattle.sigstore_binding.specs.Described.{describes_of}
use Rattle.sigstore_binding.specs.Rows.{Signed}
use Rattle.sigstore_binding.specs.Verifier.{Readings, Signatory}
use Rattle.sigstore_binding.proofs.CauseLaw.{refusals_have_causes}
use Rattle.sigstore_judgement.specs.declared.error.Error.{Error}
use Rattle.sigstore_judgement.specs.Artifact.{Artifact, digest_of}
use Rattle.sigstore_judgement.specs.Content.{signed_in}
use Rattle.sigstore_judgement.specs.Entries.{each_described_of, entries_described_of}
use Rattle.sigstore_judgement.specs.Error.{error_of_binding, by_binding}
use Rattle.sigstore_judgement.specs.Grounds.{Grounds, readings_in}
use Rattle.sigstore_judgement.specs.Signer.{Signer, signatory_of}
use Rattle.sigstore_judgement.proofs.EntryCauses.{among_first, among_later}

through_binding : (r : Result ⊤ BindingError) (e : Error) → by_binding r ≡ Err e → (why : BindingError) × (r ≡ Err why) × (error_of_binding why ≡ e)
through_binding (Ok x) e h = cc
through_binding (Err why) e h = (why, refl, err_same (error_of_binding why) e h)

-- one of the entries isn't of the signature
pub record Undescribed (readings : Readings) (who : Signatory) (signed : Signed) (entries : List TransparencyLogEntry) (e : Error) : Type 0 where
  pub entry : TransparencyLogEntry
  pub among : Contains entries entry
  pub why : BindingError
  pub named : error_of_binding why ≡ e
  pub cause : BindingCause readings who signed entry why

each_undescribed : (readings : Readings) (who : Signatory) (signed : Signed) (entries : List TransparencyLogEntry) (e : Error) → each_described_of readings who signed entries ≡ Err e
    → Undescribed readings who signed entries e
each_undescribed readings who signed [] e h = cc
each_undescribed readings who signed (x ∷ xs) e h =
    refused_at (by_binding (describes_of readings who signed x)) (λ _. each_described_of readings who signed xs) e h here
    (λ u p k. later (each_undescribed readings who signed xs e k))
  where
    here : by_binding (describes_of readings who signed x) ≡ Err e → Undescribed readings who signed (x ∷ xs) e
    here r =
        let d = through_binding (describes_of readings who signed x) e r in
        record { entry = x; among = among_first x xs; why = d.0; named = d.2; cause = refusals_have_causes readings who signed x d.0 d.1 }

    later : Undescribed readings who signed xs e → Undescribed readings who signed (x ∷ xs) e
    later u = record { entry = u.entry; among = among_later x xs u.entry u.among; why = u.why; named = u.named; cause = u.cause }

pub entries_undescribed : (grounds : Grounds) (signer : Signer) (bundle : Bundle) (artifact : Artifact) (entries : List TransparencyLogEntry) (e : Error)
    → entries_described_of grounds signer bundle (digest_of artifact) entries ≡ Err e
    → Undescribed (readings_in grounds.crypto) (signatory_of signer) (signed_in bundle.content (digest_of artifact)) entries e
entries_undescribed grounds signer bundle artifact entries e h =
    each_undescribed (readings_in grounds.crypto) (signatory_of signer) (signed_in bundle.content (digest_of artifact)) entries e h
