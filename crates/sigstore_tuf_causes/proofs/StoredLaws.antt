-- What a store can put in force is signed, and what it can give is listed.
use Rattle.std.proofs.Common.{◌≡◌, ℕ, List, Bool, true, false, Option, Some, None, Result, Ok, Err, sym, subst}
use Rattle.std.specs.Prelude.{⊤}
use Rattle.jiff_core.specs.declared.timestamp.Timestamp as jiff
use Rattle.foundation.specs.Results.{no_both}
use Rattle.sigstore_keys.specs.Crypto.{Crypto}
use Rattle.sigstore_tuf_text.specs.declared.error.Error.{Error}
use Rattle.sigstore_tuf_parts.proofs.IntegrityLaws.{integrity_exactly}
use Rattle.sigstore_tuf_rules.specs.declared.kind.Kind.{Kind}
use Rattle.sigstore_tuf_rules.specs.declared.kind.Kind.TheVariants.{Root, Timestamp, Snapshot, Targets}
use Rattle.sigstore_tuf_parts.specs.declared.targets.TargetFile.{TargetFile}
use Rattle.sigstore_tuf_rules.specs.Documents.{timestamp_document, snapshot_document, targets_document}
use Rattle.sigstore_tuf_runs.specs.State.{State}
use Rattle.sigstore_tuf_rules.specs.Names.{kept_name, kept_target}
use Rattle.sigstore_tuf_runs.specs.Adopt.{LoadsNamed, unloaded, unkept, unseeded, equal, seeded}
use Rattle.sigstore_tuf_runs.specs.Target.{if_pinned, recalled_of, file_of}
use Rattle.sigstore_tuf_causes.specs.Laws.{IsSignedAs, SeedsAreSigned, RecallsArePinned}
use Rattle.sigstore_tuf_causes.proofs.Carrying.{loaded_had}
use Rattle.sigstore_tuf_rules.proofs.Updates.{Puts, judged_puts, bytes_put}
use Rattle.sigstore_tuf_runs.proofs.Steps.{not_passed}
use Rattle.sigstore_tuf_causes.proofs.Searching.{recalled_there}

-- the file that a load gave, where it is the entry's
pub recalled_some : (entry : TargetFile) (loaded : Result (Option (List ℕ)) Error) (bytes : List ℕ) → Ok (Some bytes) ≡ recalled_of entry loaded → loaded ≡ Ok (Some bytes)
recalled_some entry (Ok None) bytes h = cc
recalled_some entry (Ok (Some x)) bytes h = by_file (file_of entry x) h
  where
    by_file : (r : Result ⊤ Error) → ◌≡◌ {A = Result (Option (List ℕ)) Error} (Ok (Some bytes)) (Ok (if_pinned x r)) → ◌≡◌ {A = Result (Option (List ℕ)) Error} (Ok (Some x)) (Ok (Some bytes))
    by_file (Ok y) h = sym h
    by_file (Err e) h = cc
recalled_some entry (Err e) bytes h = cc

not_false : {C : Type 0} → ◌≡◌ {A = Result Bool Error} (Ok true) (Ok false) → C
not_false h = cc

put_signed : (crypto : Crypto) (k : Kind) (now : Option jiff.Timestamp) (old new : State) (bytes : List ℕ) → Puts crypto old.documents bytes k now new.documents → IsSignedAs crypto old.documents.root k bytes
put_signed crypto (Root number) now old new bytes p = record { doc = p.doc; read = p.read; next = p.next }
put_signed crypto Timestamp now old new bytes p = record { doc = p.held.document; read = subst (λ b. timestamp_document b ≡ Ok p.held.document) p.bytes_is p.signed.read; met = p.signed.met }
put_signed crypto Snapshot now old new bytes p = record { doc = p.held.document; read = subst (λ b. snapshot_document b ≡ Ok p.held.document) p.bytes_is p.signed.read; met = p.signed.met }
put_signed crypto Targets now old new bytes p = record { doc = p.held.document; read = subst (λ b. targets_document b ≡ Ok p.held.document) p.bytes_is p.signed.read; met = p.signed.met }

pub seeds_signed : SeedsAreSigned
seeds_signed crypto k now old new (unloaded e l u r) = no_both true e r
seeds_signed crypto k now old new (unkept l u r) = not_false r
seeds_signed crypto k now old new (unseeded bytes e l j u r) = not_passed e r
seeds_signed crypto k now old new (equal bytes l j u r) = not_false r
seeds_signed crypto k now old new (seeded bytes l j s r) =
    let p = judged_puts crypto old.documents bytes k now new.documents j in
    record {
      bytes = bytes;
      kept = loaded_had (kept_name k) old.store new.store bytes l;
      in_force = bytes_put crypto old.documents new.documents bytes k now p;
      signed = put_signed crypto k now old new bytes p;
    }

pub recalls_pinned : RecallsArePinned
recalls_pinned entry path old new bytes r =
    let loads = subst (λ l. LoadsNamed (kept_target path) old new l) (recalled_some entry r.loaded bytes r.result_is) r.loads in
    record {
      kept = loaded_had (kept_target path) old new bytes loads;
      pinned = (integrity_exactly (Some entry.length) (Some entry.hashes) bytes).0 (recalled_there entry bytes r.loaded r.result_is);
    }
