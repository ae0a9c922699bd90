-- Each entry of a bundle that is accepted under a policy that verifies the log is logged, and of the bundle's signature.
use Rattle.std.proofs.Common.{◌≡◌, List, Bool, true, false}
use Rattle.std.specs.List.{AllByRecursion}
use Rattle.std.proofs.lemmas.List.Elements.{All-from_recursion, All-contains}
use Rattle.sigstore_types.specs.declared.bundle.Bundle.{Bundle}
use Rattle.sigstore_types.specs.Bundle.{entries_in}
use Rattle.sigstore_entries.specs.declared.entry.TransparencyLogEntry.{TransparencyLogEntry}
use Rattle.sigstore_log.specs.Logged.{Logged}
use Rattle.sigstore_judgement.specs.declared.evidence.Evidence.{Evidence}
use Rattle.sigstore_judgement.specs.Accepts.{AreLogged, Vouches}
use Rattle.sigstore_judgement.specs.Entries.{IsLogged, Describes}
use Rattle.sigstore_judgement.specs.Grounds.{Grounds}
use Rattle.sigstore_policy.specs.Policy.{Meaning, Certificate, PublicKey, asks_log}
use Rattle.sigstore_judgement.specs.Signer.{Signer, Managed, Certified, verifies_log, IsSigner}
use Rattle.sigstore_verify.specs.OnePlace.{Admitted}

asked_of : (policy : Meaning) (bundle : Bundle) (signer : Signer) → IsSigner policy bundle signer → asks_log policy ≡ true → verifies_log signer ≡ true
asked_of (Certificate policy) bundle signer is h = rw is.is h
asked_of (PublicKey policy) bundle signer is h = rw is.is h

each_of : (grounds : Grounds) (signer : Signer) (entries : List TransparencyLogEntry) (asked : Bool) → asked ≡ true → AreLogged grounds signer asked entries
    → AllByRecursion (IsLogged grounds signer) entries
each_of grounds signer entries true h are = are
each_of grounds signer entries false h are = cc

vouched : (grounds : Grounds) (signer : Signer) (bundle : Bundle) (evidence : Evidence) → Vouches grounds signer bundle evidence → verifies_log signer ≡ true
    → AllByRecursion (IsLogged grounds signer) (entries_in bundle)
vouched grounds (Managed policy) bundle evidence v h = each_of grounds (Managed policy) (entries_in bundle) policy.verify_tlog h v.logged
vouched grounds (Certified policy info certificate) bundle evidence v h =
    each_of grounds (Certified policy info certificate) (entries_in bundle) policy.verify_tlog h v.logged

pub logged_in : (x : Admitted) → Logged x.terms.grounds.crypto.accepts x.terms.grounds.material.logs x.terms.grounds.now x.entry
logged_in x =
    let each = vouched x.terms.grounds x.accepts.signer x.bundle x.accepts.evidence x.accepts.vouches
    (asked_of x.terms.policy x.bundle x.accepts.signer x.accepts.is x.verifies) in
    (All-contains (IsLogged x.terms.grounds x.accepts.signer) (entries_in x.bundle) x.entry
    (All-from_recursion (IsLogged x.terms.grounds x.accepts.signer) (entries_in x.bundle) each) x.among).logged

pub described_in : (x : Admitted) → Describes x.terms.grounds x.accepts.signer x.bundle x.artifact x.entry
described_in x =
    All-contains (Describes x.terms.grounds x.accepts.signer x.bundle x.artifact) (entries_in x.bundle) x.entry
    (All-from_recursion (Describes x.terms.grounds x.accepts.signer x.bundle x.artifact) (entries_in x.bundle) x.accepts.described) x.among
