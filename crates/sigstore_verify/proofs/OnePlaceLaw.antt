-- Two accepted bundles at one place of a log are of one signature and one content, or show a collision.
use Rattle.std.proofs.Common.{◌≡◌, ◌<◌, ◌^◌, ℕ, List, Option, Some, None, sym, ap, ap₂, ◌∙◌, subst}
use Rattle.std.specs.Prelude.{MatchOption}
use Rattle.std.specs.Option.{option_or}
use Rattle.jiff_core.specs.declared.timestamp.Timestamp.{Timestamp}
use Rattle.foundation.specs.Results.{some_same}
use Rattle.sigstore_keys.specs.Good.{Judge}
use Rattle.sigstore_keys.specs.Keyring.{Ring}
use Rattle.sigstore_merkle.specs.Collision.{IsCollision, OneOrCollision}
use Rattle.sigstore_merkle.specs.declared.collision.Inclusion.{Inclusion}
use Rattle.sigstore_entries.specs.declared.entry.TransparencyLogEntry.{TransparencyLogEntry}
use Rattle.sigstore_entries.specs.declared.inclusion_proof.InclusionProof.{InclusionProof}
use Rattle.sigstore_log.specs.Inclusion.{Place}
use Rattle.sigstore_log.specs.Logged.{Logged}
use Rattle.sigstore_log.specs.OnePlace.{inclusion_of}
use Rattle.sigstore_log.proofs.OnePlaceLaw.{one_place_one_body}
use Rattle.sigstore_judgement.specs.Grounds.{readings_in}
use Rattle.sigstore_judgement.specs.Signer.{signatory_of}
use Rattle.sigstore_verify.specs.OnePlace.{place_by, place_in, hashes_in, inclusion_at, OnePlaceOneContent}
use Rattle.sigstore_verify.proofs.Entries.{logged_in, described_in}
use Rattle.sigstore_verify.proofs.OneContent.{contents, typed}

-- the place by which an entry counts as logged is the one that it tells
place_is : (accepts : Judge) (logs : Ring) (now : Timestamp) (entry : TransparencyLogEntry) (l : Logged accepts logs now entry) (place : Place) → place_in entry ≡ Some place
    → l.place ≡ place
place_is accepts logs now entry l place h = some_same _ _ (sym l.place_is ∙ (sym (ap (place_by entry) l.proof_is) ∙ h))

abbrev body_at : TransparencyLogEntry → Place → Option InclusionProof → Inclusion
body_at entry place proof = record { body = entry.canonicalized_body; index = place.index; size = place.size; hashes = hashes_in proof }

inclusion_is : (accepts : Judge) (logs : Ring) (now : Timestamp) (entry : TransparencyLogEntry) (l : Logged accepts logs now entry) (place : Place) → l.place ≡ place
    → inclusion_of entry l ≡ inclusion_at place entry
inclusion_is accepts logs now entry l place h = ap₂ (body_at entry) h (sym l.proof_is)

-- what is shown in the tree, and else what is shown behind it
behind : (o rest : Option (List ℕ × List ℕ)) (C D : Type 0) → MatchOption o C (λ pair. IsCollision pair.0 pair.1)
    → (C → MatchOption rest D (λ pair. IsCollision pair.0 pair.1)) → MatchOption (option_or o rest) D (λ pair. IsCollision pair.0 pair.1)
behind None rest C D shown more = more shown
behind (Some pair) rest C D shown more = shown

pub one_place_one_content : OnePlaceOneContent
one_place_one_content x y place fits one =
    let l = logged_in x in
    let m = logged_in y in
    let at_x = place_is _ _ _ x.entry l place one.one in
    let at_y = place_is _ _ _ y.entry m place one.other in
    let small : l.place.size < 2 ^ 64 = subst (λ (p : Place). p.size < 2 ^ 64) (sym at_x) fits in
    let bodies = one_place_one_body _ _ _ _ _ _ x.entry y.entry l m small (at_x ∙ sym at_y) in
    let shown : OneOrCollision (inclusion_at place x.entry) (inclusion_at place y.entry) =
    subst (λ (i : Inclusion). OneOrCollision i (inclusion_at place y.entry)) (inclusion_is _ _ _ x.entry l place at_x)
    (subst (λ (i : Inclusion). OneOrCollision (inclusion_of x.entry l) i) (inclusion_is _ _ _ y.entry m place at_y) bodies) in
    behind _ _ _ _ shown
    (λ (same : (x.entry.canonicalized_body ≡ y.entry.canonicalized_body) × (hashes_in x.entry.inclusion_proof ≡ hashes_in y.entry.inclusion_proof)).
    contents (readings_in x.terms.grounds.crypto) (readings_in y.terms.grounds.crypto) (signatory_of x.accepts.signer) (signatory_of y.accepts.signer)
    x.bundle.content y.bundle.content x.artifact y.artifact x.entry y.entry (described_in x) (described_in y) one.kind same.0
    (typed x.bundle.content x.accepts.claim x.accepts.claims) (typed y.bundle.content y.accepts.claim y.accepts.claims) one.form)
