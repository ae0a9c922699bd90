-- Two accepted bundles at one place of a log (RFC 6962, sections 2.1.1 and 3.2): they are of one signature and one content, or two byte
-- strings with one SHA-256 value can be shown.
use Rattle.std.specs.Prelude.{◌≡◌, ◌<◌, ◌^◌, ℕ, List, [], Contains, bytes_eq, true, if◌then◌else◌, ⊤, Option, Some, None, MatchOption}
use Rattle.std.specs.Option.{option_or}
use Rattle.sigstore_types_parts.specs.declared.hash_algorithm.HashAlgorithm.TheVariants.{Sha2256}
use Rattle.sigstore_merkle.specs.Collision as tree
use Rattle.sigstore_merkle.specs.Collision.{IsCollision}
use Rattle.sigstore_merkle.specs.declared.collision.Inclusion.{Inclusion}
use Rattle.sigstore_entries.specs.declared.entry.TransparencyLogEntry.{TransparencyLogEntry}
use Rattle.sigstore_entries.specs.declared.inclusion_proof.InclusionProof.{InclusionProof}
use Rattle.sigstore_entries.specs.declared.kind_version.KindVersion.{KindVersion}
use Rattle.sigstore_entries.specs.declared.kind_version.KindVersion.TheVariants.{HashedRekordV001, HashedRekordV002}
use Rattle.sigstore_entries.specs.declared.kind_version.KindVersion.TheVariants.{DsseV001, DsseV002, IntotoV002}
use Rattle.sigstore_envelopes.specs.declared.envelope.DsseEnvelope.{DsseEnvelope}
use Rattle.sigstore_envelopes.specs.Encoding.{encoding_of}
use Rattle.sigstore_log.specs.Inclusion.{Place, place_of}
use Rattle.sigstore_types.specs.declared.bundle.Bundle.{Bundle}
use Rattle.sigstore_types.specs.Bundle.{entries_in}
use Rattle.sigstore_types.specs.declared.content.SignatureContent.{SignatureContent}
use Rattle.sigstore_types.specs.declared.content.SignatureContent.TheVariants.{MessageSignature as OfMessage, DsseEnvelope as OfEnvelope}
use Rattle.sigstore_judgement.specs.declared.report.VerificationResult.{VerificationResult}
use Rattle.sigstore_judgement.specs.Accepts.{Accepts}
use Rattle.sigstore_judgement.specs.Artifact.{Artifact, digest_of}
use Rattle.sigstore_judgement.specs.Grounds.{Terms}
use Rattle.sigstore_policy.specs.Policy.{asks_log}

-- ---- an entry at its place

abbrev pub place_by : TransparencyLogEntry → Option InclusionProof → Option Place
place_by entry None = None
place_by entry (Some proof) = place_of entry.kind_version entry proof

-- the place that counts of an entry, where it brings a proof
abbrev pub place_in : TransparencyLogEntry → Option Place
place_in entry = place_by entry entry.inclusion_proof

abbrev pub hashes_in : Option InclusionProof → List (List ℕ)
hashes_in None = []
hashes_in (Some proof) = proof.hashes

-- its body there, with the path that it brings
abbrev pub inclusion_at : Place → TransparencyLogEntry → Inclusion
inclusion_at place entry = record {
  body = entry.canonicalized_body;
  index = place.index;
  size = place.size;
  hashes = hashes_in entry.inclusion_proof;
}

-- ---- what has one SHA-256 value

-- two byte strings, where they differ
abbrev pub differing : List ℕ → List ℕ → Option (List ℕ × List ℕ)
differing x y = if bytes_eq x y then None else Some (x, y)

-- what an entry names of an envelope by its digest: its encoding, or its payload
abbrev pub envelopes_differ : KindVersion → DsseEnvelope → DsseEnvelope → Option (List ℕ × List ℕ)
envelopes_differ HashedRekordV001 d e = None
envelopes_differ HashedRekordV002 d e = differing (encoding_of d) (encoding_of e)
envelopes_differ DsseV001 d e = differing d.payload e.payload
envelopes_differ DsseV002 d e = None
envelopes_differ IntotoV002 d e = differing d.payload e.payload

-- of a message it names the artifact's digest itself
abbrev pub contents_differ : KindVersion → SignatureContent → SignatureContent → Option (List ℕ × List ℕ)
contents_differ kind (OfMessage m) content = None
contents_differ kind (OfEnvelope d) (OfMessage m) = None
contents_differ kind (OfEnvelope d) (OfEnvelope e) = envelopes_differ kind d e

-- Of two entries of one kind at one place, each with the content that its bundle signs: going down both paths from the root the first
-- inputs that differ, else what both name by one digest, where it differs.
abbrev pub collide : Place → TransparencyLogEntry → SignatureContent → TransparencyLogEntry → SignatureContent → Option (List ℕ × List ℕ)
collide place a content b other =
    option_or (tree.collide (inclusion_at place a) (inclusion_at place b)) (contents_differ a.kind_version content other)

-- ---- the law

-- A bundle is accepted of an artifact, whoever decides signatures, whatever is trusted and whenever, under a policy that verifies the log;
-- and this is one of its entries.
pub record Admitted : Type 0 where
  pub terms : Terms
  pub bundle : Bundle
  pub artifact : Artifact
  pub report : VerificationResult
  pub accepts : Accepts terms bundle artifact report
  pub verifies : asks_log terms.policy ≡ true
  pub entry : TransparencyLogEntry
  pub among : Contains (entries_in bundle) entry

-- both sign a message, or both an envelope
abbrev pub IsOneForm : SignatureContent → SignatureContent → Type 0
IsOneForm (OfMessage m) (OfMessage n) = ⊤
IsOneForm (OfEnvelope d) (OfEnvelope e) = ⊤
IsOneForm content other = ⊥

-- both artifacts have this SHA-256 value
abbrev pub HaveDigest : Artifact → Artifact → Type 0
HaveDigest a b = (digest : List ℕ) × (digest_of a Sha2256 ≡ Some digest) × (digest_of b Sha2256 ≡ Some digest)

-- one signature, of artifacts with one SHA-256 value or of one payload
abbrev pub IsSame : SignatureContent → Artifact → SignatureContent → Artifact → Type 0
IsSame (OfMessage m) a (OfMessage n) b = (m.signature ≡ n.signature) × HaveDigest a b
IsSame (OfEnvelope d) a (OfEnvelope e) b = (d.signature.sig ≡ e.signature.sig) × (d.payload ≡ e.payload)
IsSame content a other b = ⊥

-- two entries of one kind at one place, in bundles that both sign a message or both an envelope
pub record IsOnePlace (place : Place) (x y : Admitted) : Type 0 where
  pub kind : x.entry.kind_version ≡ y.entry.kind_version
  pub one : place_in x.entry ≡ Some place
  pub other : place_in y.entry ≡ Some place
  pub form : IsOneForm x.bundle.content y.bundle.content

-- Two bundles that are accepted, with entries of one kind at one place (of a size below 2^64, as all sizes are), are of one signature and
-- one content, or what collides is two different byte strings with one SHA-256 value.
abbrev pub OnePlaceOneContent : Type 0
OnePlaceOneContent = (x y : Admitted) (place : Place) → place.size < 2 ^ 64 → IsOnePlace place x y
    → MatchOption (collide place x.entry x.bundle.content y.entry y.bundle.content)
    (IsSame x.bundle.content x.artifact y.bundle.content y.artifact) (λ pair. IsCollision pair.0 pair.1)
