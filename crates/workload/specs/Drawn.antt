-- What is known of an item before the log has all bodies.
use Rattle.std.specs.Prelude.{ℕ, zero, suc, List, [], ◌∷◌, ◌++◌, codes, Some}
use Rattle.sha2.specs.Sha256.{sha256}
use Rattle.sigstore_types_parts.specs.declared.hash_algorithm.HashAlgorithm.TheVariants.{Sha2256}
use Rattle.sigstore_envelopes.specs.declared.envelope.DsseEnvelope.{DsseEnvelope}
use Rattle.sigstore_envelopes.specs.Encoding.{encoding_of}
use Rattle.sigstore_types.specs.declared.content.SignatureContent.{SignatureContent}
use Rattle.sigstore_types.specs.declared.content.SignatureContent.TheVariants.{MessageSignature as Signed, DsseEnvelope as Enveloped}
use Rattle.workload.specs.Numbers.{next_number, kind_of}
use Rattle.workload.specs.Texts.{artifact_of, signature_of, statement_of, body_of}
use Rattle.workload.specs.declared.kind.Kind.{Kind}
use Rattle.workload.specs.declared.kind.Kind.TheVariants.{Message, Envelope, OtherArtifact, BadSignature}
use Rattle.workload.specs.declared.drawn.Drawn.{Drawn}

-- ---- what is signed

-- a message of that SHA-256 value
abbrev pub message_of : List ℕ → List ℕ → SignatureContent
message_of digest signature =
    Signed (record { message_digest = Some (record { algorithm = Sha2256; digest = digest }); signature = signature })

-- an envelope with a statement about an artifact of that SHA-256 value
abbrev pub envelope_of : List ℕ → List ℕ → DsseEnvelope
envelope_of digest signature = record {
  payload_type = codes "application/vnd.in-toto+json";
  payload = statement_of digest;
  signature = record { sig = signature; keyid = record { text = [] } };
}

abbrev pub content_of : Kind → List ℕ → List ℕ → SignatureContent
content_of Message digest signature = message_of digest signature
content_of Envelope digest signature = Enveloped (envelope_of digest signature)
content_of OtherArtifact digest signature = message_of digest signature
content_of BadSignature digest signature = message_of digest signature

-- the artifact, or the encoding of the envelope (DSSE, protocol.md)
abbrev pub signed_of : SignatureContent → List ℕ → List ℕ
signed_of (Signed message) artifact = artifact
signed_of (Enveloped envelope) artifact = encoding_of envelope

-- the artifact as it is handed in
abbrev pub handed_of : Kind → List ℕ → List ℕ
handed_of Message artifact = artifact
handed_of Envelope artifact = artifact
handed_of OtherArtifact artifact = artifact ++ codes "y"
handed_of BadSignature artifact = artifact

-- ---- items

-- of these parts
abbrev pub drawn_with : Kind → List ℕ → List ℕ → SignatureContent → Drawn
drawn_with kind artifact signature content = record {
  kind = kind;
  content = content;
  artifact = handed_of kind artifact;
  subject = sha256 (signed_of content artifact);
  signature = signature;
  body = body_of (sha256 (signed_of content artifact)) signature;
}

-- the item of a place and a number
abbrev pub drawn_of : ℕ → ℕ → Drawn
drawn_of index number =
    drawn_with (kind_of number) (artifact_of index number) (signature_of index)
    (content_of (kind_of number) (sha256 (artifact_of index number)) (signature_of index))

-- so many items from a place on, whose numbers come after this one
abbrev pub drawn_from : ℕ → ℕ → ℕ → List Drawn
drawn_from index number zero = []
drawn_from index number (suc count) = drawn_of index (next_number number) ∷ drawn_from (suc index) (next_number number) count
