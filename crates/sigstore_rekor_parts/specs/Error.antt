-- The refusals of log bodies and of a log's answers: what each misreading is, where a refusal is placed, and its number.
use Rattle.std.specs.Prelude.{ℕ, List, codes}
use Rattle.sigstore_types_parts.specs.declared.misread.Misread.{Misread}
use Rattle.sigstore_types_parts.specs.declared.misread.Misread.TheVariants as misread
use Rattle.sigstore_rekor_parts.specs.declared.member.RekorMember.{RekorMember}
use Rattle.sigstore_rekor_parts.specs.declared.member.RekorMember.TheVariants as m
use Rattle.sigstore_rekor_parts.specs.declared.error.ResponseRule.{ResponseRule}
use Rattle.sigstore_rekor_parts.specs.declared.error.ResponseRule.TheVariants as rule
use Rattle.sigstore_rekor_parts.specs.declared.error.Error.{Error}
use Rattle.sigstore_rekor_parts.specs.declared.error.Error.TheVariants.{Status, Json, InvalidResponse, NoMemory}

-- the member's name in the text
abbrev pub name_of : RekorMember → List ℕ
name_of m.Spec = codes "spec"
name_of m.Data = codes "data"
name_of m.Hash = codes "hash"
name_of m.Algorithm = codes "algorithm"
name_of m.Value = codes "value"
name_of m.Signature = codes "signature"
name_of m.Content = codes "content"
name_of m.PublicKey = codes "publicKey"
name_of m.HashedRekordV002 = codes "hashedRekordV002"
name_of m.Digest = codes "digest"
name_of m.Verifier = codes "verifier"
name_of m.KeyDetails = codes "keyDetails"
name_of m.X509Certificate = codes "x509Certificate"
name_of m.RawBytes = codes "rawBytes"
name_of m.EnvelopeHash = codes "envelopeHash"
name_of m.PayloadHash = codes "payloadHash"
name_of m.Signatures = codes "signatures"
name_of m.DsseV002 = codes "dsseV002"
name_of m.Envelope = codes "envelope"
name_of m.PayloadType = codes "payloadType"
name_of m.SignatureKeyid = codes "keyid"
name_of m.Sig = codes "sig"
name_of m.Body = codes "body"
name_of m.IntegratedTime = codes "integratedTime"
name_of m.LogId = codes "logID"
name_of m.LogIndex = codes "logIndex"
name_of m.Verification = codes "verification"
name_of m.InclusionProof = codes "inclusionProof"
name_of m.Checkpoint = codes "checkpoint"
name_of m.Hashes = codes "hashes"
name_of m.RootHash = codes "rootHash"
name_of m.TreeSize = codes "treeSize"
name_of m.SignedEntryTimestamp = codes "signedEntryTimestamp"

-- a misreading as a refusal; another JSON type is Shape until it is placed
abbrev pub rekor_of : Misread → Error
rekor_of misread.Shape = InvalidResponse rule.Shape
rekor_of misread.Base64 = InvalidResponse rule.Base64
rekor_of misread.Hex = InvalidResponse rule.Hex
rekor_of (misread.Length expected actual) = InvalidResponse rule.Length
rekor_of misread.NoMemory = NoMemory

-- another JSON type at a member is Member of that member; every other rule passes through
abbrev pub placed_rule : RekorMember → ResponseRule → ResponseRule
placed_rule member rule.Shape = rule.Member member
placed_rule member other = other

abbrev pub placed_at : RekorMember → Error → Error
placed_at member (Status status) = Status status
placed_at member Json = Json
placed_at member (InvalidResponse broken) = InvalidResponse (placed_rule member broken)
placed_at member NoMemory = NoMemory

abbrev pub number_of : Error → ℕ
number_of (Status status) = 1
number_of Json = 2
number_of (InvalidResponse broken) = 3
number_of NoMemory = 4
