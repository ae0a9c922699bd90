-- The refusals of texts: what each misreading is, where a refusal is placed, and its number.
use Rattle.std.specs.Prelude.{ℕ, List, codes}
use Rattle.sigstore_types_parts.specs.declared.misread.Misread.{Misread}
use Rattle.sigstore_types_parts.specs.declared.misread.Misread.TheVariants as misread
use Rattle.sigstore_types_parts.specs.declared.parse.JsonFault.{JsonFault}
use Rattle.sigstore_types_parts.specs.declared.parse.JsonFault.TheVariants as parse
use Rattle.sigstore_types_parts.specs.declared.member.TypesMember.{TypesMember}
use Rattle.sigstore_types_parts.specs.declared.member.TypesMember.TheVariants as m
use Rattle.sigstore_types_parts.specs.declared.error.TypesError.{TypesError}
use Rattle.sigstore_types_parts.specs.declared.error.TypesError.TheVariants.{Json, Float, Field, Base64, Hex, Length}
use Rattle.sigstore_types_parts.specs.declared.error.TypesError.TheVariants.{MediaType, Kind, Checkpoint, NoEntry}
use Rattle.sigstore_types_parts.specs.declared.error.TypesError.TheVariants.{NoProof, NoMemory}

-- the member's name in the text
abbrev pub name_of : TypesMember → List ℕ
name_of m.MediaType = codes "mediaType"
name_of m.VerificationMaterial = codes "verificationMaterial"
name_of m.Certificate = codes "certificate"
name_of m.RawBytes = codes "rawBytes"
name_of m.X509CertificateChain = codes "x509CertificateChain"
name_of m.Certificates = codes "certificates"
name_of m.PublicKey = codes "publicKey"
name_of m.Hint = codes "hint"
name_of m.TlogEntries = codes "tlogEntries"
name_of m.TimestampVerificationData = codes "timestampVerificationData"
name_of m.Rfc3161Timestamps = codes "rfc3161Timestamps"
name_of m.SignedTimestamp = codes "signedTimestamp"
name_of m.MessageSignature = codes "messageSignature"
name_of m.MessageDigest = codes "messageDigest"
name_of m.Algorithm = codes "algorithm"
name_of m.Digest = codes "digest"
name_of m.Signature = codes "signature"
name_of m.DsseEnvelope = codes "dsseEnvelope"
name_of m.Payload = codes "payload"
name_of m.PayloadType = codes "payloadType"
name_of m.Signatures = codes "signatures"
name_of m.Sig = codes "sig"
name_of m.SignatureKeyid = codes "keyid"
name_of m.LogIndex = codes "logIndex"
name_of m.LogId = codes "logId"
name_of m.KeyId = codes "keyId"
name_of m.KindVersion = codes "kindVersion"
name_of m.Kind = codes "kind"
name_of m.Version = codes "version"
name_of m.IntegratedTime = codes "integratedTime"
name_of m.InclusionPromise = codes "inclusionPromise"
name_of m.SignedEntryTimestamp = codes "signedEntryTimestamp"
name_of m.InclusionProof = codes "inclusionProof"
name_of m.RootHash = codes "rootHash"
name_of m.TreeSize = codes "treeSize"
name_of m.Hashes = codes "hashes"
name_of m.Checkpoint = codes "checkpoint"
name_of m.Envelope = codes "envelope"
name_of m.CanonicalizedBody = codes "canonicalizedBody"
name_of m.Tlogs = codes "tlogs"
name_of m.Ctlogs = codes "ctlogs"
name_of m.ValidFor = codes "validFor"
name_of m.Start = codes "start"
name_of m.End = codes "end"
name_of m.CertificateAuthorities = codes "certificateAuthorities"
name_of m.TimestampAuthorities = codes "timestampAuthorities"
name_of m.CertChain = codes "certChain"
name_of m.StatementType = codes "_type"
name_of m.PredicateType = codes "predicateType"
name_of m.Subject = codes "subject"
name_of m.Predicate = codes "predicate"
name_of m.Sha256 = codes "sha256"
name_of m.Sha512 = codes "sha512"

-- a misreading as a refusal; another JSON type is Json until it is placed
abbrev pub types_of : Misread → TypesError
types_of misread.Shape = Json
types_of misread.Base64 = Base64
types_of misread.Hex = Hex
types_of (misread.Length expected actual) = Length expected actual
types_of misread.NoMemory = NoMemory

-- a fault of the JSON text as a refusal
abbrev pub types_of_fault : JsonFault → TypesError
types_of_fault parse.NotJson = Json
types_of_fault parse.Float = Float
types_of_fault parse.NoMemory = NoMemory

-- another JSON type at a member is Field of that member; every other refusal passes through
abbrev pub placed_at : TypesMember → TypesError → TypesError
placed_at member Json = Field member
placed_at member Float = Float
placed_at member (Field inner) = Field inner
placed_at member Base64 = Base64
placed_at member Hex = Hex
placed_at member (Length expected actual) = Length expected actual
placed_at member MediaType = MediaType
placed_at member Kind = Kind
placed_at member (Checkpoint rule) = Checkpoint rule
placed_at member NoEntry = NoEntry
placed_at member NoProof = NoProof
placed_at member NoMemory = NoMemory

abbrev pub number_of : TypesError → ℕ
number_of Json = 1
number_of Float = 2
number_of (Field member) = 3
number_of Base64 = 4
number_of Hex = 5
number_of (Length expected actual) = 6
number_of MediaType = 7
number_of Kind = 8
number_of (Checkpoint rule) = 9
number_of NoEntry = 10
number_of NoProof = 11
number_of NoMemory = 12
