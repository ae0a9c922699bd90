-- A trust file as JSON (Sigstore protobuf specs, sigstore_trustroot.proto and sigstore_common.proto).
use Rattle.std.specs.Prelude.{ℕ, ◌-◌, List, [], ◌∷◌, take, drop, length, pos, neg_ℤ, Option, Some, None, Result, Ok, Err}
use Rattle.serde_json.specs.Data.{Data}
use Rattle.foundation.specs.Steps.{◌>>=◌}
use Rattle.jiff_core.specs.declared.timestamp.Timestamp.{Timestamp}
use Rattle.sigstore_types_parts.specs.Instant.{at_nanosecond}
use Rattle.sigstore_types_parts.specs.Read as read
use Rattle.sigstore_types_parts.specs.Error.{types_of}
use Rattle.sigstore_types_parts.specs.declared.time_range.TimeRange.{TimeRange}
use Rattle.sigstore_types_parts.specs.declared.member.TypesMember.TheVariants as m
use Rattle.sigstore_types_parts.specs.declared.error.TypesError.{TypesError}
use Rattle.sigstore_types_parts.specs.declared.error.TypesError.TheVariants.{Field}
use Rattle.sigstore_types.specs.declared.authority.Authority.{Authority}
use Rattle.sigstore_types.specs.declared.authority.TsaAuthority.{TsaAuthority}
use Rattle.sigstore_types.specs.declared.authority.Certificates.{Certificates}
use Rattle.sigstore_types.specs.declared.authority.Chain.{Chain}
use Rattle.sigstore_types.specs.declared.trusted_root.KeyOfLog.{KeyOfLog}
use Rattle.sigstore_types.specs.declared.trusted_root.TrustedLog.{TrustedLog}
use Rattle.sigstore_types.specs.declared.trusted_root.TrustedRoot.{TrustedRoot}
use Rattle.sigstore_types.specs.declared.valid_for.ValidFor.{ValidFor}
use Rattle.sigstore_entries.specs.Entry.{json, required, optional, bytes, list, log_id_of}
use Rattle.sigstore_types.specs.Members.{each_held}

-- ---- spans of time

-- without a start, from the earliest instant on
abbrev pub or_earliest : Option Timestamp → Timestamp
or_earliest (Some start) = start
or_earliest None = at_nanosecond (neg_ℤ (pos 377_705_023_201_000_000_000))

unfoldable pub valid_for_of : Data → Result ValidFor TypesError
valid_for_of d = do
  start ← optional (read.moment_of types_of) m.Start d
  end ← optional (read.moment_of types_of) m.End d
  Ok (record { range = record { start = or_earliest start; end = end } })

abbrev pub window_of : Option ValidFor → Option TimeRange
window_of None = None
window_of (Some valid_for) = Some valid_for.range

-- ---- logs

-- PublicKey, of which the key in DER and its span count
unfoldable pub key_of_log : Data → Result KeyOfLog TypesError
key_of_log d = do
  raw_bytes ← required bytes m.RawBytes d
  valid_for ← optional valid_for_of m.ValidFor d
  Ok (record { raw_bytes = raw_bytes; valid_for = window_of valid_for })

-- TransparencyLogInstance
unfoldable pub log_of : Data → Result TrustedLog TypesError
log_of d = do
  key ← required key_of_log m.PublicKey d
  log_id ← required log_id_of m.LogId d
  Ok (record { log_id = log_id; raw_bytes = key.raw_bytes; valid_for = key.valid_for })

-- ---- authorities

-- X509Certificates
unfoldable pub certificates_of : Data → Result Certificates TypesError
certificates_of d = each_held m.RawBytes d >>= λ list. Ok (record { list = list })

abbrev pub or_no_certificates : Option Certificates → List (List ℕ)
or_no_certificates None = []
or_no_certificates (Some certificates) = certificates.list

-- X509CertificateChain: the leaf first, the root last
unfoldable pub chain_of : Data → Result Chain TypesError
chain_of d = do
  certificates ← optional certificates_of m.Certificates d
  Ok (record { certificates = or_no_certificates certificates })

-- CertificateAuthority
unfoldable pub authority_of : Data → Result Authority TypesError
authority_of d = do
  chain ← required chain_of m.CertChain d
  valid_for ← optional valid_for_of m.ValidFor d
  Ok (record { certificates = chain.certificates; valid_for = window_of valid_for })

-- the last certificate is the root, where there is one behind the leaf, and else the leaf itself
abbrev pub root_in : List ℕ → List (List ℕ) → List ℕ
root_in leaf [] = leaf
root_in leaf (root ∷ others) = root

-- an authority that stamps times: the chain's first certificate, its last, and those between
unfoldable pub stamping_with : List ℕ → List (List ℕ) → Option TimeRange → TsaAuthority
stamping_with leaf behind valid_for = record {
  leaf = leaf;
  intermediates = take (length behind - 1) behind;
  root = root_in leaf (drop (length behind - 1) behind);
  valid_for = valid_for;
}

abbrev pub stamping_by : List (List ℕ) → Option TimeRange → Result TsaAuthority TypesError
stamping_by [] valid_for = Err (Field m.Certificates)
stamping_by (leaf ∷ behind) valid_for = Ok (stamping_with leaf behind valid_for)

abbrev pub stamping_of : Authority → Result TsaAuthority TypesError
stamping_of authority = stamping_by authority.certificates authority.valid_for

-- each of a list, in its order; the first empty chain refuses
abbrev pub each_stamping : List Authority → Result (List TsaAuthority) TypesError
each_stamping [] = Ok []
each_stamping (authority ∷ authorities) = do
  stamping ← stamping_of authority
  others ← each_stamping authorities
  Ok (stamping ∷ others)

-- ---- the whole

-- TrustedRoot; other members are passed over
unfoldable pub trusted_root_of : Data → Result TrustedRoot TypesError
trusted_root_of d = do
  tlogs ← list log_of m.Tlogs d
  ctlogs ← list log_of m.Ctlogs d
  certificate_authorities ← list authority_of m.CertificateAuthorities d
  timestamp_authorities ← list authority_of m.TimestampAuthorities d
  Ok (record {
    tlogs = tlogs;
    ctlogs = ctlogs;
    certificate_authorities = certificate_authorities;
    timestamp_authorities = timestamp_authorities;
  })

unfoldable pub trusted_root_of_bytes : List ℕ → Result TrustedRoot TypesError
trusted_root_of_bytes bytes = json bytes >>= trusted_root_of
