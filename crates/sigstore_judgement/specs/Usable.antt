-- What it means that a verifier is made of a trust file, told without any order of checks.
use Rattle.std.specs.Prelude.{◌≡◌, ◌≢◌, ◌↔◌, ℕ, List, [], ◌∷◌, map, length, ⊤, Option, Some, None, Ok, IsTrue}
use Rattle.std.specs.List.{AllByRecursion}
use Rattle.sigstore_types_parts.specs.declared.time_range.TimeRange.{TimeRange}
use Rattle.sigstore_types_parts.specs.TimeRange.{ends_by}
use Rattle.sigstore_types.specs.declared.authority.Authority.{Authority}
use Rattle.sigstore_types.specs.declared.trusted_root.TrustedLog.{TrustedLog}
use Rattle.sigstore_types.specs.declared.trusted_root.TrustedRoot.{TrustedRoot}
use Rattle.sigstore_keys.specs.declared.key.VerificationKey.{VerificationKey}
use Rattle.path_core.specs.Anchors.{may_anchor}
use Rattle.sigstore_judgement.specs.declared.trust.LogKind.{LogKind}
use Rattle.sigstore_judgement.specs.declared.trust.LogKind.TheVariants.{Entries, Certificates}
use Rattle.sigstore_judgement.specs.Trust.{log_key_of, usable_of}

-- a span doesn't end before it starts
abbrev pub IsOrdered : Option TimeRange → Type 0
IsOrdered None = ⊤
IsOrdered (Some range) = IsTrue (ends_by range.end range.start)

abbrev pub id_in : TrustedLog → List ℕ
id_in log = log.log_id.key_id

-- a log's id has 32 bytes, and its key is read
pub record IsUsableLog (kind : LogKind) (log : TrustedLog) : Type 0 where
  pub window : IsOrdered log.valid_for
  pub id : length (id_in log) ≡ 32
  pub key : VerificationKey
  pub read : log_key_of kind log.raw_bytes ≡ Ok key

-- none stands twice
abbrev pub AreDistinct : List (List ℕ) → Type 0
AreDistinct [] = ⊤
AreDistinct (id ∷ ids) = AllByRecursion (λ other. other ≢ id) ids × AreDistinct ids

pub record AreUsableLogs (kind : LogKind) (logs : List TrustedLog) : Type 0 where
  pub each : AllByRecursion (IsUsableLog kind) logs
  pub distinct : AreDistinct (map id_in logs)

-- an authority's chain isn't empty, and each certificate in it is read and has no name constraints
pub record IsUsableAuthority (authority : Authority) : Type 0 where
  pub window : IsOrdered authority.valid_for
  pub chain : authority.certificates ≢ []
  pub certificates : AllByRecursion (λ certificate. may_anchor certificate ≡ Ok tt) authority.certificates

pub record IsUsable (trust : TrustedRoot) : Type 0 where
  pub tlogs : AreUsableLogs Entries trust.tlogs
  pub ctlogs : AreUsableLogs Certificates trust.ctlogs
  pub certificate_authorities : AllByRecursion IsUsableAuthority trust.certificate_authorities
  pub timestamp_authorities : AllByRecursion IsUsableAuthority trust.timestamp_authorities

-- a verifier is made of exactly the usable trust files
abbrev pub UsableExactly : Type 0
UsableExactly = (trust : TrustedRoot) → (usable_of trust ≡ Ok tt) ↔ IsUsable trust
