-- The report of an accepted bundle.
use Rattle.std.specs.Prelude.{ℕ, ◌-◌, pos, int_div, List, [], ◌∷◌, ◌++◌, length, slice_get, codes, Bool, if◌then◌else◌}
use Rattle.std.specs.Prelude.{Option, Some, None, Result, Ok, ok_or}
use Rattle.std.specs.Fmt.{signed_decimal}
use Rattle.serde_json.specs.Data.{Data}
use Rattle.jiff_core.specs.declared.timestamp.Timestamp as jiff
use Rattle.foundation.specs.Steps.{◌>>=◌}
use Rattle.sigstore_types_parts.specs.declared.hash_algorithm.HashAlgorithm.{HashAlgorithm}
use Rattle.sigstore_types_parts.specs.HashAlgorithm.{rekor_name_of}
use Rattle.certificate_claims.specs.declared.certificate_info.SubjectAltName.{SubjectAltName}
use Rattle.certificate_claims.specs.declared.certificate_info.SubjectAltName.TheVariants as name
use Rattle.sigstore_judgement.specs.Report.{identity_said, issuer_said}
use Rattle.sigstore_tuf_text.specs.declared.error.Error.{Error}
use Rattle.sigstore_tuf_text.specs.declared.error.Error.TheVariants.{NotRefreshed}
use Rattle.sigstore_tuf_parts.specs.declared.root.Root.{Root}
use Rattle.sigstore_tuf_parts.specs.declared.timestamp.Timestamp.{Timestamp}
use Rattle.sigstore_tuf_parts.specs.declared.snapshot.Snapshot.{Snapshot}
use Rattle.sigstore_tuf_parts.specs.declared.targets.Targets.{Targets}
use Rattle.sigstore_tuf_parts.specs.Document.{document_of, content_in}
use Rattle.sigstore_tuf_parts.specs.Root.{root_of}
use Rattle.sigstore_tuf_parts.specs.Timestamp.{timestamp_of}
use Rattle.sigstore_tuf_parts.specs.Snapshot.{snapshot_of}
use Rattle.sigstore_tuf_parts.specs.Targets.{targets_of}
use Rattle.sigstore_tuf_rules.specs.declared.chain.TrustChain.{TrustChain}
use Rattle.sigstore_tuf_rules.specs.declared.chain.RoleDoc.{RoleDoc}
use Rattle.sigstore_judgement.specs.declared.report.VerificationResult.{VerificationResult}
use Rattle.sigstore_verify.specs.declared.by_rules.RuleAcceptance.{RuleAcceptance}
use Rattle.command_files.specs.Printed.{line_of, pair_line, number_line, text_line, named_line, hex_line, answer_line}
use Rattle.command_verify.specs.declared.report.Versions.{Versions}

-- the version of the document that bytes read as
unfoldable pub version_of : {T : Type 0} → List ℕ → (Data → Result T Error) → (T → ℕ) → List ℕ → Result ℕ Error
version_of kind reads version_in bytes = document_of kind reads bytes >>= λ document. Ok (version_in (content_in document))

unfoldable pub root_version : List ℕ → Result ℕ Error
root_version bytes = version_of (codes "root") root_of (λ (d : Root). d.version) bytes

unfoldable pub timestamp_version : List ℕ → Result ℕ Error
timestamp_version bytes = version_of (codes "timestamp") timestamp_of (λ (d : Timestamp). d.version) bytes

unfoldable pub snapshot_version : List ℕ → Result ℕ Error
snapshot_version bytes = version_of (codes "snapshot") snapshot_of (λ (d : Snapshot). d.version) bytes

unfoldable pub targets_version : List ℕ → Result ℕ Error
targets_version bytes = version_of (codes "targets") targets_of (λ (d : Targets). d.version) bytes

-- the root in force is the last
abbrev pub last_root : TrustChain → Option (List ℕ)
last_root chain = slice_get chain.roots (length chain.roots - 1)

-- the versions in force
unfoldable pub versions_of : TrustChain → Result Versions Error
versions_of chain = do
  bytes ← ok_or (last_root chain) NotRefreshed
  root ← root_version bytes
  timestamp ← timestamp_version chain.timestamp
  snapshot ← snapshot_version chain.snapshot
  Ok (record { root = root; timestamp = timestamp; snapshot = snapshot })

abbrev pub versions_text : Versions → List ℕ
versions_text versions =
    number_line (codes "root") versions.root ++ number_line (codes "timestamp") versions.timestamp
    ++ number_line (codes "snapshot") versions.snapshot

-- the line of a visit whose document is there
abbrev pub role_added : List ℕ → List ℕ → Option (List ℕ) → Result (List ℕ) Error
role_added text name None = Ok text
role_added text name (Some bytes) = targets_version bytes >>= λ version. Ok (text ++ named_line (codes "role") name version)

-- the lines of the visits in turn
abbrev pub roles_added : List ℕ → List RoleDoc → Result (List ℕ) Error
roles_added text [] = Ok text
roles_added text (role ∷ roles) = role_added text role.name role.bytes >>= λ next. roles_added next roles

abbrev pub digests_added : List ℕ → List (HashAlgorithm × List ℕ) → List ℕ
digests_added text [] = text
digests_added text (digest ∷ digests) = digests_added (text ++ hex_line (codes "artifact") (rekor_name_of digest.0) digest.1) digests

-- the whole seconds since the start of 1970
abbrev pub seconds_of : jiff.Timestamp → List ℕ
seconds_of time = signed_decimal (int_div time.nanosecond (pos 1_000_000_000))

abbrev pub times_added : List ℕ → List jiff.Timestamp → List ℕ
times_added text [] = text
times_added text (time ∷ times) = times_added (text ++ pair_line (codes "time") (seconds_of time)) times

abbrev pub issuer_text : Option (List ℕ) → List ℕ
issuer_text None = pair_line (codes "issuer") (codes "none")
issuer_text (Some issuer) = text_line (codes "issuer") issuer

abbrev pub integrated_text : Option jiff.Timestamp → List ℕ
integrated_text None = pair_line (codes "integrated") (codes "none")
integrated_text (Some time) = pair_line (codes "integrated") (seconds_of time)

-- whom the certificate names, by the sort of the name
abbrev pub identity_text : Option SubjectAltName → List ℕ
identity_text None = pair_line (codes "identity") (codes "none")
identity_text (Some (name.Email text)) = text_line (codes "identity email") text
identity_text (Some (name.Uri text)) = text_line (codes "identity uri") text

abbrev pub names_text : VerificationResult → List ℕ
names_text result = identity_text (identity_said result.certificate) ++ issuer_text (issuer_said result.certificate)

abbrev pub answers_text : VerificationResult → List ℕ
answers_text result =
    answer_line (codes "certificate") result.certificate_verified ++ answer_line (codes "sct") result.sct_verified
    ++ answer_line (codes "tlog") result.tlog_verified ++ answer_line (codes "policy") result.identity_policy_checked

abbrev pub times_text : List ℕ → VerificationResult → List ℕ
times_text text result =
    times_added (text ++ integrated_text result.integrated_time
    ++ number_line (codes "times") (length result.verified_timestamps)) result.verified_timestamps

-- ---- the lines on a chain

-- a first line, then the versions in force, the visits whose documents are there, and the length of the target
unfoldable pub chain_text : List ℕ → TrustChain → Result (List ℕ) Error
chain_text first chain = do
  versions ← versions_of chain
  text ← roles_added (line_of first ++ versions_text versions) chain.roles
  Ok (text ++ number_line (codes "target") chain.target.length)

-- ---- the whole

abbrev pub result_added : List ℕ → VerificationResult → List ℕ
result_added text result = times_text (text ++ names_text result ++ answers_text result) result

-- the report of a chain, the artifact's digests and a result
unfoldable pub report_of : TrustChain → List (HashAlgorithm × List ℕ) → VerificationResult → Result (List ℕ) Error
report_of chain digests result = do
  text ← chain_text (codes "accepted") chain
  Ok (result_added (digests_added text digests) result)

-- which rule accepts, where there are several
abbrev pub rule_added : Bool → ℕ → List ℕ → List ℕ
rule_added several rule text = if several then text ++ number_line (codes "rule") rule else text

-- the report of an acceptance under rules
unfoldable pub rule_report_of : Bool → RuleAcceptance → Result (List ℕ) Error
rule_report_of several accepted = do
  text ← report_of accepted.acceptance.chain accepted.acceptance.digests accepted.acceptance.result
  Ok (rule_added several accepted.rule text)
