-- The lines, each with one fact. What a stranger wrote is printed, so that it ends no line and begins none.
use Rattle.std.specs.Prelude.{ℕ, ◌-◌, List, [], ◌∷◌, ◌++◌, length, take, drop, codes, Bool, if◌then◌else◌, Option, Some, None}
use Rattle.jiff_core.specs.declared.timestamp.Timestamp as jiff
use Rattle.sigstore_types_parts.specs.declared.hash_algorithm.HashAlgorithm.{HashAlgorithm}
use Rattle.certificate_claims.specs.declared.certificate_info.CertificateInfo.{CertificateInfo}
use Rattle.certificate_claims.specs.declared.claims.FulcioCiClaims.{FulcioCiClaims}
use Rattle.certificate_claims.specs.declared.claim_name.ClaimName.{ClaimName}
use Rattle.certificate_claims.specs.declared.claim_name.ClaimName.TheVariants.{GithubWorkflowTrigger, GithubWorkflowSha}
use Rattle.certificate_claims.specs.declared.claim_name.ClaimName.TheVariants.{GithubWorkflowName, GithubWorkflowRepository}
use Rattle.certificate_claims.specs.declared.claim_name.ClaimName.TheVariants.{GithubWorkflowRef, BuildSignerUri, BuildSignerDigest, RunnerEnvironment}
use Rattle.certificate_claims.specs.declared.claim_name.ClaimName.TheVariants.{SourceRepositoryUri, SourceRepositoryDigest}
use Rattle.certificate_claims.specs.declared.claim_name.ClaimName.TheVariants.{SourceRepositoryRef, SourceRepositoryIdentifier}
use Rattle.certificate_claims.specs.declared.claim_name.ClaimName.TheVariants.{SourceRepositoryOwnerUri, SourceRepositoryOwnerIdentifier}
use Rattle.certificate_claims.specs.declared.claim_name.ClaimName.TheVariants.{BuildConfigUri, BuildConfigDigest}
use Rattle.certificate_claims.specs.declared.claim_name.ClaimName.TheVariants.{BuildTrigger, RunInvocationUri, SourceRepositoryVisibility}
use Rattle.certificate_claims.specs.ClaimNames.{name_of, claim_in}
use Rattle.sigstore_judgement.specs.declared.report.VerificationResult.{VerificationResult}
use Rattle.command_files.specs.Printed.{printed, pair_line, number_line, text_line}
use Rattle.command_verify.specs.Report.{seconds_of}
use Rattle.verification_details.specs.declared.statement.NamedSubject.{NamedSubject}
use Rattle.verification_details.specs.declared.statement.ToldStatement.{ToldStatement}
use Rattle.verification_details.specs.Subject.{digits_of, artifact_among}

-- ---- the statement

abbrev pub name_line : Option (List ℕ) → List ℕ
name_line None = []
name_line (Some name) = text_line (codes "subject") name

-- the subject that is the artifact, where it tells a name
abbrev pub subject_line : Option NamedSubject → List ℕ
subject_line None = []
subject_line (Some named) = name_line named.name

-- the type of the predicate, and the subject that is the artifact with these digests
abbrev pub statement_lines : List (HashAlgorithm × List ℕ) → Option ToldStatement → List ℕ
statement_lines digests None = []
statement_lines digests (Some statement) =
    text_line (codes "predicate") statement.predicate_type ++ subject_line (artifact_among (digits_of digests) statement.subjects)

-- ---- the times

-- times in their order, each behind the same word
abbrev pub time_lines : List ℕ → List jiff.Timestamp → List ℕ
time_lines word [] = []
time_lines word (time ∷ times) = pair_line word (seconds_of time) ++ time_lines word times

-- so many of the times behind one word, and the others behind another one
abbrev pub parted_lines : List ℕ → List ℕ → ℕ → List jiff.Timestamp → List ℕ
parted_lines first second count times = time_lines first (take count times) ++ time_lines second (drop count times)

-- Who tells each time: an authority stamped it, or a log promised it. Each of the bundle's tokens tells one. Under a certificate the
-- tokens' times come first, under a key the logs'.
abbrev pub source_lines : ℕ → Option CertificateInfo → List jiff.Timestamp → List ℕ
source_lines tokens None times = parted_lines (codes "promised") (codes "stamped") (length times - tokens) times
source_lines tokens (Some info) times = parted_lines (codes "stamped") (codes "promised") tokens times

-- ---- the logs

abbrev pub counted_line : List ℕ → Bool → ℕ → List ℕ
counted_line word verified count = if verified then number_line word count else []

-- how many logs took the entries, and how many promised the certificate, each where that was verified
abbrev pub count_lines : VerificationResult → List ℕ
count_lines result =
    counted_line (codes "logs") result.tlog_verified result.log_count ++ counted_line (codes "scts") result.sct_verified result.sct_count

-- ---- the claims

abbrev pub claim_line : ClaimName → Option (List ℕ) → List ℕ
claim_line name None = []
claim_line name (Some text) = pair_line (codes "claim") (name_of name ++ 32 ∷ printed text)

-- the claims of these names that are there
abbrev pub claim_lines : FulcioCiClaims → List ClaimName → List ℕ
claim_lines claims [] = []
claim_lines claims (name ∷ names) = claim_line name (claim_in claims name) ++ claim_lines claims names

-- each name, in the order of the extensions' numbers
abbrev pub every_name : List ClaimName
every_name =
    GithubWorkflowTrigger ∷ GithubWorkflowSha ∷ GithubWorkflowName ∷ GithubWorkflowRepository ∷ GithubWorkflowRef
    ∷ BuildSignerUri ∷ BuildSignerDigest ∷ RunnerEnvironment ∷ SourceRepositoryUri ∷ SourceRepositoryDigest
    ∷ SourceRepositoryRef ∷ SourceRepositoryIdentifier ∷ SourceRepositoryOwnerUri ∷ SourceRepositoryOwnerIdentifier
    ∷ BuildConfigUri ∷ BuildConfigDigest ∷ BuildTrigger ∷ RunInvocationUri ∷ SourceRepositoryVisibility ∷ []

-- what the certificate claims, where there is one
abbrev pub certificate_lines : Option CertificateInfo → List ℕ
certificate_lines None = []
certificate_lines (Some info) = claim_lines info.ci_claims every_name

-- ---- those of a result

abbrev pub result_lines : ℕ → VerificationResult → List ℕ
result_lines tokens result =
    source_lines tokens result.certificate result.verified_timestamps ++ count_lines result ++ certificate_lines result.certificate
