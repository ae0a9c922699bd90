-- The names by which policies ask for Fulcio's claims (Fulcio, "Sigstore OID information", 1.3.6.1.4.1.57264.1.2 to .22).
use Rattle.std.specs.Prelude.{ℕ, List, bytes_eq, codes, Option, Some, None, if◌then◌else◌}
use Rattle.certificate_claims.specs.declared.claims.FulcioCiClaims.{FulcioCiClaims}
use Rattle.certificate_claims.specs.declared.claim_name.ClaimName.{ClaimName}
use Rattle.certificate_claims.specs.declared.claim_name.ClaimName.TheVariants.{GithubWorkflowTrigger, GithubWorkflowSha}
use Rattle.certificate_claims.specs.declared.claim_name.ClaimName.TheVariants.{GithubWorkflowName, GithubWorkflowRepository}
use Rattle.certificate_claims.specs.declared.claim_name.ClaimName.TheVariants.{GithubWorkflowRef, BuildSignerUri, BuildSignerDigest, RunnerEnvironment}
use Rattle.certificate_claims.specs.declared.claim_name.ClaimName.TheVariants.{SourceRepositoryUri, SourceRepositoryDigest}
use Rattle.certificate_claims.specs.declared.claim_name.ClaimName.TheVariants.{SourceRepositoryRef, SourceRepositoryIdentifier}
use Rattle.certificate_claims.specs.declared.claim_name.ClaimName.TheVariants.{SourceRepositoryOwnerUri, SourceRepositoryOwnerIdentifier}
use Rattle.certificate_claims.specs.declared.claim_name.ClaimName.TheVariants.{BuildConfigUri, BuildConfigDigest}
use Rattle.certificate_claims.specs.declared.claim_name.ClaimName.TheVariants.{BuildTrigger, RunInvocationUri, SourceRepositoryVisibility}

-- as a policy writes it
abbrev pub name_of : ClaimName → List ℕ
name_of GithubWorkflowTrigger = codes "github-workflow-trigger"
name_of GithubWorkflowSha = codes "github-workflow-sha"
name_of GithubWorkflowName = codes "github-workflow-name"
name_of GithubWorkflowRepository = codes "github-workflow-repository"
name_of GithubWorkflowRef = codes "github-workflow-ref"
name_of BuildSignerUri = codes "build-signer-uri"
name_of BuildSignerDigest = codes "build-signer-digest"
name_of RunnerEnvironment = codes "runner-environment"
name_of SourceRepositoryUri = codes "source-repository-uri"
name_of SourceRepositoryDigest = codes "source-repository-digest"
name_of SourceRepositoryRef = codes "source-repository-ref"
name_of SourceRepositoryIdentifier = codes "source-repository-identifier"
name_of SourceRepositoryOwnerUri = codes "source-repository-owner-uri"
name_of SourceRepositoryOwnerIdentifier = codes "source-repository-owner-identifier"
name_of BuildConfigUri = codes "build-config-uri"
name_of BuildConfigDigest = codes "build-config-digest"
name_of BuildTrigger = codes "build-trigger"
name_of RunInvocationUri = codes "run-invocation-uri"
name_of SourceRepositoryVisibility = codes "source-repository-visibility"

-- the claim of that name
abbrev pub claim_named : List ℕ → Option ClaimName
claim_named text =
    if bytes_eq text (codes "github-workflow-trigger") then Some GithubWorkflowTrigger
    else if bytes_eq text (codes "github-workflow-sha") then Some GithubWorkflowSha
    else if bytes_eq text (codes "github-workflow-name") then Some GithubWorkflowName
    else if bytes_eq text (codes "github-workflow-repository") then Some GithubWorkflowRepository
    else if bytes_eq text (codes "github-workflow-ref") then Some GithubWorkflowRef
    else if bytes_eq text (codes "build-signer-uri") then Some BuildSignerUri
    else if bytes_eq text (codes "build-signer-digest") then Some BuildSignerDigest
    else if bytes_eq text (codes "runner-environment") then Some RunnerEnvironment
    else if bytes_eq text (codes "source-repository-uri") then Some SourceRepositoryUri
    else if bytes_eq text (codes "source-repository-digest") then Some SourceRepositoryDigest
    else if bytes_eq text (codes "source-repository-ref") then Some SourceRepositoryRef
    else if bytes_eq text (codes "source-repository-identifier") then Some SourceRepositoryIdentifier
    else if bytes_eq text (codes "source-repository-owner-uri") then Some SourceRepositoryOwnerUri
    else if bytes_eq text (codes "source-repository-owner-identifier") then Some SourceRepositoryOwnerIdentifier
    else if bytes_eq text (codes "build-config-uri") then Some BuildConfigUri
    else if bytes_eq text (codes "build-config-digest") then Some BuildConfigDigest
    else if bytes_eq text (codes "build-trigger") then Some BuildTrigger
    else if bytes_eq text (codes "run-invocation-uri") then Some RunInvocationUri
    else if bytes_eq text (codes "source-repository-visibility") then Some SourceRepositoryVisibility
    else None

-- what a certificate claims under that name: of one name it is one extension's text, and never another's
abbrev pub claim_in : FulcioCiClaims → ClaimName → Option (List ℕ)
claim_in claims GithubWorkflowTrigger = claims.deprecated_github.workflow_trigger
claim_in claims GithubWorkflowSha = claims.deprecated_github.workflow_sha
claim_in claims GithubWorkflowName = claims.deprecated_github.workflow_name
claim_in claims GithubWorkflowRepository = claims.deprecated_github.workflow_repository
claim_in claims GithubWorkflowRef = claims.deprecated_github.workflow_ref
claim_in claims BuildSignerUri = claims.build_signer_uri
claim_in claims BuildSignerDigest = claims.build_signer_digest
claim_in claims RunnerEnvironment = claims.runner_environment
claim_in claims SourceRepositoryUri = claims.source_repository_uri
claim_in claims SourceRepositoryDigest = claims.source_repository_digest
claim_in claims SourceRepositoryRef = claims.source_repository_ref
claim_in claims SourceRepositoryIdentifier = claims.source_repository_identifier
claim_in claims SourceRepositoryOwnerUri = claims.source_repository_owner_uri
claim_in claims SourceRepositoryOwnerIdentifier = claims.source_repository_owner_identifier
claim_in claims BuildConfigUri = claims.build_config_uri
claim_in claims BuildConfigDigest = claims.build_config_digest
claim_in claims BuildTrigger = claims.build_trigger
claim_in claims RunInvocationUri = claims.run_invocation_uri
claim_in claims SourceRepositoryVisibility = claims.source_repository_visibility_at_signing
