-- The report over a chain that is trusted can always be made.
use Rattle.std.proofs.Common.{◌≡◌, ℕ, suc, ◌-◌, List, [], ◌∷◌, length, ◌++◌, Option, Some, None, Ok, codes, refl, ap, ◌∙◌, subst, arith}
use Rattle.std.specs.Prelude.{slice_get}
use Rattle.std.specs.List.{AllByRecursion, AllZip, last_or}
use Rattle.jiff_core.specs.declared.timestamp.Timestamp as jiff
use Rattle.foundation.specs.Steps.{◌>>=◌}
use Rattle.sigstore_types_parts.specs.declared.hash_algorithm.HashAlgorithm.{HashAlgorithm}
use Rattle.sigstore_keys.specs.Crypto.{Crypto}
use Rattle.sigstore_tuf_parts.specs.declared.root.Root.{Root}
use Rattle.sigstore_tuf_parts.specs.declared.timestamp.Timestamp.{Timestamp}
use Rattle.sigstore_tuf_parts.specs.declared.snapshot.Snapshot.{Snapshot}
use Rattle.sigstore_tuf_parts.specs.declared.targets.Targets.{Targets}
use Rattle.sigstore_tuf_parts.specs.Document.{Document, content_in}
use Rattle.sigstore_tuf_parts.specs.RootRoles.{root_document}
use Rattle.sigstore_tuf_rules.specs.Documents.{timestamp_document, snapshot_document, targets_document}
use Rattle.sigstore_tuf_rules.specs.declared.chain.TrustChain.{TrustChain}
use Rattle.sigstore_tuf_rules.specs.declared.chain.RoleDoc.{RoleDoc}
use Rattle.sigstore_tuf_rules.specs.declared.visit.Visit.{Visit}
use Rattle.sigstore_tuf_rules.specs.Trusted.{IsTrustedVisit, visit_in, documents_in, Trusted}
use Rattle.sigstore_judgement.specs.declared.report.VerificationResult.{VerificationResult}
use Rattle.command_files.specs.Printed.{line_of, named_line, number_line}
use Rattle.command_verify.specs.declared.report.Versions.{Versions}
use Rattle.command_verify.specs.Report.{version_of, root_version, timestamp_version, snapshot_version, targets_version, versions_of, versions_text, role_added, roles_added, digests_added, chain_text, result_added, report_of}

-- ---- the last root

-- the last of a list stands against the last of the other
last_there : {A B : Type 0} (P : A → B → Type 0) (x : A) (y : B) → P x y → (xs : List A) (ys : List B) → AllZip P xs ys → (z : B) → last_or (Some y) ys ≡ Some z
    → (w : A) × (slice_get (x ∷ xs) (length xs) ≡ Some w) × P w z
last_there P x y p [] [] all z e = let same : y ≡ z = cc in (x, refl, subst (P x) same p)
last_there P x y p [] (b ∷ ys) all z e = absurd all
last_there P x y p (a ∷ xs) [] all z e = absurd all
last_there P x y p (a ∷ xs) (b ∷ ys) all z e = last_there P a b all.0 xs ys all.1 z e

one_less : (n : ℕ) → suc n - 1 ≡ n
one_less n = omega arith

last_root_there : (roots : List (List ℕ)) (documents : List (Document Root)) (root : Document Root) → AllZip (λ bytes doc. root_document bytes ≡ Ok doc) roots documents → last_or None documents ≡ Some root
    → (bytes : List ℕ) × (slice_get roots (length roots - 1) ≡ Some bytes) × (root_document bytes ≡ Ok root)
last_root_there [] [] root all e = cc
last_root_there [] (d ∷ documents) root all e = absurd all
last_root_there (r ∷ roots) [] root all e = absurd all
last_root_there (r ∷ roots) (d ∷ documents) root all e =
    let w = last_there (λ bytes doc. root_document bytes ≡ Ok doc) r d all.0 roots documents all.1 root e in
    (w.0, ap (slice_get (r ∷ roots)) (one_less (length roots)) ∙ w.1, w.2)

-- ---- versions

module _ (bytes : List ℕ) where
  root_number : (doc : Document Root) → root_document bytes ≡ Ok doc → root_version bytes ≡ Ok (content_in doc).version
  unfolding root_version version_of
  root_number doc h = ap (λ r. r >>= λ (document : Document Root). Ok ((content_in {T = Root} document).version)) h

  timestamp_number : (doc : Document Timestamp) → timestamp_document bytes ≡ Ok doc → timestamp_version bytes ≡ Ok (content_in doc).version
  unfolding timestamp_version version_of
  timestamp_number doc h = ap (λ r. r >>= λ (document : Document Timestamp). Ok ((content_in {T = Timestamp} document).version)) h

  snapshot_number : (doc : Document Snapshot) → snapshot_document bytes ≡ Ok doc → snapshot_version bytes ≡ Ok (content_in doc).version
  unfolding snapshot_version version_of
  snapshot_number doc h = ap (λ r. r >>= λ (document : Document Snapshot). Ok ((content_in {T = Snapshot} document).version)) h

  targets_number : (doc : Document Targets) → targets_document bytes ≡ Ok doc → targets_version bytes ≡ Ok (content_in doc).version
  unfolding targets_version version_of
  targets_number doc h = ap (λ r. r >>= λ (document : Document Targets). Ok ((content_in {T = Targets} document).version)) h

module _ (crypto : Crypto) (root : Root) (snapshot : Snapshot) (documents : List ℕ → Option Targets) (now : jiff.Timestamp) where
  role_there : (v : Visit) (text name : List ℕ) (bytes : Option (List ℕ)) → IsTrustedVisit crypto root snapshot documents now v bytes → (t : List ℕ) × (role_added text name bytes ≡ Ok t)
  role_there v text name None h = (text, refl)
  role_there v text name (Some bytes) h = (_, ap (λ r. r >>= λ version. Ok (text ++ named_line (codes "role") name version)) (targets_number bytes h.doc h.read))

  roles_there : (text : List ℕ) (roles : List RoleDoc) → AllByRecursion (λ (r : RoleDoc). IsTrustedVisit crypto root snapshot documents now (visit_in r) r.bytes) roles → (t : List ℕ) × (roles_added text roles ≡ Ok t)
  roles_there text [] all = (text, refl)
  roles_there text (r ∷ roles) all =
      let now_added = role_there (visit_in r) text r.name r.bytes all.0 in
      let later = roles_there now_added.0 roles all.1 in
      (later.0, ap (λ x. x >>= λ next. roles_added next roles) now_added.1 ∙ later.1)

-- ---- the whole

versions_there : (crypto : Crypto) (given : List ℕ) (now : jiff.Timestamp) (max : ℕ) (path : List ℕ) (chain : TrustChain) → Trusted crypto given now max path chain → (v : Versions) × (versions_of chain ≡ Ok v)
unfolding versions_of
versions_there crypto given now max path chain t =
    let is = t.1 in
    let last = last_root_there chain.roots is.roots.documents t.0.root is.roots.read is.roots.last in
    let versions : Versions =
    record { root = (content_in {T = Root} t.0.root).version; timestamp = (content_in {T = Timestamp} t.0.timestamp).version; snapshot = (content_in {T = Snapshot} t.0.snapshot).version } in
    (versions, rw (last.1, root_number last.0 t.0.root last.2, timestamp_number chain.timestamp t.0.timestamp is.timestamp_read, snapshot_number chain.snapshot t.0.snapshot is.snapshot_read))

pub chain_text_there : (crypto : Crypto) (given : List ℕ) (now : jiff.Timestamp) (max : ℕ) (path : List ℕ) (chain : TrustChain) (first : List ℕ)
    → Trusted crypto given now max path chain → (text : List ℕ) × (chain_text first chain ≡ Ok text)
unfolding chain_text
chain_text_there crypto given now max path chain first t =
    let versions = versions_there crypto given now max path chain t in
    let start : List ℕ = line_of first ++ versions_text versions.0 in
    let roles = roles_there crypto (content_in t.0.root) (content_in t.0.snapshot) (documents_in chain.roles) now start chain.roles t.1.roles in (
      roles.0 ++ number_line (codes "target") chain.target.length,
      ap (λ r. r >>= λ v. roles_added (line_of first ++ versions_text v) chain.roles >>= λ text. Ok (text ++ number_line (codes "target") chain.target.length)) versions.1
          ∙ ap (λ r. r >>= λ text. Ok (text ++ number_line (codes "target") chain.target.length)) roles.1,
    )

pub report_there : (crypto : Crypto) (given : List ℕ) (now : jiff.Timestamp) (max : ℕ) (path : List ℕ) (chain : TrustChain) (digests : List (HashAlgorithm × List ℕ)) (result : VerificationResult)
    → Trusted crypto given now max path chain → (text : List ℕ) × (report_of chain digests result ≡ Ok text)
unfolding report_of
report_there crypto given now max path chain digests result t =
    let lines = chain_text_there crypto given now max path chain (codes "accepted") t in
    (result_added (digests_added lines.0 digests) result, ap (λ r. r >>= λ text. Ok (result_added (digests_added text digests) result)) lines.1)
