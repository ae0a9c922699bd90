-- What is refused or accepted by the digests that were taken.
use Rattle.std.proofs.Common.{◌≡◌, ◌≢◌, ℕ, List, [], ◌∷◌, ap, ◌∙◌, sym, subst, Option, Some, None, Result, Ok, Err, inl, inr, refl, Bool, true, false, if◌then◌else◌, IfOk, IfErr}
use Rattle.std.specs.Prelude.{◌⊎◌, ◌≤◌, ⊤}
use Rattle.std.specs.List.{list_all}
use Rattle.foundation.specs.Watched.{Watched}
use Rattle.foundation.specs.Steps.{◌>>=◌}
use Rattle.sigstore_types_parts.specs.declared.hash_algorithm.HashAlgorithm.{HashAlgorithm}
use Rattle.sigstore_types.specs.declared.bundle.Bundle.{Bundle}
use Rattle.sigstore_types.specs.Bundle.{entries_in}
use Rattle.sigstore_keys.specs.Digest.{is_hashed, digests_by}
use Rattle.sigstore_keys.specs.declared.reader.ReadError.{ReadError}
use Rattle.sigstore_judgement.specs.declared.error.Error.{Error}
use Rattle.sigstore_judgement.specs.declared.error.Error.TheVariants.{ArtifactRead, UnsupportedArtifact, NoMemory}
use Rattle.sigstore_judgement.specs.declared.evidence.Evidence.{Evidence}
use Rattle.sigstore_judgement.specs.declared.report.VerificationResult.{VerificationResult}
use Rattle.sigstore_judgement.specs.Artifact.{Artifact, Blob, Read, Digest, Digests, Kind, kind_of, read_kind, blob_kind, digest_of, bytes_of, digest_among, has_each}
use Rattle.sigstore_judgement.specs.Claim.{claim_of, needed_of}
use Rattle.sigstore_judgement.specs.Conditions.{conditions_judged_of}
use Rattle.sigstore_judgement.specs.Content.{signed_in, content_judged_of}
use Rattle.sigstore_judgement.specs.Entries.{each_described_of, entries_described_of}
use Rattle.sigstore_judgement.specs.Evidence.{report_of}
use Rattle.sigstore_judgement.specs.Grounds.{Grounds, readings_in, Terms}
use Rattle.sigstore_judgement.specs.Judged.{Ready, prepared_of, vouched_of, judged_had, given_of, judged_by, judged_of, needed_in}
use Rattle.sigstore_policy.specs.Policy.{Meaning}
use Rattle.sigstore_judgement.specs.Promise.{ReadCause, Cause, WantsMemory, VerifiesKept, VerifiesHanded}
use Rattle.sigstore_judgement.specs.Signer.{conditions_in, signatory_of}
use Rattle.sigstore_judgement.specs.Taking.{Takes}
use Rattle.sigstore_judgement.proofs.Accepts.{prepared_means, all_hashed}
use Rattle.sigstore_judgement.proofs.FirstChecks.{prepared_passes}
use Rattle.sigstore_judgement.proofs.Within.{took_nothing}
use Rattle.sigstore_judgement.proofs.KnownArtifact.{AreAlike, judged_alike, taken_alike, one_alike, each_taken}
use Rattle.sigstore_judgement.proofs.Wanting.{wanting}

-- what was prepared has what the bundle says
pub prepared_claims : (kind : Kind) (policy : Meaning) (bundle : Bundle) (ready : Ready) → prepared_of kind policy bundle ≡ Ok ready
    → claim_of bundle.content ≡ Ok ready.claim
prepared_claims kind policy bundle ready p =
    let q = prepared_means kind policy bundle ready p in
    subst (λ (r : Ready). claim_of bundle.content ≡ Ok r.claim) (sym q.same) q.claims

-- and needs the digests of that and of its scheme
pub prepared_needs : (kind : Kind) (policy : Meaning) (bundle : Bundle) (ready : Ready) → prepared_of kind policy bundle ≡ Ok ready
    → needed_of ready.key.scheme ready.claim ≡ ready.needed
prepared_needs kind policy bundle ready p =
    let q = prepared_means kind policy bundle ready p in
    subst (λ (r : Ready). needed_of r.key.scheme r.claim ≡ r.needed) (sym q.same) refl

-- and each of them has a hasher, where the artifact is read or is a blob
pub prepared_hashed : (kind : Kind) (policy : Meaning) (bundle : Bundle) (ready : Ready) → kind.has ≡ is_hashed → prepared_of kind policy bundle ≡ Ok ready
    → list_all is_hashed ready.needed ≡ true
prepared_hashed kind policy bundle ready is p =
    let q = prepared_means kind policy bundle ready p in
    subst (λ (r : Ready). list_all is_hashed r.needed ≡ true) (sym q.same) (all_hashed kind _ (needed_of q.scheme q.claim) is q.supported)

-- what was prepared is judged alike where the content is, and what entries are compared with
pub had_alike : (grounds : Grounds) (ready : Ready) (bundle : Bundle) (d d' : Digests) (b b' : Option (List ℕ))
    → content_judged_of grounds.crypto.accepts ready.key bundle.content ready.claim d b ≡ content_judged_of grounds.crypto.accepts ready.key bundle.content ready.claim d' b'
    → signed_in bundle.content d ≡ signed_in bundle.content d'
    → judged_had grounds ready bundle d b ≡ judged_had grounds ready bundle d' b'
unfolding judged_had
had_alike grounds ready bundle d d' b b' h same =
    ap (λ c. vouched_of grounds ready.signer bundle >>= λ evidence. c >>= λ _. entries_described_of grounds ready.signer bundle d (entries_in bundle) >>= λ _. met evidence) h
    ∙ ap (λ x. vouched_of grounds ready.signer bundle >>= λ evidence. content_judged_of grounds.crypto.accepts ready.key bundle.content ready.claim d' b' >>= λ _. x >>= λ _. met evidence)
    (ap (λ signed. each_described_of (readings_in grounds.crypto) (signatory_of ready.signer) signed (entries_in bundle)) same)
  where
    met : Evidence → Result VerificationResult Error
    met evidence = conditions_judged_of (conditions_in ready.signer) ready.claim evidence >>= λ _. Ok (report_of ready.signer evidence)

abbrev given_if : Bool → Result ⊤ Error
given_if b = if b then Ok tt else Err UnsupportedArtifact

-- where each digest that is needed is among those that a caller took, they are judged
pub given_steps : (grounds : Grounds) (ready : Ready) (bundle : Bundle) (digest : Digests) → given_of ready.needed digest ≡ Ok tt
    → judged_by grounds ready bundle digest ≡ judged_had grounds ready bundle digest None
given_steps grounds ready bundle digest h = ap (λ r. r >>= λ _. judged_had grounds ready bundle digest None) h

module _ (terms : Terms) (bundle : Bundle) where
  -- the whole judgement of what was prepared
  judged : (ready : Ready) (artifact : Artifact) → prepared_of (kind_of artifact) terms.policy bundle ≡ Ok ready
      → judged_of terms bundle artifact ≡ judged_had terms.grounds ready bundle (digest_of artifact) (bytes_of artifact)
  unfolding judged_of
  judged ready artifact p = ap (λ s. s >>= λ (k : Ready). judged_had terms.grounds k bundle (digest_of artifact) (bytes_of artifact)) p

  -- and of what wasn't
  pub unready : (artifact : Artifact) (e : Error) → prepared_of (kind_of artifact) terms.policy bundle ≡ Err e → judged_of terms bundle artifact ≡ Err e
  unfolding judged_of
  unready artifact e p = ap (λ s. s >>= λ (k : Ready). judged_had terms.grounds k bundle (digest_of artifact) (bytes_of artifact)) p

  -- the digests of all the bytes are those of the artifact, as far as they are looked at
  taken_same : (ready : Ready) (kind : Kind) (bytes : List ℕ) (digests : List (HashAlgorithm × List ℕ))
      → kind.has ≡ is_hashed → prepared_of kind terms.policy bundle ≡ Ok ready → digests ≡ digests_by ready.needed bytes
      → AreAlike ready.key bundle.content ready.claim (digest_among digests) (digest_of (Read bytes))
  taken_same ready kind bytes digests is p d =
      let needs = prepared_needs kind terms.policy bundle ready p in
      subst (λ ds. AreAlike ready.key bundle.content ready.claim (digest_among ds) (digest_of (Read bytes)))
      (ap (λ needed. digests_by needed bytes) needs ∙ sym d)
      (taken_alike ready.key bundle.content ready.claim bytes (prepared_claims kind terms.policy bundle ready p)
      (ap (list_all is_hashed) needs ∙ prepared_hashed kind terms.policy bundle ready is p))

  -- so the judgement by them is that of the artifact
  by_taken : (ready : Ready) (kept : Option (List ℕ)) (one two : Digests) → AreAlike ready.key bundle.content ready.claim one two
      → judged_had terms.grounds ready bundle two kept ≡ judged_had terms.grounds ready bundle one kept
  by_taken ready kept one two same =
      sym (had_alike terms.grounds ready bundle one two kept kept
      (judged_alike terms.grounds.crypto.accepts ready.key bundle.content ready.claim one two kept same) same.signed)

  abbrev judges : Ready → List (HashAlgorithm × List ℕ) → Option (List ℕ) → Result VerificationResult Error
  judges ready digests kept = judged_had terms.grounds ready bundle (digest_among digests) kept

  -- ---- an artifact that is read

  -- the judgement by the digests that were taken is that of the artifact
  pub read_judged : (bytes : List ℕ) (ready : Ready) (digests : List (HashAlgorithm × List ℕ)) → prepared_of read_kind terms.policy bundle ≡ Ok ready → digests ≡ digests_by ready.needed bytes
      → judged_of terms bundle (Read bytes) ≡ judges ready digests None
  read_judged bytes ready digests p d =
      judged ready (Read bytes) p
      ∙ by_taken ready None (digest_among digests) (digest_of (Read bytes)) (taken_same ready read_kind bytes digests refl p d)

  pub unprepared : (old new : Watched (List ℕ)) (max : ℕ) (e : Error) → old.faults ≤ new.faults → new ≡ old → (e ≢ NoMemory → prepared_of read_kind terms.policy bundle ≡ Err e)
      → WantsMemory terms bundle e → VerifiesKept terms bundle old new max (Err e)
  unprepared old new max e l s f w =
      record { later = l; within = took_nothing old new max s; accepted = tt; refused = wanting e (λ n. inl (record { unread = s; refusal = f n })); memory = w }

  pub reading_refused : (old new : Watched (List ℕ)) (max : ℕ) (ready : Ready) (e : Error) → prepared_of read_kind terms.policy bundle ≡ Ok ready
      → Takes old new max ready.needed (Err e) → VerifiesKept terms bundle old new max (Err e)
  reading_refused old new max ready e p t = record { later = t.later; within = t.within; accepted = tt; refused = why t.refused; memory = λ want. prepared_passes read_kind terms.policy bundle ready p }
    where
      why : (e ≡ NoMemory) ⊎ ((fault : ReadError) × (e ≡ ArtifactRead fault) × ReadCause old new max fault) → Cause terms bundle old new max e
      why (inl want) = inl want
      why (inr r) = inr (inr (inl (record { ready = ready; prepared = p; refusal = r })))

  -- refused by the digests that were taken
  pub judging_refused : (old new : Watched (List ℕ)) (max : ℕ) (ready : Ready) (digests : List (HashAlgorithm × List ℕ)) (e : Error) → prepared_of read_kind terms.policy bundle ≡ Ok ready
      → Takes old new max ready.needed (Ok digests) → (e ≢ NoMemory → judges ready digests None ≡ Err e) → VerifiesKept terms bundle old new max (Err e)
  judging_refused old new max ready digests e p t r =
      let w = t.taken in
      record {
        later = t.later;
        within = t.within;
        accepted = tt;
        refused = wanting e (λ n. inr (inr (record { ready = ready; prepared = p; refusal = (w.0, w.1, read_judged w.0 ready digests p w.2 ∙ r n) })));
        memory = λ want. prepared_passes read_kind terms.policy bundle ready p;
      }

  -- and accepted
  pub judging_accepted : (old new : Watched (List ℕ)) (max : ℕ) (ready : Ready) (digests : List (HashAlgorithm × List ℕ)) (report : VerificationResult)
      → prepared_of read_kind terms.policy bundle ≡ Ok ready → Takes old new max ready.needed (Ok digests) → judges ready digests None ≡ Ok report
      → VerifiesKept terms bundle old new max (Ok (record { result = report; digests = digests }))
  judging_accepted old new max ready digests report p t a =
      let w = t.taken in
      record {
        later = t.later;
        within = t.within;
        accepted = (
          w.0,
          record { read = w.1; judged = read_judged w.0 ready digests p w.2 ∙ a },
          w.2 ∙ ap (λ r. digests_by (needed_in r) w.0) (sym p),
        );
        refused = tt;
        memory = tt;
      }

  -- ---- an artifact that is handed in

  pub handed : (artifact : Artifact) (ready : Ready) (r had : Result VerificationResult Error) → prepared_of (kind_of artifact) terms.policy bundle ≡ Ok ready
      → judged_of terms bundle artifact ≡ had → IfOk r (λ report. had ≡ Ok report) → IfErr r (λ e. e ≢ NoMemory → had ≡ Err e)
      → VerifiesHanded terms bundle artifact r
  handed artifact ready (Ok report) had p h a r = record { accepted = h ∙ a; refused = tt; memory = tt }
  handed artifact ready (Err e) had p h a r =
      record { accepted = tt; refused = λ n. h ∙ r n; memory = λ want. prepared_passes (kind_of artifact) terms.policy bundle ready p }

  pub handed_unready : (artifact : Artifact) (e : Error) → (e ≢ NoMemory → prepared_of (kind_of artifact) terms.policy bundle ≡ Err e) → WantsMemory terms bundle e
      → VerifiesHanded terms bundle artifact (Err e)
  handed_unready artifact e f w = record { accepted = tt; refused = λ n. unready artifact e (f n); memory = w }

  pub handed_wanting : (artifact : Artifact) (ready : Ready) (e : Error) → prepared_of (kind_of artifact) terms.policy bundle ≡ Ok ready → e ≡ NoMemory
      → VerifiesHanded terms bundle artifact (Err e)
  handed_wanting artifact ready e p is =
      record { accepted = tt; refused = λ n. absurd (n is); memory = λ want. prepared_passes (kind_of artifact) terms.policy bundle ready p }

  -- ---- by digests that a caller took

  -- those of the bytes by the algorithms that are needed are all among them
  pub taken_judged : (ready : Ready) (digests : List (HashAlgorithm × List ℕ)) (bytes : List ℕ) → digests ≡ digests_by ready.needed bytes
      → judged_by terms.grounds ready bundle (digest_among digests) ≡ judges ready digests None
  taken_judged ready digests bytes d =
      given_steps terms.grounds ready bundle (digest_among digests)
      (ap given_if (ap (λ ds. has_each ready.needed (digest_among ds)) d ∙ each_taken ready.needed bytes))

  pub blob_judged : (bytes : List ℕ) (ready : Ready) (digests : List (HashAlgorithm × List ℕ)) → prepared_of blob_kind terms.policy bundle ≡ Ok ready
      → digests ≡ digests_by ready.needed bytes → judged_of terms bundle (Blob bytes) ≡ judges ready digests (Some bytes)
  blob_judged bytes ready digests p d =
      judged ready (Blob bytes) p
      ∙ by_taken ready (Some bytes) (digest_among digests) (digest_of (Blob bytes)) (taken_same ready blob_kind bytes digests refl p d)

  pub digest_judged : (given : HashAlgorithm) (digest : List ℕ) (ready : Ready) → prepared_of (kind_of (Digest given digest)) terms.policy bundle ≡ Ok ready
      → judged_of terms bundle (Digest given digest) ≡ judges ready ((given, digest) ∷ []) None
  digest_judged given digest ready p =
      judged ready (Digest given digest) p
      ∙ by_taken ready None (digest_among ((given, digest) ∷ [])) (digest_of (Digest given digest))
      (one_alike ready.key bundle.content ready.claim given digest (prepared_claims (kind_of (Digest given digest)) terms.policy bundle ready p))
