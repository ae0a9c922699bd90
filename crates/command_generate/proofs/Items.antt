-- What the top call answers of an item: its repository offers its chain, its store is empty, and nothing fails.
use Rattle.std.proofs.Common.{◌≡◌, ◌⊎◌, ℕ, List, length, Some, Ok, Err, inl, inr, refl, ap, sym, ◌∙◌, subst, rules}
use Rattle.std.specs.Prelude.{Result, ⊤, IfOk, unwrap_or}
use Rattle.std.specs.Result.{result_ok}
use Rattle.foundation.specs.declared.no_memory.NoMemory.{NoMemory as NoMem}
use Rattle.command_files.specs.declared.usage_fault.UsageFault.TheVariants.{Usage}
use Rattle.command_files.specs.declared.gather.CommandStop.TheVariants.{Words}
use Rattle.command_files.specs.Tables.{crypto_of}
use Rattle.command_files.specs.Answer.{stop_answer}
use Rattle.command_files.specs.declared.answer.Answer.{Answer}
use Rattle.command_generate.specs.Generate.{asked_of, SaysOf}
use Rattle.jiff_core.specs.declared.timestamp.Timestamp as jiff
use Rattle.sigstore_keys.specs.Crypto.{Crypto}
use Rattle.sigstore_tuf_outside.specs.Repository.{Quiet}
use Rattle.sigstore_tuf_outside.specs.Memory.{no_files}
use Rattle.sigstore_tuf_rules.specs.Config.{default_config}
use Rattle.sigstore_tuf_rules.specs.declared.config.UpdaterConfig.{UpdaterConfig}
use Rattle.sigstore_tuf_rules.specs.declared.chain.TrustChain.{TrustChain}
use Rattle.foundation.specs.Results.{err_same, no_both}
use Rattle.sigstore_tuf_text.specs.declared.error.Error.{Error as TufError}
use Rattle.sigstore_judgement.specs.declared.error.Error.{Error}
use Rattle.sigstore_judgement.specs.declared.error.Error.TheVariants as verify
use Rattle.sigstore_judgement.specs.declared.report.JudgedBundle.{JudgedBundle}
use Rattle.sigstore_policy.specs.declared.public_key.PublicKeyVerificationPolicy.{PublicKeyVerificationPolicy}
use Rattle.sigstore_policy.specs.Policy.{PublicKey}
use Rattle.sigstore_verify.specs.declared.from_root.Acceptance.{Acceptance}
use Rattle.sigstore_verify.specs.declared.from_root.RootFault.{RootFault}
use Rattle.sigstore_verify.specs.declared.from_root.RootFault.TheVariants.{Tuf, Verify, NoMemory}
use Rattle.sigstore_verify.specs.Inputs.{Outside}
use Rattle.sigstore_verify.specs.FromRoot.{root_of_verify}
use Rattle.sigstore_verify.specs.Complete.{verdict_of, rooted_of, Favours}
use Rattle.sigstore_verify.specs.Promises.{Promises}
use Rattle.command_files.specs.declared.tables.Tables.{Tables}
use Rattle.workload.specs.Documents.{root_bytes}
use Rattle.workload.specs.Trust.{trust_file}
use Rattle.workload.specs.Rows.{moment}
use Rattle.workload.specs.Published.{published, chain}
use Rattle.workload.specs.Law.{SignsDocuments, RepositoryOffers}
use Rattle.command_generate.specs.Workload.{policy_of}
use Rattle.command_generate.specs.declared.supplies.Item.{Item}
use Rattle.command_generate.specs.Judged.{outcome_of, given_with_item, judged_as, AnswersItem}

-- the outside of one item: the published repository, an empty store and the item's artifact, none of which fails
pub record IsItems (item : Item) (before after : Outside) : Type 0 where
  pub folders : before.repo.told ≡ Some published
  pub repo_quiet : Quiet before.repo.faults after.repo.faults
  pub files : before.store.told ≡ Some no_files
  pub bytes : before.source.told ≡ Some item.artifact
  pub source_quiet : Quiet before.source.faults after.source.faults

favours : (tables : Tables) (item : Item) (before after : Outside) → RepositoryOffers → SignsDocuments (crypto_of tables)
    → IsItems item before after → Favours (given_with_item tables item) before after chain item.artifact
unfolding chain
favours tables item before after law signed o = record {
  offer = record {
    folders = published;
    repo = record { told = o.folders; quiet = o.repo_quiet };
    offers = law (crypto_of tables) signed;
    files = no_files;
    store = o.files;
    warm = record {
      roots = λ number h k. refl;
      timestamp = inl refl;
      snapshot = inl refl;
      targets = inl refl;
      target = inl refl;
    };
  };
  source = record { told = o.bytes; quiet = o.source_quiet };
  short = search rules;
}

first_or : {A B C : Type 0} → A ⊎ (B × C) → A ⊎ B
first_or (inl a) = inl a
first_or (inr both) = inr both.0

pub answered : (tables : Tables) (item : Item) (before after : Outside) (result : Result Acceptance RootFault) → RepositoryOffers
    → SignsDocuments (crypto_of tables) → IsItems item before after → Promises (given_with_item tables item) before after result
    → AnswersItem tables item result
unfolding trust_file chain
answered tables item before after result law signed o p =
    first_or (p.complete chain item.artifact (favours tables item before after law signed o))

-- the same of parts that are those of the item
pub answered_with : (tables : Tables) (item : Item) (before after : Outside) (result : Result Acceptance RootFault) (root : List ℕ) (config : UpdaterConfig)
    (now : jiff.Timestamp) (policy : PublicKeyVerificationPolicy) (bundle : List ℕ) (max : ℕ)
    → root ≡ root_bytes → config ≡ default_config → now ≡ moment → policy ≡ policy_of → bundle ≡ item.bundle → max ≡ length item.artifact
    → RepositoryOffers → SignsDocuments (crypto_of tables) → IsItems item before after
    → Promises (record {
      anchor = record { crypto = crypto_of tables; root = root; config = config; now = now };
      policy = PublicKey policy;
      bundle = bundle;
      max = max;
    }) before after result
    → AnswersItem tables item result
answered_with tables item before after result root config now policy bundle max r c n p b m law signed o h =
    answered tables item before after result law signed o
    (subst (λ given. Promises given before after result)
    (λ i. record {
      anchor = record { crypto = crypto_of tables; root = r i; config = c i; now = n i };
      policy = PublicKey (p i);
      bundle = b i;
      max = m i;
    }) h)

-- ---- what the answer is, as an outcome

-- the fault of a refusal of the judgement
abbrev fault_in : RootFault → Error
fault_in (Tuf e) = verify.NoMemory
fault_in (Verify e _) = e
fault_in NoMemory = verify.NoMemory

handed_on : (e : Error) (chain : TrustChain) → fault_in (root_of_verify e chain) ≡ e
handed_on (verify.IdentityMismatch expected actual) c = refl
handed_on (verify.IssuerMismatch expected actual) c = refl
handed_on verify.SignatureInvalid c = refl
handed_on verify.ArtifactMismatch c = refl
handed_on verify.UnsupportedArtifact c = refl
handed_on (verify.Certificate fault) c = refl
handed_on (verify.TransparencyLog fault) c = refl
handed_on (verify.Timestamp fault) c = refl
handed_on verify.InvalidBundle c = refl
handed_on verify.UnsupportedBundle c = refl
handed_on verify.InvalidTrustRoot c = refl
handed_on verify.Types c = refl
handed_on verify.Crypto c = refl
handed_on verify.Bundle c = refl
handed_on verify.TrustRoot c = refl
handed_on verify.TrustedCertificate c = refl
handed_on (verify.ArtifactRead fault) c = refl
handed_on (verify.TooFewLogs asked found) c = refl
handed_on (verify.ClaimMismatch a b c) chain = refl
handed_on (verify.PredicateMismatch a b) chain = refl
handed_on (verify.TooFewTimes a b) chain = refl
handed_on (verify.TooFewTokens a b) chain = refl
handed_on (verify.TimeOutside a) chain = refl
handed_on verify.NoMemory c = refl

-- no refusal of the chain
abbrev IsJudged : RootFault → Type 0
IsJudged (Tuf e) = ⊥
IsJudged (Verify e _) = ⊤
IsJudged NoMemory = ⊤

judges : (e : Error) (chain : TrustChain) → IsJudged (root_of_verify e chain)
judges (verify.IdentityMismatch expected actual) c = tt
judges (verify.IssuerMismatch expected actual) c = tt
judges verify.SignatureInvalid c = tt
judges verify.ArtifactMismatch c = tt
judges verify.UnsupportedArtifact c = tt
judges (verify.Certificate fault) c = tt
judges (verify.TransparencyLog fault) c = tt
judges (verify.Timestamp fault) c = tt
judges verify.InvalidBundle c = tt
judges verify.UnsupportedBundle c = tt
judges verify.InvalidTrustRoot c = tt
judges verify.Types c = tt
judges verify.Crypto c = tt
judges verify.Bundle c = tt
judges verify.TrustRoot c = tt
judges verify.TrustedCertificate c = tt
judges (verify.ArtifactRead fault) c = tt
judges (verify.TooFewLogs asked found) c = tt
judges (verify.ClaimMismatch a b c) chain = tt
judges (verify.PredicateMismatch a b) chain = tt
judges (verify.TooFewTimes a b) chain = tt
judges (verify.TooFewTokens a b) chain = tt
judges (verify.TimeOutside a) chain = tt
judges verify.NoMemory c = tt

accepted_by : (v : Result JudgedBundle Error) (chain : TrustChain) (rooted : Acceptance) → Ok rooted ≡ rooted_of chain v → Ok tt ≡ outcome_of v
accepted_by (Ok kept) c rooted h = refl
accepted_by (Err e) c rooted h = no_both rooted (root_of_verify e c) h

refused_by : (v : Result JudgedBundle Error) (chain : TrustChain) (fault : RootFault) → Err fault ≡ rooted_of chain v
    → Err (fault_in fault) ≡ outcome_of v
refused_by (Ok kept) c fault h = no_both _ fault (sym h)
refused_by (Err e) c fault h =
    ap (λ (f : RootFault). Err (fault_in f)) (err_same fault (root_of_verify e c) h) ∙ ap Err (handed_on e c)

judged_by : (v : Result JudgedBundle Error) (chain : TrustChain) (fault : RootFault) → Err fault ≡ rooted_of chain v → IsJudged fault
judged_by (Ok kept) c fault h = no_both _ fault (sym h)
judged_by (Err e) c fault h = subst IsJudged (sym (err_same fault (root_of_verify e c) h)) (judges e c)

pub accepted_item : (tables : Tables) (item : Item) (rooted : Acceptance) → AnswersItem tables item (Ok rooted) → Ok tt ≡ judged_as tables item
accepted_item tables item rooted (inl h) = no_both rooted NoMemory h
accepted_item tables item rooted (inr h) = accepted_by (verdict_of (given_with_item tables item) trust_file item.artifact) chain rooted h

pub refused_item : (tables : Tables) (item : Item) (e : Error) (c : TrustChain) → AnswersItem tables item (Err (Verify e c))
    → Err e ≡ judged_as tables item
refused_item tables item e c (inl h) = absurd (cc (err_same (Verify e c) NoMemory h))
refused_item tables item e c (inr h) = refused_by (verdict_of (given_with_item tables item) trust_file item.artifact) chain (Verify e c) h

-- the chain is never refused
pub unrefused : (tables : Tables) (item : Item) (e : TufError) → AnswersItem tables item (Err (Tuf e)) → ⊥
unrefused tables item e (inl h) = absurd (cc (err_same (Tuf e) NoMemory h))
unrefused tables item e (inr h) = judged_by (verdict_of (given_with_item tables item) trust_file item.artifact) chain (Tuf e) h

-- ---- what is said of words outside their grammar

pub usage_said : (words : List (List ℕ)) (result : Result Answer NoMem) → asked_of words ≡ Err Usage
    → IfOk result (λ said. stop_answer Words ≡ Some said) → IfOk result (SaysOf words)
unfolding stop_answer
usage_said words (Ok said) e h = inr (record { misworded = ap result_ok e; said_is = sym (ap (λ o. unwrap_or o said) h) })
usage_said words (Err x) e h = tt
