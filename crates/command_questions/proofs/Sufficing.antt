-- What stands by the rows alone, put together.
use Rattle.std.proofs.Common.{◌≡◌, ℕ, zero, suc, ◌-◌, List, [], ◌∷◌, map, Bool, true, false, if◌then◌else◌, Some, None, Ok, Err, IfOk, OnOk, Result, ap, ◌∙◌, subst}
use Rattle.std.specs.Prelude.{⊤, ◌==◌, slice_get}
use Rattle.jiff_core.specs.declared.timestamp.Timestamp as jiff
use Rattle.foundation.specs.declared.no_memory.NoMemory.{NoMemory}
use Rattle.sigstore_types.specs.declared.bundle.Bundle.{Bundle}
use Rattle.sigstore_types.specs.declared.trusted_root.TrustedRoot.{TrustedRoot}
use Rattle.sigstore_types.specs.Bundle.{bundle_of_bytes}
use Rattle.sigstore_types.specs.TrustedRoot.{trusted_root_of_bytes}
use Rattle.sigstore_types_parts.specs.declared.hash_algorithm.ArtifactDigest.{ArtifactDigest}
use Rattle.sigstore_keys.specs.Crypto.{Crypto}
use Rattle.sigstore_policy.specs.Policy.{Meaning, meaning_in}
use Rattle.sigstore_policy.specs.declared.policy.SigningPolicy.{SigningPolicy}
use Rattle.sigstore_tuf_rules.specs.declared.chain.TrustChain.{TrustChain}
use Rattle.sigstore_tuf_rules.specs.declared.config.UpdaterConfig.{UpdaterConfig}
use Rattle.trust_archive.specs.Archive.{IsArchive}
use Rattle.trust_archive.specs.Spelling.{spelling_of}
use Rattle.sigstore_verify.specs.declared.by_rules.RuleAcceptance.{RuleAcceptance}
use Rattle.sigstore_verify.specs.declared.by_rules.RulesFault.{RulesFault}
use Rattle.sigstore_verify.specs.ByRules.{RulesInputs, RunsByRules, PromisesByRules}
use Rattle.sigstore_verify.specs.Inputs.{Anchor, Outside}
use Rattle.command_files.specs.declared.gather.Gathered.{Gathered}
use Rattle.command_files.specs.declared.tables.TableProvider.{TableProvider}
use Rattle.command_files.specs.declared.tables.Tables.{Tables}
use Rattle.command_files.specs.Tables.{crypto_of}
use Rattle.command_verify.specs.Run.{given_with, given_of, given_under}
use Rattle.command_verify.specs.declared.request.VerifyRequest.{VerifyRequest}
use Rattle.question_notes.specs.Believing.{believing}
use Rattle.question_notes.specs.declared.noted.Noted.{Noted}
use Rattle.command_questions.specs.Means.{Asks}
use Rattle.command_questions.specs.Suffice.{rule_at, IsTrustedFor, IsAcceptedUnder, IsAcceptedAlone, Suffice}

-- the archive that was written is read again
pub trusted_alone : (anchor : Anchor) (name : List ℕ) (chain again : TrustChain) (bytes read : List ℕ) (config : UpdaterConfig) → spelling_of chain ≡ Ok bytes
    → read ≡ bytes → config ≡ anchor.config
    → IsArchive anchor.crypto anchor.root anchor.now config.max_delegations name read again → IsTrustedFor anchor name chain
trusted_alone anchor name chain again bytes read config spelled same limits held =
    let limited : IsArchive anchor.crypto anchor.root anchor.now anchor.config.max_delegations name read again =
    subst (λ (c : UpdaterConfig). IsArchive anchor.crypto anchor.root anchor.now c.max_delegations name read again) limits held in
    record {
      bytes = bytes;
      spelled = spelled;
      again = again;
      archive = subst (λ (b : List ℕ). IsArchive anchor.crypto anchor.root anchor.now anchor.config.max_delegations name b again) same limited;
    }

-- ---- a verification

-- the run with the provider that notes
pub ran_noting : (request : VerifyRequest) (before after : Outside) (result : Result RuleAcceptance RulesFault) (held given : TableProvider) → held ≡ given
    → PromisesByRules (given_of (believing held.rows) request) before after result → RunsByRules (given_of (believing given.rows) request) before after result
ran_noting request before after result held given same promises =
    subst (λ (t : TableProvider). RunsByRules (given_of (believing t.rows) request) before after result) same promises.runs

module _ (gathered : Gathered) (now : jiff.Timestamp) (rules : List SigningPolicy) (root bundle : List ℕ) (ruled : rules ≡ gathered.rules) (rooted : root ≡ gathered.root)
    (bundled : bundle ≡ gathered.bundle) where
  pub same_inputs : (crypto : Crypto) → given_with crypto (map meaning_in rules) root bundle now ≡ given_under crypto gathered now
  same_inputs crypto =
      ap (λ (p : List SigningPolicy). given_with crypto (map meaning_in p) root bundle now) ruled
      ∙ ap (λ (r : List ℕ). given_with crypto (map meaning_in gathered.rules) r bundle now) rooted
      ∙ ap (λ (b : List ℕ). given_with crypto (map meaning_in gathered.rules) gathered.root b now) bundled

  -- what was noted is asked by the inputs, and suffices
  pub asks : (before after : Outside) (judged : Result RuleAcceptance RulesFault) (held : TableProvider) (noted : Result Noted NoMemory)
      → held ≡ gathered.tables.provider → RunsByRules (given_with (believing held.rows) (map meaning_in rules) root bundle now) before after judged
      → IfOk noted (λ n. Suffice (given_with (crypto_of n.tables) (map meaning_in rules) root bundle now) judged)
      → IfOk noted (λ n. Asks gathered now n.tables before after)
  asks before after judged held (Err e) same runs suffice = tt
  asks before after judged held (Ok n) same runs suffice =
      let asked : RunsByRules (given_with (believing gathered.tables.provider.rows) (map meaning_in rules) root bundle now) before after judged =
      subst (λ (t : TableProvider). RunsByRules (given_with (believing t.rows) (map meaning_in rules) root bundle now) before after judged) same runs in
      record {
        judged = judged;
        runs = subst (λ (given : RulesInputs). RunsByRules given before after judged) (same_inputs (believing gathered.tables.provider.rows)) asked;
        suffice = subst (λ (given : RulesInputs). Suffice given judged) (same_inputs (crypto_of n.tables)) suffice;
      }

-- at the same moment
pub asks_at : (gathered : Gathered) (now told : jiff.Timestamp) (rows : Tables) (before after : Outside) → now ≡ told → Asks gathered now rows before after
    → Asks gathered told rows before after
asks_at gathered now told rows before after same a = subst (λ n. Asks gathered n rows before after) same a

-- ---- where the check ends well

-- the rule of a number means what that of the meanings does
pub rule_meant : (rules : List SigningPolicy) (number : ℕ) (policy : SigningPolicy) → rule_at rules number ≡ Some policy
    → rule_at (map meaning_in rules) number ≡ Some (meaning_in policy)
rule_meant rules number policy h = by (number == 0) h
  where
    got : (list : List SigningPolicy) (i : ℕ) → slice_get list i ≡ Some policy → slice_get (map meaning_in list) i ≡ Some (meaning_in policy)
    got [] i k = cc
    got (x ∷ xs) zero k = let same : x ≡ policy = cc in ap (λ p. Some (meaning_in p)) same
    got (x ∷ xs) (suc i) k = got xs i k

    by : (t : Bool) → (if t then None else slice_get rules (number - 1)) ≡ Some policy
        → (if t then None else slice_get (map meaning_in rules) (number - 1)) ≡ Some (meaning_in policy)
    by true k = cc
    by false k = got rules (number - 1) k

-- the bundle is accepted, with what was read
pub accepted_alone : (given : RulesInputs) (rules : List SigningPolicy) (ruled : RuleAcceptance) (policy : SigningPolicy) (trust : TrustedRoot) (reading : Bundle)
    (digests : List ArtifactDigest) (checked : Result ⊤ NoMemory) → given.rules ≡ map meaning_in rules → rule_at rules ruled.rule ≡ Some policy
    → trusted_root_of_bytes ruled.acceptance.chain.file ≡ Ok trust → bundle_of_bytes given.bundle ≡ Ok reading → digests ≡ ruled.acceptance.digests
    → OnOk checked (IsAcceptedUnder given.anchor.crypto trust (meaning_in policy) given.anchor.now reading digests) → OnOk checked (IsAcceptedAlone given ruled)
accepted_alone given rules ruled policy trust reading digests (Err e) meant at file read same under = tt
accepted_alone given rules ruled policy trust reading digests (Ok x) meant at file read same under = record {
  policy = meaning_in policy;
  at = ap (λ (means : List Meaning). rule_at means ruled.rule) meant ∙ rule_meant rules ruled.rule policy at;
  trust = trust;
  trust_read = file;
  reading = reading;
  read = read;
  under = subst (λ (d : List ArtifactDigest). IsAcceptedUnder given.anchor.crypto trust (meaning_in policy) given.anchor.now reading d) same under;
}

-- the chain is trusted and the bundle accepted
pub both : (A B : Type 0) (checked : Result ⊤ NoMemory) → A → OnOk checked B → OnOk checked (A × B)
both A B (Err e) a b = tt
both A B (Ok x) a b = (a, b)
