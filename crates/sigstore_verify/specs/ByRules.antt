-- The top call under rules: what it is given, what its answers mean, and what it promises.
use Rattle.std.specs.Prelude.{◌≡◌, ◌⊎◌, ℕ, suc, ◌≤◌, List, [], ◌∷◌, ◌++◌, length, map, Result, Ok, Err, IfOk, IfErr}
use Rattle.std.specs.List.{AllZip}
use Rattle.sigstore_policy.specs.Policy.{Meaning, meaning_in}
use Rattle.sigstore_types.specs.declared.bundle.Bundle.{Bundle}
use Rattle.sigstore_tuf_text.specs.declared.error.Error.{Error as TufError}
use Rattle.sigstore_tuf_rules.specs.declared.chain.TrustChain.{TrustChain}
use Rattle.sigstore_judgement.specs.declared.asked.RulesAsked as declared
use Rattle.sigstore_judgement.specs.declared.error.Error.{Error}
use Rattle.sigstore_judgement.specs.declared.rules.JudgedByRule.{JudgedByRule}
use Rattle.sigstore_judgement.specs.declared.rules.RulesError.{RulesError}
use Rattle.sigstore_judgement.specs.declared.rules.RulesError.TheVariants.{Shared, Each as EachOf}
use Rattle.sigstore_judgement.specs.declared.trust.Material.{Material}
use Rattle.sigstore_judgement.specs.Artifact.{Read}
use Rattle.sigstore_judgement.specs.Cause.{JudgeCause}
use Rattle.sigstore_judgement.specs.Judged.{judged_of}
use Rattle.sigstore_judgement.specs.Rules.{NoneWants}
use Rattle.sigstore_judgement.specs.Under.{terms_of}
use Rattle.sigstore_judgement.specs.UnderRules.{RulesAsked, JudgesByRules, rules_verdict_by}
use Rattle.sigstore_verify.specs.declared.by_rules.RuleAcceptance.{RuleAcceptance}
use Rattle.sigstore_verify.specs.declared.by_rules.RulesFault.{RulesFault}
use Rattle.sigstore_verify.specs.declared.by_rules.RulesFault.TheVariants.{Root, Each}
use Rattle.sigstore_verify.specs.declared.from_root.RootFault.{RootFault}
use Rattle.sigstore_verify.specs.declared.from_root.RootFault.TheVariants.{Verify, NoMemory}
use Rattle.sigstore_verify.specs.Cause.{RootCause}
use Rattle.sigstore_verify.specs.Complete.{TellsQuietly, OffersChain, StaysWarm}
use Rattle.sigstore_verify.specs.FromRoot.{TrustsChain, GivesChain, IsAccepted, root_of_tuf, root_of_verify}
use Rattle.sigstore_verify.specs.Inputs.{Anchor, VerifyInputs, inputs_by, Outside, places_in, asked_by}
use Rattle.sigstore_verify.specs.Promises.{HasStored}

-- ---- what is given

-- from what a chain is trusted, the rules, the bundle's bytes, and the greatest length of the artifact
pub record RulesInputs : Type 0 where
  pub anchor : Anchor
  pub rules : List Meaning
  pub bundle : List ℕ
  pub max : ℕ

abbrev pub rules_inputs_by : Anchor → List Meaning → List ℕ → ℕ → RulesInputs
rules_inputs_by anchor rules bundle max = record { anchor = anchor; rules = rules; bundle = bundle; max = max }

-- those of a call of the code
abbrev pub rules_inputs_with : Anchor → declared.RulesAsked → RulesInputs
rules_inputs_with anchor asks = rules_inputs_by anchor (map meaning_in asks.rules.now) asks.bundle.now asks.max_artifact

-- the same under one policy
abbrev pub given_under : RulesInputs → Meaning → VerifyInputs
given_under given policy = inputs_by given.anchor policy given.bundle given.max

-- what is asked of a bundle under a chain's trust file
abbrev pub rules_asked_by : RulesInputs → RulesAsked
rules_asked_by given = record {
  crypto = given.anchor.crypto;
  rules = given.rules;
  now = given.anchor.now;
  bundle = given.bundle;
  max = given.max;
}

-- ---- the whole

-- the call's answer by the judgement's, with the chain whose trust file it is over
abbrev pub ruled_of : TrustChain → Result JudgedByRule RulesError → Result RuleAcceptance RulesFault
ruled_of chain (Ok accepted) = Ok (record {
  rule = accepted.rule;
  acceptance = record { result = accepted.judged.result; chain = chain; digests = accepted.judged.digests };
})
ruled_of chain (Err (Shared e)) = Err (Root (root_of_verify e chain))
ruled_of chain (Err (EachOf faults)) = Err (Each faults chain)

-- The call is the chain, and then the judgement under the chain's file. The artifact stays unread where there is no chain.
pub data RunsByRules (given : RulesInputs) (before after : Outside) (result : Result RuleAcceptance RulesFault) : Type 0 where
  chain_refused : (e : TufError) → GivesChain given.anchor before.repo after.repo before.store after.store (Err e)
      → after.source ≡ before.source → result ≡ Err (Root (root_of_tuf e)) → RunsByRules given before after result
  judged : (chain : TrustChain) (answer : Result JudgedByRule RulesError)
      → GivesChain given.anchor before.repo after.repo before.store after.store (Ok chain)
      → JudgesByRules (rules_asked_by given) chain.file before.source after.source answer → result ≡ ruled_of chain answer
      → RunsByRules given before after result

-- ---- what its answers mean

-- the bundle that was read is refused over the artifact's bytes under this policy
abbrev pub IsRefusedUnder : RulesInputs → Material → Bundle → List ℕ → Meaning → Error → Type 0
IsRefusedUnder given material reading bytes policy e =
    judged_of (terms_of (asked_by (given_under given policy)) material) reading (Read bytes) ≡ Err e

-- What an acceptance means: one of the rules has this number, counted from 1, and under its policy alone the acceptance is one of
-- `verify_from_root`; under each rule before it the same bundle is refused over the same bytes.
pub record IsAcceptedByRule (given : RulesInputs) (before after : Outside) (accepted : RuleAcceptance) : Type 0 where
  pub earlier : List Meaning
  pub policy : Meaning
  pub later : List Meaning
  pub split : given.rules ≡ earlier ++ policy ∷ later
  pub number : accepted.rule ≡ suc (length earlier)
  pub under : IsAccepted (given_under given policy) before after accepted.acceptance
  pub refusals : List Error
  pub refused : AllZip (IsRefusedUnder given under.material under.reading under.bytes) earlier refusals

-- What a refusal means. Of what all rules share it has its cause under every policy; else each rule's has its cause under that rule's, in
-- the file of the chain that is handed back, which is trusted. Want of memory is never told as another.
abbrev pub RulesFaultCause : RulesInputs → Outside → Outside → RulesFault → Type 0
RulesFaultCause given before after (Root fault) = (policy : Meaning) → RootCause (given_under given policy) before after fault
RulesFaultCause given before after (Each faults chain) =
    TrustsChain given.anchor chain × NoneWants faults
    × AllZip (λ policy e. JudgeCause (asked_by (given_under given policy)) chain.file before.source after.source e) given.rules faults

-- ---- when it has to accept

-- nothing outside fails: a chain is offered, and the artifact's source tells these bytes, within the limit
pub record FavoursRules (given : RulesInputs) (before after : Outside) (chain : TrustChain) (bytes : List ℕ) : Type 0 where
  pub offer : OffersChain given.anchor (places_in before) (places_in after) chain
  pub source : TellsQuietly before.source after.source bytes
  pub short : length bytes ≤ given.max

-- Where a chain is offered and nothing outside fails, the answer is want of memory, or the verdict over the chain's trust file: the first
-- rule that accepts, and else what each refuses; and the store stays warm.
abbrev pub CompletesByRules : RulesInputs → Outside → Outside → Result RuleAcceptance RulesFault → Type 0
CompletesByRules given before after result =
    (chain : TrustChain) (bytes : List ℕ) (favours : FavoursRules given before after chain bytes)
    → (result ≡ Err (Root NoMemory))
    ⊎ ((result ≡ ruled_of chain (rules_verdict_by (rules_asked_by given) chain.file bytes)) × StaysWarm after.store favours.offer)

-- what Ok means, what each refusal means, which call answers, when the answer has to be Ok, and what the store then has
pub record PromisesByRules (given : RulesInputs) (before after : Outside) (result : Result RuleAcceptance RulesFault) : Type 0 where
  pub accepted : IfOk result (IsAcceptedByRule given before after)
  pub refused : IfErr result (RulesFaultCause given before after)
  pub runs : RunsByRules given before after result
  pub complete : CompletesByRules given before after result
  pub stored : IfOk result (λ accepted. HasStored (places_in before) (places_in after) accepted.acceptance.chain)

-- ---- one rule

-- what is answered under one rule means what `verify_from_root` means under its policy
abbrev pub MeansAlone : RulesInputs → Meaning → Outside → Outside → Result RuleAcceptance RulesFault → Type 0
MeansAlone given policy before after (Ok accepted) =
    (accepted.rule ≡ 1) × IsAccepted (given_under given policy) before after accepted.acceptance
MeansAlone given policy before after (Err (Root fault)) = RootCause (given_under given policy) before after fault
MeansAlone given policy before after (Err (Each faults chain)) =
    (e : Error) × (faults ≡ e ∷ []) × RootCause (given_under given policy) before after (Verify e chain)

abbrev pub OneRuleAlone : Type 0
OneRuleAlone = (given : RulesInputs) (policy : Meaning) (before after : Outside) (result : Result RuleAcceptance RulesFault)
    → given.rules ≡ policy ∷ [] → PromisesByRules given before after result → MeansAlone given policy before after result
