-- What the parts of a run say of the whole.
use Rattle.std.proofs.Common.{◌≡◌, ℕ, List, map, Bool, Some, Result, Ok, Err, IfOk, refl, sym, ap, ◌∙◌, subst}
use Rattle.foundation.specs.Steps.{◌>>=◌}
use Rattle.sigstore_policy.specs.declared.policy.SigningPolicy.{SigningPolicy}
use Rattle.jiff_core.specs.declared.timestamp.Timestamp as jiff
use Rattle.foundation.specs.declared.no_memory.NoMemory.{NoMemory}
use Rattle.sigstore_keys.specs.Crypto.{Crypto}
use Rattle.sigstore_policy.specs.Policy.{Meaning, meaning_in}
use Rattle.sigstore_tuf_rules.specs.Config.{default_config}
use Rattle.sigstore_tuf_rules.specs.declared.config.UpdaterConfig.{UpdaterConfig}
use Rattle.sigstore_verify.specs.declared.by_rules.RuleAcceptance.{RuleAcceptance}
use Rattle.sigstore_verify.specs.declared.by_rules.RulesFault.{RulesFault}
use Rattle.sigstore_verify.specs.ByRules.{rules_inputs_by, IsAcceptedByRule, PromisesByRules}
use Rattle.sigstore_verify.specs.FromRoot.{trust_path}
use Rattle.sigstore_verify.specs.Inputs.{anchor_by, Outside}
use Rattle.command_files.specs.Tables.{crypto_of}
use Rattle.command_files.specs.declared.answer.Answer.{Answer}
use Rattle.command_files.specs.declared.gather.Gathered.{Gathered}
use Rattle.command_verify.proofs.ReportThere.{report_there}
use Rattle.command_verify.specs.Run as r
use Rattle.command_verify.specs.Report.{rule_added, rule_report_of}
use Rattle.command_verify.specs.Run.{max_artifact, given_with, given_by, said_of, Reports, Answers, are_several, SaysReport, Judges}

-- the verification was called within the program's limits
pub on_request : (crypto : Crypto) (rules : List Meaning) (root bundle : List ℕ) (now : jiff.Timestamp) (before after : Outside) (result : Result RuleAcceptance RulesFault) (config : UpdaterConfig)
    → config ≡ default_config → PromisesByRules (rules_inputs_by (anchor_by crypto root config now) rules bundle max_artifact) before after result
    → PromisesByRules (given_with crypto rules root bundle now) before after result
on_request crypto rules root bundle now before after result config e h =
    subst (λ (x : UpdaterConfig). PromisesByRules (rules_inputs_by (anchor_by crypto root x now) rules bundle max_artifact) before after result) e h

-- the chain of an acceptance is trusted, so its report is what is said
report_said : (g : Gathered) (now : jiff.Timestamp) (before after : Outside) (accepted : RuleAcceptance) (said : Answer) → IsAcceptedByRule (given_by g now) before after accepted
    → Reports (are_several g) accepted said → SaysReport (are_several g) accepted said
unfolding rule_report_of
report_said g now before after accepted said a h =
    let rooted = accepted.acceptance in
    let t = report_there (crypto_of g.tables) g.root now default_config.max_delegations trust_path rooted.chain rooted.digests rooted.result a.under.trusted in
    let told : rule_report_of (are_several g) accepted ≡ Ok (rule_added (are_several g) accepted.rule t.0) =
    ap (λ r. r >>= λ text. Ok (rule_added (are_several g) accepted.rule text)) t.1 in
    record { text = rule_added (are_several g) accepted.rule t.0; reported = told; said_is = same _ _ (sym h ∙ ap said_of told) }
  where
    same : (x y : Answer) → Some x ≡ Some y → x ≡ y
    same x y e = cc

of_answer : (g : Gathered) (now : jiff.Timestamp) (before after : Outside) (judged : Result RuleAcceptance RulesFault) (result : Result Answer NoMemory)
    → PromisesByRules (given_by g now) before after judged → IfOk result (Answers (are_several g) judged) → Judges g now before after result
of_answer g now before after (Ok accepted) (Ok said) p h = r.reported accepted said p.runs p.accepted (report_said g now before after accepted said p.accepted h) refl
of_answer g now before after (Err fault) (Ok said) p h = r.refused fault said p.runs p.refused h refl
of_answer g now before after judged (Err e) p h = r.want_judging judged e p.runs refl

-- the verification of the inputs, and what is said of it
pub judged_answered : (g : Gathered) (now : jiff.Timestamp) (before after : Outside) (rules : List SigningPolicy) (root bundle : List ℕ) (several : Bool)
    (judged : Result RuleAcceptance RulesFault) (result : Result Answer NoMemory)
    → rules ≡ g.rules → root ≡ g.root → bundle ≡ g.bundle → several ≡ are_several g
    → PromisesByRules (given_with (crypto_of g.tables) (map meaning_in rules) root bundle now) before after judged
    → IfOk result (Answers several judged) → Judges g now before after result
judged_answered g now before after rules root bundle several judged result same r b s p h =
    let with_rules : PromisesByRules (given_with (crypto_of g.tables) (map meaning_in g.rules) root bundle now) before after judged =
    subst (λ (x : List SigningPolicy). PromisesByRules (given_with (crypto_of g.tables) (map meaning_in x) root bundle now) before after judged) same p in
    let with_root : PromisesByRules (given_with (crypto_of g.tables) (map meaning_in g.rules) g.root bundle now) before after judged =
    subst (λ (x : List ℕ). PromisesByRules (given_with (crypto_of g.tables) (map meaning_in g.rules) x bundle now) before after judged) r with_rules in
    of_answer g now before after judged result
    (subst (λ (x : List ℕ). PromisesByRules (given_with (crypto_of g.tables) (map meaning_in g.rules) g.root x now) before after judged) b with_root)
    (subst (λ (x : Bool). IfOk result (Answers x judged)) s h)

-- at the same moment
pub judges_at : (gathered : Gathered) (now told : jiff.Timestamp) (before after : Outside) (result : Result Answer NoMemory)
    → now ≡ told → Judges gathered now before after result → Judges gathered told before after result
judges_at gathered now told before after result same h = subst (λ n. Judges gathered n before after result) same h
