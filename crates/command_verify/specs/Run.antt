-- A run of the program: what it reads, what it says, and what it writes.
use Rattle.std.specs.Prelude.{◌≡◌, ◌⊎◌, ℕ, ◌^◌, nat_lt, List, [], ◌∷◌, ◌++◌, length, map, codes, Bool}
use Rattle.std.specs.Prelude.{Option, Some, None, Result, Ok, Err}
use Rattle.std.specs.Fmt.{decimal}
use Rattle.jiff_core.specs.declared.timestamp.Timestamp as jiff
use Rattle.foundation.specs.Watched.{Watched, Rose}
use Rattle.foundation.specs.declared.no_memory.NoMemory.{NoMemory}
use Rattle.sigstore_keys.specs.Crypto.{Crypto}
use Rattle.sigstore_policy.specs.Policy.{Meaning, meaning_in}
use Rattle.sigstore_tuf_text.specs.declared.error.Error.{Error as TufError}
use Rattle.sigstore_tuf_text.specs.Error as tuf
use Rattle.sigstore_tuf_rules.specs.Config.{default_config}
use Rattle.sigstore_judgement.specs.declared.error.Error.{Error as VerifyError}
use Rattle.sigstore_judgement.specs.Error as verify
use Rattle.sigstore_verify.specs.declared.by_rules.RuleAcceptance.{RuleAcceptance}
use Rattle.sigstore_verify.specs.declared.by_rules.RulesFault.{RulesFault}
use Rattle.sigstore_verify.specs.declared.by_rules.RulesFault.TheVariants.{Root, Each}
use Rattle.sigstore_verify.specs.declared.from_root.RootFault.{RootFault}
use Rattle.sigstore_verify.specs.declared.from_root.RootFault.TheVariants as root
use Rattle.sigstore_tuf_outside.specs.Repository.{Files, Folders}
use Rattle.sigstore_verify.specs.ByRules.{RulesInputs, rules_inputs_by, RunsByRules, IsAcceptedByRule, RulesFaultCause}
use Rattle.sigstore_verify.specs.Inputs.{Anchor, anchor_by, Outside, outside_by}
use Rattle.command_files.specs.Answer.{answer}
use Rattle.command_files.specs.Ending.{TakesAll, SaysAndEnds}
use Rattle.command_files.specs.Gather.{gathered_of}
use Rattle.command_files.specs.Inputs.{Supply}
use Rattle.command_files.specs.Layout.{layout_of}
use Rattle.command_files.specs.Printed.{pair_line, refused_line}
use Rattle.command_files.specs.Starting as start
use Rattle.command_files.specs.Starting.{Command, now_of, Begins, Decides, Misuses, LacksInput}
use Rattle.command_files.specs.Tables.{crypto_of}
use Rattle.command_files.specs.declared.answer.Answer.{Answer}
use Rattle.command_files.specs.declared.answer.Status.{Status}
use Rattle.command_files.specs.declared.answer.Status.TheVariants as status
use Rattle.command_files.specs.declared.gather.Anchored.{Anchored}
use Rattle.command_files.specs.declared.gather.Gathered.{Gathered}
use Rattle.command_files.specs.declared.layout.Layout.{Layout}
use Rattle.command_verify.specs.declared.request.VerifyRequest.{VerifyRequest}
use Rattle.command_verify.specs.Report.{rule_report_of}

unfoldable pub tuf_answer : TufError → Answer
tuf_answer e = answer status.Refused (refused_line (codes "tuf") (tuf.number_of e) (tuf.name_of e))

unfoldable pub verify_answer : VerifyError → Answer
verify_answer e = answer status.Refused (refused_line (codes "verify") (verify.number_of e) (verify.name_of e))

-- `or N Name`, the refusal of a later rule
abbrev pub other_line : VerifyError → List ℕ
other_line e = pair_line (codes "or") (decimal (verify.number_of e) ++ 32 ∷ verify.name_of e)

abbrev pub others_text : List VerifyError → List ℕ
others_text [] = []
others_text (e ∷ faults) = other_line e ++ others_text faults

-- the first rule's refusal, and a line for each later rule
abbrev pub each_text : List VerifyError → List ℕ
each_text [] = []
each_text (e ∷ faults) = refused_line (codes "verify") (verify.number_of e) (verify.name_of e) ++ others_text faults

unfoldable pub each_answer : List VerifyError → Answer
each_answer faults = answer status.Refused (each_text faults)

-- what is said of a refusal that all rules share; nothing where memory is wanting
abbrev pub shared_answer : RootFault → Option Answer
shared_answer (root.Tuf e) = Some (tuf_answer e)
shared_answer (root.Verify fault chain) = Some (verify_answer fault)
shared_answer root.NoMemory = None

-- what is said of a refusal
unfoldable pub refusal_answer : RulesFault → Option Answer
refusal_answer (Root fault) = shared_answer fault
refusal_answer (Each faults chain) = Some (each_answer faults)

abbrev pub max_artifact : ℕ
max_artifact = 2 ^ 40

-- from what a chain is trusted: the tables, the root that was read, the client's limits, and the moment
abbrev pub anchor_of : Anchored → jiff.Timestamp → Anchor
anchor_of anchored now = anchor_by (crypto_of anchored.tables) anchored.root default_config now

-- what the top call is given: who decides signatures and reads armoured texts, the rules, the root, the bundle, the program's limits,
-- and the moment
abbrev pub given_with : Crypto → List Meaning → List ℕ → List ℕ → jiff.Timestamp → RulesInputs
given_with crypto rules root bundle now = rules_inputs_by (anchor_by crypto root default_config now) rules bundle max_artifact

-- what is asked for
abbrev pub given_of : Crypto → VerifyRequest → RulesInputs
given_of crypto request = given_with crypto (map meaning_in request.rules.now) request.root.now request.bundle.now request.moment

-- what the inputs ask for, but for their tables
abbrev pub given_under : Crypto → Gathered → jiff.Timestamp → RulesInputs
given_under crypto gathered now = given_with crypto (map meaning_in gathered.rules) gathered.root gathered.bundle now

-- the same of the inputs, whose tables decide
abbrev pub given_by : Gathered → jiff.Timestamp → RulesInputs
given_by gathered now = given_under (crypto_of gathered.tables) gathered now

-- what a run finds and leaves, but for its output
abbrev pub Environment : Type 0
Environment = start.Environment Outside

abbrev pub environment_by : Supply → Watched Folders → Watched Files → Watched (List ℕ) → Environment
environment_by inputs repo store source = record { inputs = inputs; outside = outside_by repo store source }

-- what is said of an acceptance: its report, or the refusal of a document of its chain that isn't read
abbrev pub said_of : Result (List ℕ) TufError → Option Answer
said_of (Ok text) = Some (answer status.Accepted text)
said_of (Err e) = Some (tuf_answer e)

abbrev pub Reports : Bool → RuleAcceptance → Answer → Type 0
Reports several accepted said = said_of (rule_report_of several accepted) ≡ Some said

-- what is said of the verification's answer, under several rules or one
abbrev pub Answers : Bool → Result RuleAcceptance RulesFault → Answer → Type 0
Answers several (Ok accepted) said = Reports several accepted said
Answers several (Err fault) said = refusal_answer fault ≡ Some said

-- the inputs ask for several rules
abbrev pub are_several : Gathered → Bool
are_several gathered = nat_lt 1 (length gathered.rules)

-- the report is said
pub record SaysReport (several : Bool) (accepted : RuleAcceptance) (said : Answer) : Type 0 where
  pub text : List ℕ
  pub reported : rule_report_of several accepted ≡ Ok text
  pub said_is : said ≡ answer status.Accepted text

-- What the verification makes the program say: the report of what was accepted, or the refusal.
pub data Judges (gathered : Gathered) (now : jiff.Timestamp) (before after : Outside) (result : Result Answer NoMemory) : Type 0 where
  want_judging : (judged : Result RuleAcceptance RulesFault) (e : NoMemory) → RunsByRules (given_by gathered now) before after judged
      → result ≡ Err e → Judges gathered now before after result
  refused : (fault : RulesFault) (said : Answer) → RunsByRules (given_by gathered now) before after (Err fault)
      → RulesFaultCause (given_by gathered now) before after fault → refusal_answer fault ≡ Some said → result ≡ Ok said
      → Judges gathered now before after result
  reported : (accepted : RuleAcceptance) (said : Answer) → RunsByRules (given_by gathered now) before after (Ok accepted)
      → IsAcceptedByRule (given_by gathered now) before after accepted
      → SaysReport (are_several gathered) accepted said → result ≡ Ok said → Judges gathered now before after result

-- What the program says: its words first, then its inputs, then the verification; the first that refuses answers.
abbrev pub Says : Command → Environment → Environment → Result Answer NoMemory → Type 0
Says command before after result =
    Decides (layout_of command.words) gathered_of (λ said. said) (λ layout gathered. Judges gathered (now_of layout command.clock))
    before after result

-- a run: what is said is written
abbrev pub RunsTo : Command → Environment → Environment → Watched (List ℕ) → Watched (List ℕ) → Status → Type 0
RunsTo command before after out out' ended = SaysAndEnds (Says command before after) out out' ended

-- the words give a layout, and the inputs were read
pub record Asked (command : Command) (before after : Environment) : Type 0 where
  pub layout : Layout
  pub gathered : Gathered
  pub read : Begins (layout_of command.words) gathered_of before.inputs after.inputs layout gathered

abbrev pub given_in : {command : Command} {before after : Environment} → Asked command before after → RulesInputs
given_in {command} asked = given_by asked.gathered (now_of asked.layout command.clock)

-- What status 0 means: the words give a layout, the inputs were read, the verification from the root accepted by a rule, and the sink
-- took exactly the report's text.
pub record Accepts (command : Command) (before after : Environment) (out out' : Watched (List ℕ)) : Type 0 where
  pub asked : Asked command before after
  pub ruled : RuleAcceptance
  pub verified : RunsByRules (given_in asked) before.outside after.outside (Ok ruled)
  pub accepted : IsAcceptedByRule (given_in asked) before.outside after.outside ruled
  pub text : List ℕ
  pub reported : rule_report_of (are_several asked.gathered) ruled ≡ Ok text
  pub written : TakesAll out out' text

-- What status 1 means: the words give a layout, the inputs were read, the verification from the root refused, for its cause, and
-- the sink took exactly the refusal's lines.
pub record Refuses (command : Command) (before after : Environment) (out out' : Watched (List ℕ)) : Type 0 where
  pub asked : Asked command before after
  pub fault : RulesFault
  pub verified : RunsByRules (given_in asked) before.outside after.outside (Err fault)
  pub cause : RulesFaultCause (given_in asked) before.outside after.outside fault
  pub said : Answer
  pub line : refusal_answer fault ≡ Some said
  pub written : TakesAll out out' said.text

-- What each status means. 4: the count of the sink's faults rose. 5: nothing was written.
abbrev pub Means : Command → Environment → Environment → Watched (List ℕ) → Watched (List ℕ) → Status → Type 0
Means command before after out out' status.Accepted = Accepts command before after out out'
Means command before after out out' status.Refused = Refuses command before after out out'
Means command before after out out' status.Usage = Misuses (layout_of command.words) before after out out'
Means command before after out out' status.Input = LacksInput before after out out'
Means command before after out out' status.Output = Rose out.faults out'.faults
Means command before after out out' status.Memory = out' ≡ out
