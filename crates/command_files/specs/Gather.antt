-- The inputs of a run, read in their order: the policy, the provider's tables, the root, the bundle; of some runs not all of them.
use Rattle.std.specs.Prelude.{◌≡◌, ◌≢◌, ◌⊎◌, ℕ, List, length, codes, nat_lt, if◌then◌else◌, Option, Some, None, Result}
use Rattle.std.specs.Prelude.{Ok, Err, IfOk, IfErr, ⊤}
use Rattle.foundation.specs.Steps.{◌>>=◌}
use Rattle.foundation.specs.Watched.{Rose, IfTold, Since}
use Rattle.command_files.specs.Inputs.{Held, Supply, watched}
use Rattle.command_files.specs.Rules.{rules_of}
use Rattle.command_files.specs.Tables.{tables_of}
use Rattle.command_files.specs.declared.usage_fault.UsageFault.{UsageFault}
use Rattle.command_files.specs.declared.usage_fault.UsageFault.TheVariants as usage
use Rattle.command_files.specs.declared.inputs.InputFile.{InputFile}
use Rattle.command_files.specs.declared.inputs.InputFile.TheVariants.{Root, Bundle, Policy, Provider}
use Rattle.command_files.specs.declared.inputs.InputFault.{InputFault}
use Rattle.command_files.specs.declared.inputs.InputFault.TheVariants as input
use Rattle.command_files.specs.declared.gather.CommandStop.{CommandStop}
use Rattle.command_files.specs.declared.gather.CommandStop.TheVariants.{Words, Malformed, Input, Memory}
use Rattle.command_files.specs.declared.gather.Gathered.{Gathered}
use Rattle.command_files.specs.declared.gather.Anchored.{Anchored}
use Rattle.command_files.specs.declared.gather.Governed.{Governed}
use Rattle.sigstore_policy.specs.declared.policy.SigningPolicy.{SigningPolicy}
use Rattle.command_files.specs.declared.tables.Tables.{Tables}

-- the greatest length of an input in bytes
abbrev pub limit_of : InputFile → ℕ
limit_of Root = 512_000
limit_of Bundle = 16_777_216
limit_of Policy = 65_536
limit_of Provider = 16_777_216

abbrev pub word_of : InputFile → List ℕ
word_of Root = codes "root"
word_of Bundle = codes "bundle"
word_of Policy = codes "policy"
word_of Provider = codes "provider"

-- an input that is there and isn't too long
abbrev pub within_limit : InputFile → Option (List ℕ) → Result (List ℕ) CommandStop
within_limit which None = Err (Input which)
within_limit which (Some bytes) = if nat_lt (limit_of which) (length bytes) then Err (Input which) else Ok bytes

unfoldable pub input_of : InputFile → Held → Result (List ℕ) CommandStop
input_of which held = within_limit which (held which)

-- what a fault of an input stops the run with
abbrev pub stop_of : InputFile → InputFault → CommandStop
stop_of which input.Failed = Input which
stop_of which input.Absent = Input which
stop_of which (input.TooLong seen) = Input which
stop_of which input.NoMemory = Memory

-- a file outside its grammar
abbrev pub by_form : {A : Type 0} → InputFile → Result A UsageFault → Result A CommandStop
by_form which (Ok x) = Ok x
by_form which (Err usage.Usage) = Err (Malformed which)
by_form which (Err usage.NoMemory) = Err Memory

unfoldable pub rules_in : Held → Result (List SigningPolicy) CommandStop
rules_in held = input_of Policy held >>= λ bytes. by_form Policy (rules_of bytes)

unfoldable pub tables_in : Held → Result Tables CommandStop
tables_in held = input_of Provider held >>= λ bytes. by_form Provider (tables_of bytes)

-- the tables and the root alone, or the first refusal
unfoldable pub anchored_of : Held → Result Anchored CommandStop
anchored_of held =
    tables_in held >>= λ tables.
    input_of Root held >>= λ root.
    Ok (record { tables = tables; root = root })

-- the policy's rules before them, or the first refusal
unfoldable pub governed_of : Held → Result Governed CommandStop
governed_of held =
    rules_in held >>= λ rules.
    anchored_of held >>= λ anchored.
    Ok (record { rules = rules; anchored = anchored })

abbrev pub with_bundle : Governed → List ℕ → Gathered
with_bundle governed bundle = record {
  rules = governed.rules;
  tables = governed.anchored.tables;
  root = governed.anchored.root;
  bundle = bundle;
}

-- the bundle behind them, or the first refusal
unfoldable pub gathered_of : Held → Result Gathered CommandStop
gathered_of held =
    governed_of held >>= λ governed.
    input_of Bundle held >>= λ bundle.
    Ok (with_bundle governed bundle)

-- bytes that told inputs hold within their limit, and that are outside their grammar
pub record IsMalformed {A : Type 0} (which : InputFile) (reads : List ℕ → Result A UsageFault) (seen : Supply) : Type 0 where
  pub bytes : List ℕ
  pub there : IfTold seen.told (λ held. input_of which held ≡ Ok bytes)
  pub malformed : reads bytes ≡ Err usage.Usage

-- the policy or the provider's file is outside its grammar
abbrev pub MalformedCause : InputFile → Supply → Type 0
MalformedCause Policy seen = IsMalformed Policy rules_of seen
MalformedCause Provider seen = IsMalformed Provider tables_of seen
MalformedCause Root seen = ⊥
MalformedCause Bundle seen = ⊥

-- Why the inputs stop a run: one is outside its grammar; or one is the last that wasn't given, and the count of faults rose, or told
-- inputs lack it or hold it longer than its limit; or memory is wanting.
abbrev pub StopCause : Supply → Supply → CommandStop → Type 0
StopCause old new Words = ⊥
StopCause old new (Malformed which) = MalformedCause which old
StopCause old new (Input which) =
    (new.missing ≡ Some which)
    × (Rose old.faults new.faults ⊎ IfTold old.told (λ held. input_of which held ≡ Err (Input which)))
StopCause old new Memory = ⊤

-- The promise of a reading: over told inputs the answer is this one, unless a reading failed or memory was wanting; and what
-- stops the run has its cause.
pub record ReadsAs {A : Type 0} (of : Held → Result A CommandStop) (old new : Supply) (result : Result A CommandStop) : Type 0 where
  pub since : Since (watched old) (watched new)
  pub ok : IfOk result (λ x. IfTold old.told (λ held. of held ≡ Ok x))
  pub err : IfErr result (λ e. e ≢ Memory → Rose old.faults new.faults ⊎ IfTold old.told (λ held. of held ≡ Err e))
  pub cause : IfErr result (StopCause old new)
