-- What is said where a command is stopped, and when it isn't.
use Rattle.std.proofs.Common.{◌≡◌, ◌⊎◌, inl, inr, ℕ, ◌+◌, ◌-◌, ◌^◌, ◌<◌, List, Some, Result, Ok, Err, IfOk, refl, sym, ap, ◌∙◌, subst, arith}
use Rattle.std.specs.Prelude.{min}
use Rattle.foundation.specs.Watched.{Watched, Rose, IfTold}
use Rattle.foundation.specs.Results.{ok_same, some_same, no_both}
use Rattle.foundation.specs.declared.no_memory.NoMemory.{NoMemory}
use Rattle.command_files.specs.Answer.{stop_answer}
use Rattle.command_files.specs.Ending.{TakesAll}
use Rattle.command_files.specs.Gather.{StopCause, ReadsAs}
use Rattle.command_files.specs.Inputs.{Held, Supply}
use Rattle.command_files.specs.Starting.{Environment, Begins, LacksOne, Stops, misworded, lacking, Starts, AreRead, Misuses, LacksInput}
use Rattle.command_files.specs.declared.answer.Answer.{Answer}
use Rattle.command_files.specs.declared.answer.Status.{Status}
use Rattle.command_files.specs.declared.answer.Status.TheVariants as status
use Rattle.command_files.specs.declared.gather.CommandStop.{CommandStop}
use Rattle.command_files.specs.declared.gather.CommandStop.TheVariants.{Words, Malformed, Input, Memory}
use Rattle.command_files.specs.declared.starting.Started.{Started}
use Rattle.command_files.specs.declared.starting.Started.TheVariants.{Asked, Stopped}
use Rattle.command_files.specs.declared.usage_fault.UsageFault.{UsageFault}
use Rattle.command_files.specs.declared.usage_fault.UsageFault.TheVariants.{Usage}

environment : {O : Type 0} → Supply → O → Environment O
environment inputs outside = record { inputs = inputs; outside = outside }

same_environment : {O : Type 0} (before after : Environment O) → after.inputs ≡ before.inputs → after.outside ≡ before.outside → after ≡ before
unfolding environment
same_environment {O} before after i o = ap (λ (x : Supply). environment x after.outside) i ∙ ap (λ (y : O). environment before.inputs y) o

-- ---- a start

-- what is said of an input, where the words were read
pub lacking_said : {L A : Type 0} (words read : Result L UsageFault) (of : Held → Result A CommandStop) (before after : Supply) (layout : L) (stop : CommandStop) (said : Answer)
    → read ≡ Ok layout → AreRead words read → ReadsAs of before after (Err stop) → stop_answer stop ≡ Some said → Stops words of before after said
lacking_said {L} words read of before after layout stop said is r refused h =
    lacking stop (record { layout = layout; worded = subst (λ (x : Result L UsageFault). IfOk x (λ l. words ≡ Ok l)) is r.ok; refused = refused }) h

-- what was started as this
pub began : {L A : Type 0} (words : Result L UsageFault) (of : Held → Result A CommandStop) (before after : Supply) (started : Started L A) (layout : L) (given : A)
    → started ≡ Asked layout given → Starts words of before after (Ok started) → Begins words of before after layout given
began {L} {A} words of before after started layout given is s = subst (λ (x : Started L A). Starts words of before after (Ok x)) is s

pub was_stopped : {L A : Type 0} (words : Result L UsageFault) (of : Held → Result A CommandStop) (before after : Supply) (started : Started L A) (said : Answer)
    → started ≡ Stopped said → Starts words of before after (Ok started) → Stops words of before after said
was_stopped {L} {A} words of before after started said is s = subst (λ (x : Started L A). Starts words of before after (Ok x)) is s

-- ---- what a stop means

module _ {L A O : Type 0} (words : Result L UsageFault) (of : Held → Result A CommandStop) (before after : Environment O) (out out' : Watched (List ℕ)) (M : Status → Type 0)
    (misuses : Misuses words before after out out' → M status.Usage) (lacks : LacksInput before after out out' → M status.Input) (same : after.outside ≡ before.outside) where
  -- what an answer means that was written is what an equal one means
  as_said : (a b : Answer) → a ≡ b → (TakesAll out out' a.text → M a.status) → TakesAll out out' b.text → M b.status
  as_said a b e f = subst (λ (x : Answer). TakesAll out out' x.text → M x.status) e f

  by_stop : (stop : CommandStop) (said : Answer) → StopCause before.inputs after.inputs stop → stop_answer stop ≡ Some said → TakesAll out out' said.text → M said.status
  unfolding stop_answer
  by_stop Words said c h = absurd c
  by_stop (Malformed which) said c h = as_said _ said (some_same _ said h) (λ w. misuses (inr (which, c, same, w)))
  by_stop (Input which) said c h = as_said _ said (some_same _ said h) (λ w. lacks (which, c, same, w))
  by_stop Memory said c h = cc

  pub stopped_means : (said : Answer) → Stops words of before.inputs after.inputs said → TakesAll out out' said.text → M said.status
  unfolding stop_answer
  stopped_means said (misworded w i h) = as_said _ said (some_same _ said h) (λ t. misuses (inl (w, same_environment before after i same, t)))
  stopped_means said (lacking stop l h) = by_stop stop said l.refused.cause h

-- ---- told inputs that are read without a fault don't stop a command

pub quiet_not_rose : (a b : ℕ) → b < min (a + 1) (2 ^ 64 - 1) → Rose a b → ⊥
quiet_not_rose a b q r = omega arith

unsaid : (said : Answer) → stop_answer Memory ≡ Some said → ⊥
unfolding stop_answer
unsaid said h = cc

-- the words give a layout, and the inputs are read as a value: nothing that is said stops the run, and what is read is these
module _ {L A : Type 0} (words : Result L UsageFault) (of : Held → Result A CommandStop) (before after : Supply) (layout : L) (held : Held) (value : A) (worded : words ≡ Ok layout)
    (told : before.told ≡ Some held) (quiet : Rose before.faults after.faults → ⊥) (is : of held ≡ Ok value) where
  by_either : (stop : CommandStop) → Rose before.faults after.faults ⊎ IfTold before.told (λ held. of held ≡ Err stop) → ⊥
  by_either stop (inl rose) = quiet rose
  by_either stop (inr refuses) = no_both value stop (sym is ∙ subst (λ t. IfTold t (λ held. of held ≡ Err stop)) told refuses)

  by_lacking : (stop : CommandStop) (said : Answer) → ReadsAs of before after (Err stop) → stop_answer stop ≡ Some said → ⊥
  by_lacking Words said r h = by_either Words (r.err (λ e. cc))
  by_lacking (Malformed which) said r h = by_either (Malformed which) (r.err (λ e. cc))
  by_lacking (Input which) said r h = by_either (Input which) (r.err (λ e. cc))
  by_lacking Memory said r h = unsaid said h

  pub never_stopped : (said : Answer) → Stops words of before after said → ⊥
  never_stopped said (misworded w i h) = no_both layout Usage (sym worded ∙ w)
  never_stopped said (lacking stop l h) = by_lacking stop said l.refused h

  pub begun_same : (l : L) (v : A) → Begins words of before after l v → (l ≡ layout) × (v ≡ value)
  begun_same l v b =
      (ok_same l layout (sym b.worded ∙ worded), ok_same v value (sym (subst (λ t. IfTold t (λ held. of held ≡ Ok v)) told b.read.ok) ∙ is))
