-- Readings one after the other.
use Rattle.std.proofs.Common.{◌≡◌, ◌≢◌, ◌⊎◌, inl, inr, ℕ, ◌<◌, ◌≤◌, List, length, Option, Some, None, Result, Ok, Err, refl, sym, ap, ◌∙◌, subst, arith}
use Rattle.std.proofs.lemmas.Grind.{common_steps}
use Rattle.foundation.specs.Steps.{◌>>=◌}
use Rattle.foundation.specs.Watched.{Rose, IfTold, Since}
use Rattle.command_files.specs.Inputs.{Held, Supply, watched, Gives}
use Rattle.command_files.specs.Rules.{rules_of}
use Rattle.command_files.specs.Tables.{tables_of}
use Rattle.command_files.specs.Gather.{limit_of, within_limit, input_of, stop_of, by_form, IsMalformed, MalformedCause, StopCause, ReadsAs}
use Rattle.command_files.specs.declared.inputs.InputFile.{InputFile}
use Rattle.command_files.specs.declared.inputs.InputFile.TheVariants.{Root, Bundle, Policy, Provider}
use Rattle.command_files.specs.declared.usage_fault.UsageFault.{UsageFault}
use Rattle.command_files.specs.declared.usage_fault.UsageFault.TheVariants as usage
use Rattle.command_files.specs.declared.inputs.InputFault.{InputFault}
use Rattle.command_files.specs.declared.inputs.InputFault.TheVariants as fault
use Rattle.command_files.specs.declared.gather.CommandStop.{CommandStop}
use Rattle.command_files.specs.declared.gather.CommandStop.TheVariants.{Words, Malformed, Input, Memory}

if_told : {A : Type 0} (o : Option A) (P Q : A → Type 0) → IfTold o P → ((a : A) → P a → Q a) → IfTold o Q
if_told None P Q p f = tt
if_told (Some a) P Q p f = f a p

if_both : {A : Type 0} (o : Option A) (P Q R : A → Type 0) → IfTold o P → IfTold o Q → ((a : A) → P a → Q a → R a) → IfTold o R
if_both None P Q R p q f = tt
if_both (Some a) P Q R p q f = f a p q

rose_later : (a b c : ℕ) → a ≤ b → Rose b c → Rose a c
rose_later a b c h r = omega arith

told_as : {A : Type 0} (P : A → Type 0) (o p : Option A) → p ≡ o → IfTold p P → IfTold o P
told_as P o p e h = subst (λ q. IfTold q P) e h

is_within : (which : InputFile) (bytes : List ℕ) → length bytes ≤ limit_of which → within_limit which (Some bytes) ≡ Ok bytes
is_within which bytes h = grind (arith, common_steps)

is_over : (which : InputFile) (bytes : List ℕ) → limit_of which < length bytes → within_limit which (Some bytes) ≡ Err (Input which)
is_over which bytes h = grind (arith, common_steps)

-- an input was given
given : (which : InputFile) (old new : Supply) (bytes : List ℕ) → Gives which old new (limit_of which) (Ok bytes) → ReadsAs (input_of which) old new (Ok bytes)
unfolding input_of
given which old new bytes g = record {
  since = record { same = g.same; later = g.later };
  ok = if_told old.told (λ held. held which ≡ Some bytes) (λ held. within_limit which (held which) ≡ Ok bytes) g.input (λ held is. ap (within_limit which) is ∙ is_within which bytes g.limit);
  err = tt;
  cause = tt;
}

pub input_given : (which : InputFile) (old new : Supply) (bytes : List ℕ) (max : ℕ) → max ≡ limit_of which → Gives which old new max (Ok bytes) → ReadsAs (input_of which) old new (Ok bytes)
input_given which old new bytes max e g = given which old new bytes (subst (λ m. Gives which old new m (Ok bytes)) e g)

-- an input wasn't given: the count rose, or told inputs lack it or hold it longer than its limit
why_refused : (which : InputFile) (old new : Supply) (f : InputFault) → f ≢ fault.NoMemory → Gives which old new (limit_of which) (Err f)
    → Rose old.faults new.faults ⊎ IfTold old.told (λ held. input_of which held ≡ Err (Input which))
unfolding input_of
why_refused which old new fault.Failed n g = inl g.failed
why_refused which old new fault.Absent n g =
    inr (if_told old.told (λ held. held which ≡ None) (λ held. within_limit which (held which) ≡ Err (Input which)) g.input (λ held is. ap (within_limit which) is))
why_refused which old new (fault.TooLong seen) n g =
    inr (if_told old.told (λ held. (bytes : List ℕ) × (held which ≡ Some bytes) × (seen ≡ length bytes)) (λ held. within_limit which (held which) ≡ Err (Input which)) g.input
    (λ held is. ap (within_limit which) is.1 ∙ is_over which is.0 (subst (λ n. limit_of which < n) is.2 g.limit)))
why_refused which old new fault.NoMemory n g = absurd (n refl)

refused : (which : InputFile) (old new : Supply) (f : InputFault) → f ≢ fault.NoMemory → Gives which old new (limit_of which) (Err f) → ReadsAs (input_of which) old new (Err (Input which))
refused which old new f n g =
    let why = why_refused which old new f n g in record { since = record { same = g.same; later = g.later }; ok = tt; err = λ m. why; cause = (g.named, why) }

refused_as : (which : InputFile) (old new : Supply) (f : InputFault) → Gives which old new (limit_of which) (Err f) → ReadsAs (input_of which) old new (Err (stop_of which f))
refused_as which old new fault.Failed g = refused which old new fault.Failed (λ e. cc) g
refused_as which old new fault.Absent g = refused which old new fault.Absent (λ e. cc) g
refused_as which old new (fault.TooLong seen) g = refused which old new (fault.TooLong seen) (λ e. cc) g
refused_as which old new fault.NoMemory g = record { since = record { same = g.same; later = g.later }; ok = tt; err = λ m. absurd (m refl); cause = tt }

pub input_refused : (which : InputFile) (old new : Supply) (f : InputFault) (s : CommandStop) (max : ℕ) → max ≡ limit_of which → s ≡ stop_of which f → Gives which old new max (Err f) → ReadsAs (input_of which) old new (Err s)
input_refused which old new f s max e is g = subst (λ t. ReadsAs (input_of which) old new (Err t)) (sym is) (refused_as which old new f (subst (λ m. Gives which old new m (Err f)) e g))

-- the first reading is refused
pub first_refused : {A B : Type 0} (f : Held → Result A CommandStop) (k : A → Held → Result B CommandStop) (old new : Supply) (e : CommandStop)
    → ReadsAs f old new (Err e) → ReadsAs (λ held. f held >>= λ a. k a held) old new (Err e)
first_refused f k old new e r = record {
  since = r.since;
  ok = tt;
  err = λ m. elim (r.err m) [ inl rose ↦ inl rose | inr is ↦ inr (if_told old.told (λ held. f held ≡ Err e) (λ held. (f held >>= λ a. k a held) ≡ Err e) is (λ held h. ap (λ x. x >>= λ a. k a held) h)) ];
  cause = r.cause;
}

-- a cause after other readings is one after all
malformed_earlier : {A : Type 0} (which : InputFile) (reads : List ℕ → Result A UsageFault) (old mid : Supply) → mid.told ≡ old.told → IsMalformed which reads mid → IsMalformed which reads old
malformed_earlier which reads old mid e m = record { bytes = m.bytes; there = told_as (λ held. input_of which held ≡ Ok m.bytes) old.told mid.told e m.there; malformed = m.malformed }

form_earlier : (which : InputFile) (old mid : Supply) → mid.told ≡ old.told → MalformedCause which mid → MalformedCause which old
form_earlier Policy old mid e c = malformed_earlier Policy rules_of old mid e c
form_earlier Provider old mid e c = malformed_earlier Provider tables_of old mid e c
form_earlier Root old mid e c = absurd c
form_earlier Bundle old mid e c = absurd c

cause_earlier : (old mid new : Supply) (s : CommandStop) → Since (watched old) (watched mid) → StopCause mid new s → StopCause old new s
cause_earlier old mid new Words since c = absurd c
cause_earlier old mid new (Malformed which) since c = form_earlier which old mid since.same c
cause_earlier old mid new (Input which) since (named, inl rose) = (named, inl (rose_later old.faults mid.faults new.faults since.later rose))
cause_earlier old mid new (Input which) since (named, inr is) = (named, inr (told_as (λ held. input_of which held ≡ Err (Input which)) old.told mid.told since.same is))
cause_earlier old mid new Memory since c = tt

-- the first reading gave a value, and the others follow
pub then_reads : {A B : Type 0} (f : Held → Result A CommandStop) (k : A → Held → Result B CommandStop) (old mid new : Supply) (a : A) (result : Result B CommandStop)
    → ReadsAs f old mid (Ok a) → ReadsAs (k a) mid new result → ReadsAs (λ held. f held >>= λ x. k x held) old new result
then_reads f k old mid new a (Ok b) p q = record {
  since = record { same = q.since.same ∙ p.since.same; later = omega arith };
  ok = if_both old.told (λ held. f held ≡ Ok a) (λ held. k a held ≡ Ok b) (λ held. (f held >>= λ x. k x held) ≡ Ok b) p.ok (told_as (λ held. k a held ≡ Ok b) old.told mid.told p.since.same q.ok) (λ held h g. ap (λ r. r >>= λ x. k x held) h ∙ g);
  err = tt;
  cause = tt;
}
then_reads f k old mid new a (Err e) p q = record {
  since = record { same = q.since.same ∙ p.since.same; later = omega arith };
  ok = tt;
  err = λ m. elim (q.err m) [
    | inl rose ↦ inl (rose_later old.faults mid.faults new.faults p.since.later rose)
    | inr is ↦ inr (if_both old.told (λ held. f held ≡ Ok a) (λ held. k a held ≡ Err e) (λ held. (f held >>= λ x. k x held) ≡ Err e) p.ok (told_as (λ held. k a held ≡ Err e) old.told mid.told p.since.same is) (λ held h g. ap (λ r. r >>= λ x. k x held) h ∙ g))
  ];
  cause = cause_earlier old mid new e p.since q.cause;
}

everywhere : {A : Type 0} (o : Option A) (P : A → Type 0) → ((a : A) → P a) → IfTold o P
everywhere None P f = tt
everywhere (Some a) P f = f a

-- nothing more is read
pub then_ok : {A B : Type 0} (f : Held → Result A CommandStop) (k : A → Held → Result B CommandStop) (old new : Supply) (a : A) (b : B)
    → ReadsAs f old new (Ok a) → ((held : Held) → k a held ≡ Ok b) → ReadsAs (λ held. f held >>= λ x. k x held) old new (Ok b)
then_ok f k old new a b p h = then_reads f k old new new a (Ok b) p (record { since = record { same = refl; later = omega arith }; ok = everywhere new.told (λ held. k a held ≡ Ok b) h; err = tt; cause = tt })

then_err : {A B : Type 0} (f : Held → Result A CommandStop) (k : A → Held → Result B CommandStop) (old new : Supply) (a : A) (e : CommandStop)
    → ReadsAs f old new (Ok a) → (e ≢ Memory → (held : Held) → k a held ≡ Err e) → StopCause old new e → ReadsAs (λ held. f held >>= λ x. k x held) old new (Err e)
then_err f k old new a e p h c = record {
  since = p.since;
  ok = tt;
  err = λ m. inr (if_told old.told (λ held. f held ≡ Ok a) (λ held. (f held >>= λ x. k x held) ≡ Err e) p.ok (λ held q. ap (λ r. r >>= λ x. k x held) q ∙ h m held));
  cause = c;
}

-- a file that was read is outside its grammar
formed_cause : {A : Type 0} (which : InputFile) (reads : List ℕ → Result A UsageFault) (old new : Supply) (bytes : List ℕ) (e : CommandStop) → (IsMalformed which reads old → MalformedCause which old)
    → IfTold old.told (λ held. input_of which held ≡ Ok bytes) → (e ≢ Memory → by_form which (reads bytes) ≡ Err e) → StopCause old new e
formed_cause {A = A} which reads old new bytes e f there h = by_stop e h
  where
    same_stop : (a b : CommandStop) → ◌≡◌ {A = Result A CommandStop} (Err a) (Err b) → a ≡ b
    same_stop a b q = cc

    by_read : (e : CommandStop) (r : Result A UsageFault) → reads bytes ≡ r → by_form which r ≡ Err e → StopCause old new e
    by_read e (Ok x) p q = cc
    by_read e (Err usage.Usage) p q = subst (StopCause old new) (same_stop (Malformed which) e q) (f (record { bytes = bytes; there = there; malformed = p }))
    by_read e (Err usage.NoMemory) p q = subst (StopCause old new) (same_stop Memory e q) tt

    by_stop : (e : CommandStop) → (e ≢ Memory → by_form which (reads bytes) ≡ Err e) → StopCause old new e
    by_stop Words h = by_read Words (reads bytes) refl (h (λ m. cc))
    by_stop (Malformed w) h = by_read (Malformed w) (reads bytes) refl (h (λ m. cc))
    by_stop (Input w) h = by_read (Input w) (reads bytes) refl (h (λ m. cc))
    by_stop Memory h = tt

-- the first reading gave a file that is outside its grammar
pub then_malformed : {A : Type 0} (which : InputFile) (reads : List ℕ → Result A UsageFault) (old new : Supply) (bytes : List ℕ) (e : CommandStop) → (IsMalformed which reads old → MalformedCause which old)
    → ReadsAs (input_of which) old new (Ok bytes) → (e ≢ Memory → by_form which (reads bytes) ≡ Err e) → ReadsAs (λ held. input_of which held >>= λ b. by_form which (reads b)) old new (Err e)
then_malformed which reads old new bytes e f p h =
    then_err (input_of which) (λ b held. by_form which (reads b)) old new bytes e p (λ m held. h m) (formed_cause which reads old new bytes e f p.ok h)
