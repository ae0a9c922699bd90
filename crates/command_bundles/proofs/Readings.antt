-- Readings one after the other, of which the last is of the list.
use Rattle.std.proofs.Common.{◌≡◌, ◌≢◌, ◌⊎◌, inl, inr, ℕ, ◌<◌, ◌≤◌, List, length, Option, Some, None, Result, Ok, Err, refl, sym, ap, ◌∙◌, subst, arith}
use Rattle.std.proofs.lemmas.Grind.{common_steps}
use Rattle.foundation.specs.Steps.{◌>>=◌}
use Rattle.foundation.specs.Watched.{Rose, IfTold, Since}
use Rattle.command_files.specs.Inputs.{Held, Supply, watched, Gives}
use Rattle.command_files.specs.Rules.{rules_of}
use Rattle.command_files.specs.Tables.{tables_of}
use Rattle.command_files.specs.Gather.{within_limit, input_of, stop_of, IsMalformed, MalformedCause, StopCause, ReadsAs}
use Rattle.command_files.specs.declared.inputs.InputFile.{InputFile}
use Rattle.command_files.specs.declared.inputs.InputFile.TheVariants.{Root, Bundle, Policy, Provider}
use Rattle.command_files.specs.declared.usage_fault.UsageFault.{UsageFault}
use Rattle.command_files.specs.declared.inputs.InputFault.{InputFault}
use Rattle.command_files.specs.declared.inputs.InputFault.TheVariants as fault
use Rattle.command_files.specs.declared.gather.CommandStop.{CommandStop}
use Rattle.command_files.specs.declared.gather.CommandStop.TheVariants.{Words, Malformed, Input, Memory}
use Rattle.command_bundles.specs.Listed.{max_list, within_list, list_in}

if_told : {A : Type 0} (o : Option A) (P Q : A → Type 0) → IfTold o P → ((a : A) → P a → Q a) → IfTold o Q
if_told None P Q p f = tt
if_told (Some a) P Q p f = f a p

if_both : {A : Type 0} (o : Option A) (P Q R : A → Type 0) → IfTold o P → IfTold o Q → ((a : A) → P a → Q a → R a) → IfTold o R
if_both None P Q R p q f = tt
if_both (Some a) P Q R p q f = f a p q

rose_later : (a b c : ℕ) → a ≤ b → Rose b c → Rose a c
rose_later a b c h r = omega arith

told_as : {A : Type 0} (P : A → Type 0) (o p : Option A) → p ≡ o → IfTold p P → IfTold o P
told_as P o p e h = subst (λ q. IfTold q P) e h

-- ---- the list

is_within : (list : List ℕ) → length list ≤ max_list → within_list (Some list) ≡ Ok list
is_within list h = grind (arith, common_steps)

is_over : (list : List ℕ) → max_list < length list → within_list (Some list) ≡ Err (Input Bundle)
is_over list h = grind (arith, common_steps)

-- a list beyond its limit is a bundle beyond the limit of one
is_over_one : (list : List ℕ) → max_list < length list → within_limit Bundle (Some list) ≡ Err (Input Bundle)
is_over_one list h = grind (arith, common_steps)

pub list_given : (old new : Supply) (list : List ℕ) → Gives Bundle old new max_list (Ok list) → ReadsAs list_in old new (Ok list)
unfolding list_in
list_given old new list g = record {
  since = record { same = g.same; later = g.later };
  ok = if_told old.told (λ held. held Bundle ≡ Some list) (λ held. within_list (held Bundle) ≡ Ok list) g.input (λ held is. ap within_list is ∙ is_within list g.limit);
  err = tt;
  cause = tt;
}

-- the list wasn't given: the count rose, or told inputs lack it or hold it longer than its limit
module _ (of : Held → Result (List ℕ) CommandStop) (within : Option (List ℕ) → Result (List ℕ) CommandStop) (is : (held : Held) → of held ≡ within (held Bundle))
    (lacks : within None ≡ Err (Input Bundle)) (over : (list : List ℕ) → max_list < length list → within (Some list) ≡ Err (Input Bundle)) where
  why : (old new : Supply) (f : InputFault) → f ≢ fault.NoMemory → Gives Bundle old new max_list (Err f)
      → Rose old.faults new.faults ⊎ IfTold old.told (λ held. of held ≡ Err (Input Bundle))
  why old new fault.Failed n g = inl g.failed
  why old new fault.Absent n g =
      inr (if_told old.told (λ held. held Bundle ≡ None) (λ held. of held ≡ Err (Input Bundle)) g.input (λ held h. is held ∙ ap within h ∙ lacks))
  why old new (fault.TooLong seen) n g =
      inr (if_told old.told (λ held. (list : List ℕ) × (held Bundle ≡ Some list) × (seen ≡ length list)) (λ held. of held ≡ Err (Input Bundle)) g.input
      (λ held h. is held ∙ ap within h.1 ∙ over h.0 (subst (λ n. max_list < n) h.2 g.limit)))
  why old new fault.NoMemory n g = absurd (n refl)

why_list : (old new : Supply) (f : InputFault) → f ≢ fault.NoMemory → Gives Bundle old new max_list (Err f)
    → Rose old.faults new.faults ⊎ IfTold old.told (λ held. list_in held ≡ Err (Input Bundle))
unfolding list_in
why_list = why list_in within_list (λ held. refl) refl is_over

why_input : (old new : Supply) (f : InputFault) → f ≢ fault.NoMemory → Gives Bundle old new max_list (Err f)
    → Rose old.faults new.faults ⊎ IfTold old.told (λ held. input_of Bundle held ≡ Err (Input Bundle))
unfolding input_of
why_input = why (input_of Bundle) (within_limit Bundle) (λ held. refl) refl is_over_one

refused : (old new : Supply) (f : InputFault) → f ≢ fault.NoMemory → Gives Bundle old new max_list (Err f) → ReadsAs list_in old new (Err (Input Bundle))
refused old new f n g = record {
  since = record { same = g.same; later = g.later };
  ok = tt;
  err = λ m. why_list old new f n g;
  cause = (g.named, why_input old new f n g);
}

refused_as : (old new : Supply) (f : InputFault) → Gives Bundle old new max_list (Err f) → ReadsAs list_in old new (Err (stop_of Bundle f))
refused_as old new fault.Failed g = refused old new fault.Failed (λ e. cc) g
refused_as old new fault.Absent g = refused old new fault.Absent (λ e. cc) g
refused_as old new (fault.TooLong seen) g = refused old new (fault.TooLong seen) (λ e. cc) g
refused_as old new fault.NoMemory g = record { since = record { same = g.same; later = g.later }; ok = tt; err = λ m. absurd (m refl); cause = tt }

pub list_refused : (old new : Supply) (f : InputFault) (s : CommandStop) → s ≡ stop_of Bundle f → Gives Bundle old new max_list (Err f) → ReadsAs list_in old new (Err s)
list_refused old new f s is g = subst (λ t. ReadsAs list_in old new (Err t)) (sym is) (refused_as old new f g)

-- ---- one after the other

-- the first reading is refused
pub first_refused : {A B : Type 0} (f : Held → Result A CommandStop) (k : A → Held → Result B CommandStop) (old new : Supply) (e : CommandStop)
    → ReadsAs f old new (Err e) → ReadsAs (λ held. f held >>= λ a. k a held) old new (Err e)
first_refused f k old new e r = record {
  since = r.since;
  ok = tt;
  err = λ m. elim (r.err m) [ inl rose ↦ inl rose | inr is ↦ inr (if_told old.told (λ held. f held ≡ Err e) (λ held. (f held >>= λ a. k a held) ≡ Err e) is (λ held h. ap (λ x. x >>= λ a. k a held) h)) ];
  cause = r.cause;
}

-- a cause after other readings is one after all
malformed_earlier : {A : Type 0} (which : InputFile) (reads : List ℕ → Result A UsageFault) (old mid : Supply) → mid.told ≡ old.told → IsMalformed which reads mid → IsMalformed which reads old
malformed_earlier which reads old mid e m = record { bytes = m.bytes; there = told_as (λ held. input_of which held ≡ Ok m.bytes) old.told mid.told e m.there; malformed = m.malformed }

form_earlier : (which : InputFile) (old mid : Supply) → mid.told ≡ old.told → MalformedCause which mid → MalformedCause which old
form_earlier Policy old mid e c = malformed_earlier Policy rules_of old mid e c
form_earlier Provider old mid e c = malformed_earlier Provider tables_of old mid e c
form_earlier Root old mid e c = absurd c
form_earlier Bundle old mid e c = absurd c

cause_earlier : (old mid new : Supply) (s : CommandStop) → Since (watched old) (watched mid) → StopCause mid new s → StopCause old new s
cause_earlier old mid new Words since c = absurd c
cause_earlier old mid new (Malformed which) since c = form_earlier which old mid since.same c
cause_earlier old mid new (Input which) since (named, inl rose) = (named, inl (rose_later old.faults mid.faults new.faults since.later rose))
cause_earlier old mid new (Input which) since (named, inr is) = (named, inr (told_as (λ held. input_of which held ≡ Err (Input which)) old.told mid.told since.same is))
cause_earlier old mid new Memory since c = tt

-- the first reading gave a value, and the others follow
pub then_reads : {A B : Type 0} (f : Held → Result A CommandStop) (k : A → Held → Result B CommandStop) (old mid new : Supply) (a : A) (result : Result B CommandStop)
    → ReadsAs f old mid (Ok a) → ReadsAs (k a) mid new result → ReadsAs (λ held. f held >>= λ x. k x held) old new result
then_reads f k old mid new a (Ok b) p q = record {
  since = record { same = q.since.same ∙ p.since.same; later = omega arith };
  ok = if_both old.told (λ held. f held ≡ Ok a) (λ held. k a held ≡ Ok b) (λ held. (f held >>= λ x. k x held) ≡ Ok b) p.ok (told_as (λ held. k a held ≡ Ok b) old.told mid.told p.since.same q.ok) (λ held h g. ap (λ r. r >>= λ x. k x held) h ∙ g);
  err = tt;
  cause = tt;
}
then_reads f k old mid new a (Err e) p q = record {
  since = record { same = q.since.same ∙ p.since.same; later = omega arith };
  ok = tt;
  err = λ m. elim (q.err m) [
    | inl rose ↦ inl (rose_later old.faults mid.faults new.faults p.since.later rose)
    | inr is ↦ inr (if_both old.told (λ held. f held ≡ Ok a) (λ held. k a held ≡ Err e) (λ held. (f held >>= λ x. k x held) ≡ Err e) p.ok (told_as (λ held. k a held ≡ Err e) old.told mid.told p.since.same is) (λ held h g. ap (λ r. r >>= λ x. k x held) h ∙ g))
  ];
  cause = cause_earlier old mid new e p.since q.cause;
}

everywhere : {A : Type 0} (o : Option A) (P : A → Type 0) → ((a : A) → P a) → IfTold o P
everywhere None P f = tt
everywhere (Some a) P f = f a

-- nothing more is read
pub then_ok : {A B : Type 0} (f : Held → Result A CommandStop) (k : A → Held → Result B CommandStop) (old new : Supply) (a : A) (b : B)
    → ReadsAs f old new (Ok a) → ((held : Held) → k a held ≡ Ok b) → ReadsAs (λ held. f held >>= λ x. k x held) old new (Ok b)
then_ok f k old new a b p h = then_reads f k old new new a (Ok b) p (record { since = record { same = refl; later = omega arith }; ok = everywhere new.told (λ held. k a held ≡ Ok b) h; err = tt; cause = tt })
