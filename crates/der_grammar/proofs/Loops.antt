-- Loops that read and write one value after the other.
use Rattle.std.proofs.Common.{◌≡◌, ◌≢◌, ℕ, suc, ◌+◌, ◌<◌, ◌≤◌, List, [], ◌∷◌, ◌++◌, length, get_or, drop, Option, Some, None, Ok, Err, refl, sym, ap, ◌∙◌, append_assoc, drop-cons, add-one}
use Rattle.std.proofs.lemmas.List.{append-nil, drop_all}
use Rattle.foundation.specs.Steps.{◌>>=◌}
use Rattle.der_grammar.specs.declared.error.DerError.{DerError}
use Rattle.der_grammar.specs.declared.error.DerError.TheVariants.{NoMemory}
use Rattle.der_grammar.specs.Outcome.{Outcome}
use Rattle.der_grammar.specs.Tlv.{next_tag}
use Rattle.der_grammar.specs.Grammar.{Grammar, read, write, Appended, KeepsFront}
use Rattle.der_grammar.specs.Many.{many_of, many_at, write_each}
use Rattle.der_grammar.specs.ManyLaws.{many-step}

-- the refusal is that of the outcome, unless it is want of memory
abbrev pub Refuses : {A : Type 0} → DerError → Outcome A → Type 0
Refuses e r = e ≢ NoMemory → r ≡ Err e

pub refuses_along : {A B : Type 0} (e : DerError) (r : Outcome A) (f : A → Outcome B) → Refuses e r → Refuses e (r >>= f)
refuses_along e r f h = λ other. let is = h other in rw is refl

pub refuses_as : {A : Type 0} (e : DerError) (r s : Outcome A) → r ≡ s → Refuses e r → Refuses e s
refuses_as e r s is h = λ other. sym is ∙ h other

-- ---- reading up to the end

abbrev pub ReadsOn : {A : Type 0} → Grammar A → List A → List ℕ → List ℕ → Type 0
ReadsOn g front rest bytes = (many_of g rest >>= λ xs. Ok (front ++ xs)) ≡ many_of g bytes

same : {A : Type 0} (r : Outcome (List A)) → (r >>= λ xs. Ok ([] ++ xs)) ≡ r
same (Ok x) = refl
same (Err e) = refl

pub begins_reading : {A : Type 0} (g : Grammar A) (bytes : List ℕ) → ReadsOn g [] bytes bytes
begins_reading g bytes = same (many_of g bytes)

one_more : {A : Type 0} (front : List A) (x : A) (r : Outcome (List A)) → ((r >>= λ xs. Ok (x ∷ xs)) >>= λ xs. Ok (front ++ xs)) ≡ (r >>= λ xs. Ok ((front ++ x ∷ []) ++ xs))
one_more front x (Ok xs) = ap (λ z. Ok z) (sym (append_assoc front (x ∷ []) xs))
one_more front x (Err e) = refl

pub reads_one : {A : Type 0} (g : Grammar A) (front : List A) (t : ℕ) (more rest after bytes : List ℕ) (x : A) → rest ≡ t ∷ more → read g rest ≡ Ok (x, after) → ReadsOn g front rest bytes → ReadsOn g (front ++ x ∷ []) after bytes
reads_one {A} g front t more rest after bytes x e r h =
    let r' : read g (t ∷ more) ≡ Ok (x, after) = ap (read g) (sym e) ∙ r in
    let step : many_of g rest ≡ (many_of g after >>= λ xs. Ok (x ∷ xs)) = ap (many_of g) e ∙ many-step g t more ∙ ap (λ (z : Outcome (A × List ℕ)). z >>= λ x. many_of g x.1 >>= λ xs. Ok (x.0 ∷ xs)) r' in
    sym (one_more front x (many_of g after)) ∙ ap (λ (z : Outcome (List A)). z >>= λ xs. Ok (front ++ xs)) (sym step) ∙ h

pub reading_refused : {A : Type 0} (e : DerError) (g : Grammar A) (front : List A) (t : ℕ) (more rest bytes : List ℕ) → rest ≡ t ∷ more → Refuses e (read g rest) → ReadsOn g front rest bytes → Refuses e (many_of g bytes)
reading_refused {A} e g front t more rest bytes is f h =
    refuses_as e _ _ h (refuses_along e (many_of g rest) (λ xs. Ok (front ++ xs))
    (refuses_as e _ _ (sym (ap (many_of g) is ∙ many-step g t more)) (refuses_along e (read g (t ∷ more)) (λ x. many_of g x.1 >>= λ xs. Ok (x.0 ∷ xs)) (refuses_as e _ _ (ap (read g) is) f))))

pub ends_reading : {A : Type 0} (g : Grammar A) (front : List A) (rest bytes : List ℕ) → rest ≡ [] → ReadsOn g front rest bytes → many_of g bytes ≡ Ok front
unfolding many_of many_at
ends_reading {A} g front rest bytes e h =
    let n : many_of g rest ≡ Ok [] = rw e refl in
    sym h ∙ ap (λ (z : Outcome (List A)). z >>= λ xs. Ok (front ++ xs)) n ∙ ap (λ (z : List A). Ok z) (append-nil front)

-- ---- writing

pub record WritesOn {A : Type 0} (g : Grammar A) (old new : List ℕ) (items : List A) (i : ℕ) : Type 0 where
  pub done : List ℕ
  pub text : new ≡ old ++ done
  pub rest : (write_each g (drop i items) >>= λ b. Ok (done ++ b)) ≡ write_each g items

nothing_first : (r : Outcome (List ℕ)) → (r >>= λ b. Ok ([] ++ b)) ≡ r
nothing_first (Ok x) = refl
nothing_first (Err e) = refl

pub begins_writing : {A : Type 0} (g : Grammar A) (old : List ℕ) (items : List A) → WritesOn g old old items 0
begins_writing g old items = record { done = []; text = sym (append-nil old); rest = nothing_first (write_each g items) }

one_text : (done more : List ℕ) (r : Outcome (List ℕ)) → ((r >>= λ b. Ok (more ++ b)) >>= λ b. Ok (done ++ b)) ≡ (r >>= λ b. Ok ((done ++ more) ++ b))
one_text done more (Ok b) = ap (λ z. Ok z) (sym (append_assoc done more b))
one_text done more (Err e) = refl

-- what is left begins with the member at hand
pub left : {A : Type 0} (items : List A) (i : ℕ) (x : A) → i < length items → x ≡ get_or items i x → drop i items ≡ x ∷ drop (i + 1) items
left items i x lt is = drop-cons items i x lt ∙ ap (λ z. z ∷ drop (suc i) items) (sym is) ∙ rw add-one refl

pub writes_one : {A : Type 0} (g : Grammar A) (old new newer : List ℕ) (items : List A) (i : ℕ) (x : A) → i < length items → x ≡ get_or items i x → Appended (write g x) new newer → WritesOn g old new items i → WritesOn g old newer items (i + 1)
unfolding write_each
writes_one {A} g old new newer items i x lt is m h =
    let w : write_each g (drop i items) ≡ (write_each g (drop (i + 1) items) >>= λ b. Ok (m.0 ++ b)) = ap (write_each g) (left items i x lt is) ∙ ap (λ (z : Outcome (List ℕ)). z >>= λ a. write_each g (drop (i + 1) items) >>= λ b. Ok (a ++ b)) m.1 in
    record {
      done = h.done ++ m.0;
      text = m.2 ∙ ap (λ z. z ++ m.0) h.text ∙ append_assoc old h.done m.0;
      rest = sym (one_text h.done m.0 (write_each g (drop (i + 1) items))) ∙ ap (λ (z : Outcome (List ℕ)). z >>= λ b. Ok (h.done ++ b)) (sym w) ∙ h.rest;
    }

pub writing_refused : {A : Type 0} (e : DerError) (g : Grammar A) (old new : List ℕ) (items : List A) (i : ℕ) (x : A) → i < length items → x ≡ get_or items i x → Refuses e (write g x) → WritesOn g old new items i → Refuses e (write_each g items)
unfolding write_each
writing_refused {A} e g old new items i x lt is f h =
    refuses_as e _ _ h.rest (refuses_along e (write_each g (drop i items)) (λ b. Ok (h.done ++ b))
    (refuses_as e _ _ (sym (ap (write_each g) (left items i x lt is))) (refuses_along e (write g x) (λ a. write_each g (drop (i + 1) items) >>= λ b. Ok (a ++ b)) f)))

pub writing_keeps : {A : Type 0} (g : Grammar A) (old new newer : List ℕ) (items : List A) (i : ℕ) → KeepsFront new newer → WritesOn g old new items i → KeepsFront old newer
writing_keeps g old new newer items i m h = (h.done ++ m.0, m.1 ∙ ap (λ z. z ++ m.0) h.text ∙ append_assoc old h.done m.0)

pub ends_writing : {A : Type 0} (g : Grammar A) (old new : List ℕ) (items : List A) (i : ℕ) → length items ≤ i → WritesOn g old new items i → Appended (write_each g items) old new
unfolding write_each
ends_writing g old new items i le h =
    let n : write_each g (drop i items) ≡ Ok [] = rw (drop_all i items le) refl in
    (h.done, sym h.rest ∙ ap (λ (z : Outcome (List ℕ)). z >>= λ b. Ok (h.done ++ b)) n ∙ ap (λ (z : List ℕ). Ok z) (append-nil h.done), h.text)

-- ---- the next tag

pub next_is : (bytes : List ℕ) (t : ℕ) → Some t ≡ next_tag bytes → (more : List ℕ) × (bytes ≡ t ∷ more)
next_is [] t e = absurd cc
next_is (b ∷ bytes) t e = (bytes, cc)

pub no_next : (bytes : List ℕ) → Path (Option ℕ) None (next_tag bytes) → bytes ≡ []
no_next [] e = refl
no_next (b ∷ bytes) e = absurd cc
