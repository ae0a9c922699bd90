-- What clauses say of a result, joined to the laws of grammars.
use Rattle.std.proofs.Common.{◌≡◌, ◌≢◌, ℕ, List, Ok, Err, refl, sym, ◌∙◌}
use Rattle.std.specs.Prelude.{IfOk, IfErr, MatchResult}
use Rattle.der_grammar.specs.declared.error.DerError.{DerError}
use Rattle.der_grammar.specs.declared.error.DerError.TheVariants.{Truncated, Length, Tag, Value, Trailing, SetDuplicate, Oid, TooLong, NoMemory}
use Rattle.der_grammar.specs.Outcome.{Outcome}
use Rattle.der_grammar.specs.TlvLaws.{ok_is}
use Rattle.der_grammar.specs.Grammar.{Grammar, Encodes, read_all}
use Rattle.der_grammar.specs.Law.{IsLawful}
use Rattle.der_grammar.specs.Laws.{all-only}

-- a refusal that is want of memory, if others contradict
only_want : {X : Type 0} (e : DerError) (r : Outcome X) (x : X) → r ≡ Ok x → (e ≢ NoMemory → r ≡ Err e) → e ≡ NoMemory
only_want NoMemory r x is h = refl
only_want Truncated r x is h = absurd (let f = h (λ p. cc) in cc)
only_want Length r x is h = absurd (let f = h (λ p. cc) in cc)
only_want Tag r x is h = absurd (let f = h (λ p. cc) in cc)
only_want Value r x is h = absurd (let f = h (λ p. cc) in cc)
only_want Trailing r x is h = absurd (let f = h (λ p. cc) in cc)
only_want SetDuplicate r x is h = absurd (let f = h (λ p. cc) in cc)
only_want Oid r x is h = absurd (let f = h (λ p. cc) in cc)
only_want TooLong r x is h = absurd (let f = h (λ p. cc) in cc)

pub only_that : {A : Type 0} (g : Grammar A) (lawful : IsLawful g) (bytes : List ℕ) (a : A) → Encodes g a bytes → (r : Outcome A) → IfOk r (λ x. read_all g bytes ≡ Ok x) → IfErr r (λ e. e ≢ NoMemory → read_all g bytes ≡ Err e) → MatchResult r (λ x. x ≡ a) (λ e. e ≡ NoMemory)
only_that g lawful bytes a s (Ok x) ok err = ok_is x a (sym ok ∙ all-only g lawful bytes a s)
only_that g lawful bytes a s (Err e) ok err = only_want e (read_all g bytes) a (all-only g lawful bytes a s) err
