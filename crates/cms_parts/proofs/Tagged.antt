-- What is written has a tag of one octet, and what contradicts a refusal.
use Rattle.std.proofs.Common.{◌≡◌, ◌≢◌, ℕ, ◌%◌, true, false, ltb, eqb, List, Ok, refl}
use Rattle.std.proofs.lemmas.Bool.{lt-ltb, eqb-true}
use Rattle.der_grammar.specs.declared.error.DerError.{DerError}
use Rattle.der_grammar.specs.declared.error.DerError.TheVariants.{Truncated, Length, Tag, Value, Trailing, SetDuplicate, Oid, TooLong, NoMemory}
use Rattle.der_grammar.specs.Choices.{is_tag}
use Rattle.der_grammar.specs.Grammar.{Grammar}
use Rattle.der_grammar.specs.Law.{IsLawful}
use Rattle.der_grammar.specs.Tlv.{IsTag}
use Rattle.der_grammar.specs.Types.{false_if_not}

passes : (t : ℕ) → IsTag t → is_tag t ≡ true
passes t h =
    let below : ltb t 256 ≡ true = lt-ltb t 256 h.0 in
    let other : eqb (t % 32) 31 ≡ false = false_if_not (eqb (t % 32) 31) (λ e. h.1 (eqb-true (t % 32) 31 e)) in
    rw (below, other) refl

pub tag_written : {A : Type 0} (g : Grammar A) → IsLawful g → (a : A) (c : List ℕ) → g.contents a ≡ Ok c → is_tag (g.tag a) ≡ true
tag_written g lawful a c e = passes (g.tag a) (lawful.tags (g.tag a) (lawful.only (g.tag a) c a (lawful.written a c e)).0)

-- a refusal that can be nothing else is want of memory
pub only_want : (e : DerError) → (e ≢ NoMemory → ⊥) → e ≡ NoMemory
only_want NoMemory h = refl
only_want Truncated h = absurd (h (λ p. cc))
only_want Length h = absurd (h (λ p. cc))
only_want Tag h = absurd (h (λ p. cc))
only_want Value h = absurd (h (λ p. cc))
only_want Trailing h = absurd (h (λ p. cc))
only_want SetDuplicate h = absurd (h (λ p. cc))
only_want Oid h = absurd (h (λ p. cc))
only_want TooLong h = absurd (h (λ p. cc))
