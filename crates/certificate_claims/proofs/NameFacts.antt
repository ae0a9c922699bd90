-- Names one after the other, the first that says who the owner is, and IA5Strings as UTF-8.
use Rattle.std.proofs.Common.{◌≡◌, ℕ, zero, suc, true, List, [], ◌∷◌, ◌<◌, length, Option, Some, None, Result, Ok, Err, refl, sym, ap, subst, ◌∙◌, arith}
use Rattle.std.specs.Prelude.{nat_lt, slice_index, is_ok}
use Rattle.std.specs.Result.{MatchResult}
use Rattle.std.specs.Str.{IsUtf8}
use Rattle.std.proofs.lemmas.Str.{IsUtf8-from_ascii}
use Rattle.std.proofs.lemmas.Bool.{ltb-true}
use Rattle.foundation.specs.Steps.{◌>>=◌}
use Rattle.foundation.specs.Results.{ok_same, err_same, no_both, and_true}
use Rattle.der_grammar.specs.declared.error.DerError.{DerError}
use Rattle.der_grammar.specs.Outcome.{Outcome}
use Rattle.der_grammar.specs.Grammar.{read}
use Rattle.der_grammar.specs.Many.{many_at, many_of}
use Rattle.der_grammar.specs.ManyLaws.{many-step, read-shrinks}
use Rattle.der_core.specs.Strings.{is_ia5_string}
use Rattle.x509_core.specs.declared.general_name.GeneralName.{GeneralName}
use Rattle.x509_core.specs.declared.general_name.GeneralName.TheVariants.{Rfc822Name, Uri, Other}
use Rattle.x509_core.specs.Types.{general_name_type}
use Rattle.certificate_claims.specs.declared.certificate_info.SubjectAltName.{SubjectAltName}
use Rattle.certificate_claims.specs.Info.{first_name}
use Rattle.certificate_claims.specs.Names.{shown, shown_at, first_of, or_first}

-- ---- octets below 128

octet_below : (bytes : List ℕ) → is_ia5_string bytes ≡ true → (i : ℕ) → slice_index bytes i < 128
octet_below [] h i = omega arith
octet_below (b ∷ bytes) h zero = ltb-true b 128 (and_true (nat_lt b 128) (is_ia5_string bytes) h).0
octet_below (b ∷ bytes) h (suc i) = octet_below bytes (and_true (nat_lt b 128) (is_ia5_string bytes) h).1 i

valid_of : {A E : Type 0} (r : Result A E) (P : A → Type 0) (N : Type 0) (Q : E → Type 0) → MatchResult r P (λ e. (N → ⊥) × Q e) → N → is_ok r ≡ true
valid_of (Ok x) P N Q m n = refl
valid_of (Err e) P N Q m n = absurd (m.0 n)

-- bytes of an IA5String are the UTF-8 of some characters
pub ia5_valid : {A E : Type 0} (r : Result A E) (P : A → Type 0) (Q : E → Type 0) (bytes : List ℕ) → MatchResult r P (λ e. (IsUtf8 bytes → ⊥) × Q e)
    → is_ia5_string bytes ≡ true → is_ok r ≡ true
ia5_valid r P Q bytes m h = valid_of r P (IsUtf8 bytes) Q m (IsUtf8-from_ascii bytes (octet_below bytes h))

-- ---- the first of the names that are read so far

-- what was found, or else the first of what is left, is the first of all
abbrev pub SaidOn : Option SubjectAltName → List ℕ → List ℕ → Type 0
SaidOn found rest bytes = (many_of general_name_type.grammar rest >>= λ names. Ok (or_first found (first_name names))) ≡ first_of (many_of general_name_type.grammar bytes)

pub said_first : (bytes : List ℕ) → SaidOn None bytes bytes
said_first bytes = refl

first_more : (found : Option SubjectAltName) (x : GeneralName) (names : List GeneralName)
    → or_first found (first_name (x ∷ names)) ≡ or_first (or_first found (shown x)) (first_name names)
first_more None (Rfc822Name text) names = refl
first_more None (Uri text) names = refl
first_more None (Other other) names = refl
first_more (Some name) x names = refl

later : (found : Option SubjectAltName) (x : GeneralName) (r : Outcome (List GeneralName))
    → ((r >>= λ xs. Ok (x ∷ xs)) >>= λ names. Ok (or_first found (first_name names))) ≡ (r >>= λ names. Ok (or_first (or_first found (shown x)) (first_name names)))
later found x (Ok names) = ap Ok (first_more found x names)
later found x (Err e) = refl

-- the name at the front, which a reading with its part said
shown_front : (r : Outcome (GeneralName × List ℕ)) (name : Option SubjectAltName) (after : List ℕ) → shown_at r ≡ Ok (name, after)
    → (x : GeneralName) × (r ≡ Ok (x, after)) × (shown x ≡ name)
shown_front (Ok x) name after h =
    let same : (shown x.0, x.1) ≡ (name, after) = ok_same (shown x.0, x.1) (name, after) h in
    (x.0, ap (λ rest. Ok (x.0, rest)) (ap (λ p. p.1) same), ap (λ p. p.0) same)
shown_front (Err e) name after h = cc

pub said_more : (found name : Option SubjectAltName) (t : ℕ) (more rest after bytes : List ℕ) → rest ≡ t ∷ more
    → shown_at (read general_name_type.grammar rest) ≡ Ok (name, after) → SaidOn found rest bytes → SaidOn (or_first found name) after bytes
said_more found name t more rest after bytes e h so =
    let g = general_name_type.grammar in
    let front = shown_front (read g rest) name after h in
    let x = front.0 in
    let r : read g (t ∷ more) ≡ Ok (x, after) = ap (read g) (sym e) ∙ front.1 in
    let step : many_of g rest ≡ (many_of g after >>= λ xs. Ok (x ∷ xs)) =
    ap (many_of g) e ∙ many-step g t more ∙ ap (λ (z : Outcome (GeneralName × List ℕ)). z >>= λ y. many_of g y.1 >>= λ xs. Ok (y.0 ∷ xs)) r in
    subst (λ (n : Option SubjectAltName). SaidOn (or_first found n) after bytes) front.2
    (sym (later found x (many_of g after)) ∙ ap (λ (z : Outcome (List GeneralName)). z >>= λ names. Ok (or_first found (first_name names))) (sym step) ∙ so)

pub said_shorter : (bytes after : List ℕ) (name : Option SubjectAltName) → shown_at (read general_name_type.grammar bytes) ≡ Ok (name, after) → length after < length bytes
said_shorter bytes after name h =
    let front = shown_front (read general_name_type.grammar bytes) name after h in
    read-shrinks general_name_type.grammar bytes front.0 after front.1

-- what is refused on the way is refused
front_refused : (e : DerError) (found : Option SubjectAltName) (r s : Outcome (List GeneralName)) → (r >>= λ names. Ok (or_first found (first_name names))) ≡ first_of s → r ≡ Err e → s ≡ Err e
front_refused e found r (Ok names) h is = no_both _ e (sym h ∙ ap (λ (z : Outcome (List GeneralName)). z >>= λ names. Ok (or_first found (first_name names))) is)
front_refused e found r (Err d) h is = sym h2 where
  h2 : ◌≡◌ {A = Outcome (List GeneralName)} (Err e) (Err d)
  h2 = ap Err (err_same e d (ap (λ (z : Outcome (List GeneralName)). z >>= λ names. Ok (or_first found (first_name names))) (sym is) ∙ h))

pub said_refused : (e : DerError) (found : Option SubjectAltName) (t : ℕ) (more rest bytes : List ℕ) → rest ≡ t ∷ more
    → read general_name_type.grammar rest ≡ Err e → SaidOn found rest bytes → many_of general_name_type.grammar bytes ≡ Err e
said_refused e found t more rest bytes is refused so =
    let g = general_name_type.grammar in
    let stops : many_of g rest ≡ Err e =
    ap (many_of g) is ∙ many-step g t more
    ∙ ap (λ (z : Outcome (GeneralName × List ℕ)). z >>= λ y. many_of g y.1 >>= λ xs. Ok (y.0 ∷ xs)) (ap (read g) (sym is) ∙ refused) in
    front_refused e found (many_of g rest) (many_of g bytes) so stops

found_alone : (found : Option SubjectAltName) → or_first found None ≡ found
found_alone None = refl
found_alone (Some name) = refl

pub said_all : (found : Option SubjectAltName) (rest bytes : List ℕ) → rest ≡ [] → SaidOn found rest bytes → first_of (many_of general_name_type.grammar bytes) ≡ Ok found
unfolding many_of many_at
said_all found rest bytes e so =
    let g = general_name_type.grammar in
    let none : many_of g rest ≡ Ok [] = rw e refl in
    sym so ∙ ap (λ (z : Outcome (List GeneralName)). z >>= λ names. Ok (or_first found (first_name names))) none ∙ ap Ok (found_alone found)
