-- INTEGER from 0 up to a greatest number (X.690, 8.3).
use Rattle.std.specs.Prelude.{◌≡◌, ℕ, zero, suc, ◌+◌, ◌*◌, ◌/◌, ◌%◌, Bool}
use Rattle.std.specs.Prelude.{◌&&◌, nat_le, nat_lt, List, [], ◌∷◌, Ok, Err, if◌then◌else◌, refl}
use Rattle.std.specs.Str.{bytes_eq}
use Rattle.std.proofs.Common.{sym, subst, cond, eqb, leb, ◌≤◌, ◌∙◌, ap, arith, true, false}
use Rattle.std.proofs.lemmas.Bool.{eqb-true, le-leb}
use Rattle.std.proofs.lemmas.Slice.Eq.{bytes_eq-Decides}
use Rattle.der_grammar.specs.declared.error.DerError.TheVariants.{Value}
use Rattle.der_grammar.specs.Outcome.{Outcome}
use Rattle.der_grammar.specs.TlvLaws.{ok_is, passed}
use Rattle.der_grammar.specs.Types.{AsnType, primitive_type, refined_type}
use Rattle.der_grammar.specs.Tags.{integer_tag}
use Rattle.foundation.specs.Results.{and_true}
use Rattle.der_core.specs.Unsigned.{without_zeros, with_sign}

-- the number that octets write, the most significant first, behind a number
abbrev pub number_from : ℕ → List ℕ → ℕ
number_from n [] = n
number_from n (b ∷ bytes) = number_from (256 * n + b) bytes

-- the octets of a number, the last ones standing in front of others
abbrev pub octets_before : ℕ → ℕ → List ℕ → List ℕ
octets_before zero n others = n ∷ others
octets_before (suc k) n others = octets_before k (n / 256) (n % 256 ∷ others)

-- the shortest contents of a number below 2^64 (8.3.2): its octets without leading zeros, behind a zero where the first bit is set
unfoldable pub contents_of : ℕ → List ℕ
contents_of n = with_sign (without_zeros (octets_before 7 n []))

-- the number whose shortest contents these are, if it isn't above the greatest
unfoldable pub number_of : ℕ → List ℕ → Outcome ℕ
number_of greatest contents =
    if nat_le (number_from 0 contents) greatest && bytes_eq (contents_of (number_from 0 contents)) contents
    then Ok (number_from 0 contents) else Err Value

-- ---- laws

octets_again : (k n : ℕ) (others : List ℕ) → number_from 0 (octets_before k n others) ≡ number_from n others
octets_again zero n others = let e : 0 + n ≡ n = omega arith in ap (λ (z : ℕ). number_from z others) e
octets_again (suc k) n others =
    let e : 256 * (n / 256) + n % 256 ≡ n = omega arith in
    octets_again k (n / 256) (n % 256 ∷ others) ∙ subst (λ (z : ℕ). number_from (256 * (n / 256) + n % 256) others ≡ number_from z others) e refl

first_again : (a b : ℕ) (more : List ℕ) (t : Bool) → eqb a 0 ≡ t → number_from 0 (without_zeros (b ∷ more)) ≡ number_from 0 (b ∷ more)
    → number_from 0 (cond t (without_zeros (b ∷ more)) (a ∷ b ∷ more)) ≡ number_from 0 (a ∷ b ∷ more)
first_again a b more true e same =
    let zeroed : 0 ≡ 0 + a = let is = eqb-true a 0 e in omega (arith, is) in
    same ∙ ap (λ (z : ℕ). number_from z (b ∷ more)) zeroed
first_again a b more false e same = refl

zeros_again : (bytes : List ℕ) → number_from 0 (without_zeros bytes) ≡ number_from 0 bytes
zeros_again [] = refl
zeros_again (a ∷ []) = refl
zeros_again (a ∷ b ∷ more) = first_again a b more (eqb a 0) refl (zeros_again (b ∷ more))

signed_again : (a : ℕ) (more : List ℕ) (t : Bool) → number_from 0 (cond t (a ∷ more) (0 ∷ a ∷ more)) ≡ number_from 0 (a ∷ more)
signed_again a more true = refl
signed_again a more false = refl

sign_again : (bytes : List ℕ) → number_from 0 (with_sign bytes) ≡ number_from 0 bytes
sign_again [] = refl
sign_again (a ∷ more) = signed_again a more (nat_lt a 128)

pub number-again : (n : ℕ) → number_from 0 (contents_of n) ≡ n
unfolding contents_of
number-again n = sign_again (without_zeros (octets_before 7 n [])) ∙ zeros_again (octets_before 7 n []) ∙ octets_again 7 n []

pub contents-again : (greatest : ℕ) (contents : List ℕ) (n : ℕ) → number_of greatest contents ≡ Ok n → contents_of n ≡ contents
unfolding number_of
contents-again greatest contents n e =
    let p = passed (nat_le (number_from 0 contents) greatest && bytes_eq (contents_of (number_from 0 contents)) contents) Value
    (Ok (number_from 0 contents)) n e in
    let q = and_true (nat_le (number_from 0 contents) greatest) (bytes_eq (contents_of (number_from 0 contents)) contents) p.0 in
    let same = (bytes_eq-Decides (contents_of (number_from 0 contents)) contents).0 q.1 in
    subst (λ (z : ℕ). contents_of z ≡ contents) (ok_is (number_from 0 contents) n p.1) same

pub number-fixed : (greatest n other : ℕ) → number_of greatest (contents_of n) ≡ Ok other → other ≡ n
unfolding number_of
number-fixed greatest n other e =
    let m = number_from 0 (contents_of n) in
    let p = passed (nat_le m greatest && bytes_eq (contents_of m) (contents_of n)) Value (Ok m) other e in
    sym (ok_is m other p.1) ∙ number-again n

-- a number up to the greatest is read from its shortest contents
pub number-there : (greatest n : ℕ) → n ≤ greatest → number_of greatest (contents_of n) ≡ Ok n
unfolding number_of
number-there greatest n h =
    let e = number-again n in
    let below : leb n greatest ≡ true = le-leb n greatest h in
    let same : bytes_eq (contents_of n) (contents_of n) ≡ true = (bytes_eq-Decides (contents_of n) (contents_of n)).1 refl in
    rw e (rw (below, same) refl)

abbrev pub number_type : ℕ → AsnType ℕ
number_type greatest = refined_type (number_of greatest) contents_of (primitive_type integer_tag (λ c. true) refl)
    (contents-again greatest) (number-fixed greatest)
