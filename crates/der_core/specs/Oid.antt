-- OBJECT IDENTIFIER (X.690, 8.19), of at most 39 octets and with arcs below 2^32.
use Rattle.std.specs.Prelude.{ℕ, zero, suc, ◌+◌, ◌-◌, ◌*◌, ◌/◌, ◌%◌, Bool, false, ◌&&◌, ◌||◌, ◌==◌, nat_lt, not, List}
use Rattle.std.specs.Prelude.{[], ◌∷◌, ◌++◌, length, take, Option, Some, None, Ok, Err, is_ok, if◌then◌else◌, refl}
use Rattle.foundation.specs.Steps.{◌>>=◌}
use Rattle.der_grammar.specs.declared.error.DerError.TheVariants.{Value, Oid}
use Rattle.der_grammar.specs.Outcome.{Outcome}
use Rattle.der_grammar.specs.Types.{AsnType, primitive_type}
use Rattle.der_grammar.specs.Tags.{oid_tag}

-- ---- reading

-- the number of a group: seven bits an octet, bit 8 set in all but the last, at most five octets, and
-- no leading 128 (8.19.2)
unfoldable pub fifth_octet : ℕ → List ℕ → Outcome (ℕ × List ℕ)
fifth_octet v [] = Err Value
fifth_octet v (b ∷ bytes) = if nat_lt b 128 then Ok (128 * v + b, bytes) else Err Value

unfoldable pub fourth_octet : ℕ → List ℕ → Outcome (ℕ × List ℕ)
fourth_octet v [] = Err Value
fourth_octet v (b ∷ bytes) = if nat_lt b 128 then Ok (128 * v + b, bytes) else fifth_octet (128 * v + (b - 128)) bytes

unfoldable pub third_octet : ℕ → List ℕ → Outcome (ℕ × List ℕ)
third_octet v [] = Err Value
third_octet v (b ∷ bytes) = if nat_lt b 128 then Ok (128 * v + b, bytes) else fourth_octet (128 * v + (b - 128)) bytes

unfoldable pub second_octet : ℕ → List ℕ → Outcome (ℕ × List ℕ)
second_octet v [] = Err Value
second_octet v (b ∷ bytes) = if nat_lt b 128 then Ok (128 * v + b, bytes) else third_octet (128 * v + (b - 128)) bytes

unfoldable pub group_at : List ℕ → Outcome (ℕ × List ℕ)
group_at [] = Err Value
group_at (b ∷ bytes) = if nat_lt b 128 then Ok (b, bytes) else if b == 128 then Err Value else second_octet (b - 128) bytes

-- the first group is 40 times the first arc and the second; the first is 2 at most (8.19.4)
abbrev pub first_arcs : ℕ → Outcome (List ℕ)
first_arcs v =
    if nat_lt v 40 then Ok (0 ∷ v ∷ [])
    else if nat_lt v 80 then Ok (1 ∷ (v - 40) ∷ [])
    else if nat_lt v 4294967376 then Ok (2 ∷ (v - 80) ∷ [])
    else Err Value

abbrev pub one_arc : ℕ → Outcome ℕ
one_arc v = if nat_lt v 4294967296 then Ok v else Err Value

-- the arcs of at most n groups, up to the end
unfoldable pub later_at : ℕ → List ℕ → Outcome (List ℕ)
later_at n [] = Ok []
later_at zero (b ∷ bytes) = Err Value
later_at (suc n) (b ∷ bytes) = group_at (b ∷ bytes) >>= λ x. one_arc x.0 >>= λ arc. later_at n x.1 >>= λ arcs. Ok (arc ∷ arcs)

unfoldable pub later_arcs : List ℕ → Outcome (List ℕ)
later_arcs bytes = later_at (length bytes) bytes

-- the arcs that contents encode
unfoldable pub arcs_of : List ℕ → Outcome (List ℕ)
arcs_of contents = group_at contents >>= λ x. first_arcs x.0 >>= λ first. later_arcs x.1 >>= λ more. Ok (first ++ more)

unfoldable pub is_oid : List ℕ → Bool
is_oid contents = nat_lt (length contents) 40 && is_ok (arcs_of contents)

abbrev pub oid_type : AsnType (List ℕ)
oid_type = primitive_type oid_tag is_oid refl

-- the arcs of an identifier
abbrev pub arcs : List ℕ → List ℕ
arcs contents = or_none (arcs_of contents)
  where
    or_none : Outcome (List ℕ) → List ℕ
    or_none (Ok xs) = xs
    or_none (Err e) = []

-- ---- writing

unfoldable pub group_bytes : ℕ → List ℕ
group_bytes n =
    if nat_lt n 128 then n ∷ []
    else if nat_lt n 16384 then (128 + n / 128) ∷ (n % 128) ∷ []
    else if nat_lt n 2097152 then (128 + n / 16384) ∷ (128 + n / 128 % 128) ∷ (n % 128) ∷ []
    else if nat_lt n 268435456 then (128 + n / 2097152) ∷ (128 + n / 16384 % 128) ∷ (128 + n / 128 % 128) ∷ (n % 128) ∷ []
    else (128 + n / 268435456) ∷ (128 + n / 2097152 % 128) ∷ (128 + n / 16384 % 128) ∷ (128 + n / 128 % 128) ∷ (n % 128) ∷ []

abbrev pub groups_bytes : List ℕ → List ℕ
groups_bytes [] = []
groups_bytes (n ∷ ns) = group_bytes n ++ groups_bytes ns

abbrev pub arcs_bytes : List ℕ → List ℕ
arcs_bytes [] = []
arcs_bytes (a ∷ []) = []
arcs_bytes (a ∷ b ∷ more) = group_bytes (40 * a + b) ++ groups_bytes more

-- two arcs at least: the first is 0, 1 or 2, and the second below 40 where the first is 0 or 1
abbrev pub are_arcs : List ℕ → Bool
are_arcs [] = false
are_arcs (a ∷ []) = false
are_arcs (a ∷ b ∷ more) = nat_lt a 3 && (a == 2 || nat_lt b 40)

-- the identifier of arcs below 2^32
unfoldable pub oid_of : List ℕ → Outcome (List ℕ)
oid_of xs = if are_arcs xs then (if nat_lt (length (arcs_bytes xs)) 40 then Ok (arcs_bytes xs) else Err Oid) else Err Oid

-- ---- texts

abbrev pub is_digit : ℕ → Bool
is_digit c = nat_lt 47 c && nat_lt c 58

-- one character behind the number at hand, which is there if a digit of it was read: the arcs that it
-- ends, and the number at hand then. A decimal is shortest: no digit follows a leading 0.
abbrev pub one_character : Option ℕ → ℕ → Outcome (List ℕ × Option ℕ)
one_character None c = if is_digit c then Ok ([], Some (c - 48)) else Err Oid
one_character (Some v) c =
    if c == 46 then Ok (v ∷ [], None)
    else if is_digit c && not (v == 0) && nat_lt (10 * v + (c - 48)) 4294967296 then Ok ([], Some (10 * v + (c - 48)))
    else Err Oid

abbrev pub at_end : Option ℕ → Outcome (List ℕ)
at_end None = Err Oid
at_end (Some v) = Ok (v ∷ [])

-- shortest decimals below 2^32, joined by dots
unfoldable pub decimals : Option ℕ → List ℕ → Outcome (List ℕ)
decimals number [] = at_end number
decimals number (c ∷ text) = one_character number c >>= λ x. decimals x.1 text >>= λ more. Ok (x.0 ++ more)

unfoldable pub oid_of_text : List ℕ → Outcome (List ℕ)
oid_of_text text = decimals None text >>= oid_of

-- one arc less
abbrev pub without_last : List ℕ → List ℕ
without_last xs = take (length xs - 1) xs

abbrev pub if_ok : Outcome (List ℕ) → Option (List ℕ)
if_ok (Ok contents) = Some contents
if_ok (Err e) = None
