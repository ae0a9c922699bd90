-- Numbers that are written as texts are read as they were.
use lib.Signed.{mag}
use Rattle.std.proofs.Common.{◌≡◌, ◌<◌, ◌^◌, ◌==◌, ℕ, zero, suc, ℤ, pos, negsuc, neg_ℤ, List, [], ◌∷◌, slice_index, drop, Bool, true, false, cond, ◌&&◌, nat_lt, nat_le, decimal, ok_or, Option, Some, None, option_map, Result, Ok, Err, refl, sym, ap, subst, ◌∙◌, arith}
use Rattle.std.specs.Fmt.{signed_decimal}
use Rattle.std.specs.Char.{is_ascii_digit}
use Rattle.std.specs.Str.Parse.{digits_value, without_leading_plus, without_leading_sign, starts_with_minus}
use Rattle.std.proofs.lemmas.Bool.{false≢true, ne_eqb, ltb-true, lt-ltb, le-leb, cond-true}
use Rattle.std.proofs.lemmas.Fmt.{decimal_is_IsNumeral}
use Rattle.serde_json.specs.Data.{Data}
use Rattle.serde_json.specs.Find.{as_str}
use Rattle.foundation.specs.Steps.{◌>>=◌}
use Rattle.foundation.specs.Results.{step_ok, ok_same, some_same, no_both, and_true}
use Rattle.sigstore_types_parts.specs.Error.{name_of}
use Rattle.sigstore_types_parts.specs.declared.error.TypesError.{TypesError}
use Rattle.sigstore_types_parts.specs.declared.error.TypesError.TheVariants.{Json}
use Rattle.sigstore_types_parts.specs.declared.member.TypesMember.{TypesMember}
use Rattle.sigstore_entries.specs.Entry.{place, optional}
use Rattle.sigstore_entries.specs.Numbers.{are_digits, is_signed, unsigned_of, signed_of, unsigned_in, place_of, time_of, unless_zero, known_time_of, or_first}
use Rattle.sigstore_entries.specs.Laws.{TimeFits}
use Rattle.sigstore_entries.specs.Writing.{unsigned_data, signed_data, object_of}
use Rattle.sigstore_entries.specs.declared.log_index.LogIndex.{LogIndex}
use Rattle.sigstore_entries.specs.declared.time.Time.{Time}
use Rattle.sigstore_entries.proofs.Found.{written_at, OptionRead, optional_found, some_read, WasRead, WereRead, optional_was}
use Rattle.sigstore_entries.proofs.NumberFacts.{both, numeral_from}

-- ---- texts

-- a text of digits begins with no sign
not_first : (k : ℕ) (ds : List ℕ) → is_ascii_digit k ≡ false → are_digits ds ≡ true → (slice_index ds 0 == k) ≡ false
not_first k [] other h = cc h
not_first k (c ∷ cs) other h =
    let first = (and_true (is_ascii_digit c) _ (and_true _ _ h).1).0 in
    ne_eqb c k (λ is. false≢true (sym other ∙ sym (ap is_ascii_digit is) ∙ first))

-- the digits of a number
record AreDigitsOf (ds : List ℕ) (n : ℕ) : Type 0 where
  digits : are_digits ds ≡ true
  value : digits_value 10 ds ≡ n
  no_plus : without_leading_plus ds ≡ ds
  no_minus : starts_with_minus ds ≡ false

written : (n : ℕ) → n < 2 ^ 64 → AreDigitsOf (decimal n) n
written n h =
    let numeral = decimal_is_IsNumeral n h in
    let digits = numeral_from (decimal n) numeral.0 in
    record {
      digits = digits;
      value = numeral.1;
      no_plus = ap (λ b. drop (cond b 1 0) (decimal n)) (not_first 43 (decimal n) refl digits);
      no_minus = not_first 45 (decimal n) refl digits;
    }

unsigned_again : (n : ℕ) → n < 2 ^ 64 → unsigned_of (decimal n) ≡ Some n
unfolding unsigned_of
unsigned_again n h =
    let w = written n h in
    let ds = without_leading_plus (decimal n) in
    let value : digits_value 10 ds ≡ n = ap (digits_value 10) w.no_plus ∙ w.value in
    cond-true (are_digits ds && nat_lt (digits_value 10 ds) (2 ^ 64)) _ _
    (both _ _ (ap are_digits w.no_plus ∙ w.digits) (ap (λ v. nat_lt v (2 ^ 64)) value ∙ lt-ltb n (2 ^ 64) h))
    ∙ ap Some value

signed_again : (z : ℤ) → mag z < 2 ^ 63 → signed_of (signed_decimal z) ≡ Some z
unfolding signed_of
signed_again (pos n) h =
    let w = written n (omega arith) in
    let text = decimal n in
    let ds = without_leading_sign text in
    let rest : ds ≡ text = ap (λ b. cond b (drop 1 text) (without_leading_plus text)) w.no_minus ∙ w.no_plus in
    let value : digits_value 10 ds ≡ n = ap (digits_value 10) rest ∙ w.value in
    let fits : is_signed text ≡ true =
    ap (λ b. cond b (nat_le (digits_value 10 ds) (2 ^ 63)) (nat_lt (digits_value 10 ds) (2 ^ 63))) w.no_minus
    ∙ ap (λ v. nat_lt v (2 ^ 63)) value ∙ lt-ltb n (2 ^ 63) h in
    cond-true (are_digits ds && is_signed text) _ _ (both _ _ (ap are_digits rest ∙ w.digits) fits)
    ∙ ap (λ b. Some (cond b (neg_ℤ (pos (digits_value 10 ds))) (pos (digits_value 10 ds)))) w.no_minus
    ∙ ap (λ v. Some (pos v)) value
signed_again (negsuc n) h =
    let w = written (suc n) (omega arith) in
    let text = 45 ∷ decimal (suc n) in
    let fits : is_signed text ≡ true = ap (λ v. nat_le v (2 ^ 63)) w.value ∙ le-leb (suc n) (2 ^ 63) (omega arith) in
    cond-true (are_digits (decimal (suc n)) && is_signed text) _ _ (both _ _ w.digits fits)
    ∙ ap (λ v. Some (neg_ℤ (pos v))) w.value

-- ---- places

placed_back : (n : ℕ) → n < 2 ^ 63 → place_of (unsigned_data n) ≡ Ok (record { value = n })
unfolding place_of
placed_back n h =
    let chosen : ℕ → Result LogIndex TypesError = λ number. cond (nat_lt number (2 ^ 63)) (Ok (record { value = number })) (Err Json) in
    ap (λ o. ok_or o Json >>= chosen) (unsigned_again n (omega arith)) ∙ cond-true _ _ _ (lt-ltb n (2 ^ 63) h)

was_within : (test : Bool) (n : ℕ) (v : LogIndex) → cond test (Ok (record { value = n })) (Err Json) ≡ Ok v → (test ≡ true) × (n ≡ v.value)
was_within true n v h = (refl, ap (λ (p : LogIndex). p.value) (ok_same _ _ h))
was_within false n v h = no_both _ _ (sym h)

placed_was : (v : LogIndex) → WasRead place_of v → v.value < 2 ^ 63
unfolding place_of
placed_was v h =
    let number = step_ok (ok_or (unsigned_in (as_str h.from) h.from) Json) _ v h.was in
    let parts = was_within _ number.0 v number.2 in
    subst (λ n. n < 2 ^ 63) parts.1 (ltb-true number.0 (2 ^ 63) parts.0)

first_was : (v : Option LogIndex) → WereRead place_of v → (or_first v).value < 2 ^ 63
first_was None h = omega arith
first_was (Some v) h = placed_was v h

-- a place that was read is below 2^63
pub place_was : (m : TypesMember) (d : Data) (v : LogIndex) → place m d ≡ Ok v → v.value < 2 ^ 63
place_was m d v h =
    let found = step_ok (optional place_of m d) _ v h in
    subst (λ (p : LogIndex). p.value < 2 ^ 63) (ok_same _ _ found.2) (first_was found.0 (optional_was place_of m d found.0 found.1))

-- and is read where it is written
pub place_found : (m : TypesMember) (members : List (TypesMember × Option Data)) (n : ℕ) → written_at (name_of m) members ≡ Some (unsigned_data n) → n < 2 ^ 63
    → place m (object_of members) ≡ Ok (record { value = n })
place_found m members n is h =
    let back = some_read place_of (unsigned_data n) (record { value = n }) (record { back = placed_back n h; there = refl }) in
    ap (λ o. o >>= λ found. Ok (or_first found)) (optional_found place_of m members _ (Some (record { value = n })) is back)

-- ---- times

time_back : (z : ℤ) → mag z < 2 ^ 63 → time_of (signed_data z) ≡ Ok (record { seconds = z })
unfolding time_of
time_back z h =
    let chosen : ℤ → Result Time TypesError = λ seconds. Ok (record { seconds = seconds }) in
    ap (λ o. ok_or o Json >>= chosen) (signed_again z h)

nonzero_again : (y z : ℤ) → unless_zero y ≡ Some z → unless_zero z ≡ Some z
nonzero_again (pos zero) z h = cc h
nonzero_again (pos (suc n)) z h = subst (λ x. unless_zero x ≡ Some x) (some_same _ _ h) refl
nonzero_again (negsuc n) z h = subst (λ x. unless_zero x ≡ Some x) (some_same _ _ h) refl

known_again : (t : Option Time) (z : ℤ) → known_time_of t ≡ Some z → unless_zero z ≡ Some z
known_again None z h = cc h
known_again (Some t) z h = nonzero_again t.seconds z h

-- a time that was read is read where it is written
pub record TimeAgain (time : Option ℤ) : Type 0 where
  pub read : Option Time
  pub back : OptionRead time_of (option_map signed_data time) read
  pub known : known_time_of read ≡ time

pub time_again : (t : Option Time) (time : Option ℤ) → known_time_of t ≡ time → TimeFits time → TimeAgain time
time_again t None h fits = record { read = None; back = refl; known = refl }
time_again t (Some z) h fits = record {
  read = Some (record { seconds = z });
  back = some_read time_of (signed_data z) (record { seconds = z }) (record { back = time_back z fits; there = refl });
  known = known_again t z h;
}
