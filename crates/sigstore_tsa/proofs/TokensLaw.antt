-- A token's time under authorities is given exactly where one of them stamped it.
use Rattle.std.proofs.Common.{◌≡◌, ◌⊎◌, inl, inr, ℕ, zero, suc, List, [], ◌∷◌, Bool, true, false, ◌||◌, if◌then◌else◌, Option, Some, None, Result, Ok, Err, refl, sym, ap, ◌∙◌, subst, arith}
use Rattle.std.specs.Prelude.{⊤, Contains}
use Rattle.std.specs.List.{list_any}
use Rattle.foundation.specs.Steps.{◌>>=◌}
use Rattle.foundation.specs.Results.{step_ok, ok_same, err_same, some_same}
use Rattle.jiff_core.specs.declared.timestamp.Timestamp.{Timestamp}
use Rattle.sigstore_types.specs.declared.authority.TsaAuthority.{TsaAuthority}
use Rattle.sigstore_keys.specs.Good.{Judge}
use Rattle.sigstore_tsa_parts.specs.declared.content.TokenContent.{TokenContent}
use Rattle.sigstore_tsa_parts.specs.declared.error.Error.{Error}
use Rattle.sigstore_tsa_parts.specs.declared.error.Error.TheVariants as refusal
use Rattle.sigstore_tsa_parts.specs.Error.{Judged}
use Rattle.sigstore_tsa.specs.declared.authorities.TokenFault.{TokenFault}
use Rattle.sigstore_tsa.specs.declared.authorities.TokenFault.TheVariants.{Invalid, OutsideValidity}
use Rattle.sigstore_tsa.specs.declared.stamp.Stamp.{Stamp}
use Rattle.sigstore_tsa.specs.Authorities.{is_accepted, is_of_window, is_outside, answered, under_any_of, any_or_invalid, first_accepting, first_or_none, token_time_of, token_authority_of, IsStamped, IsUnstamped, TokenMeans, TokensExactly, CountedIsStamped, RefusedTokens}
use Rattle.sigstore_tsa_parts.specs.Content.{token_content_of}
use Rattle.sigstore_tsa.specs.Stamp.{told_of, stamp_at, stamp_of, time_of}
use Rattle.sigstore_tsa.specs.Stamped.{under_of, stamped_of, Stamped, IsOutside, IsOf}
use Rattle.sigstore_tsa.proofs.StampedLaw.{stamped_exactly, outside_exactly, NotOutside, by_stamp, tells}

among_first : {A : Type 0} (x : A) (xs : List A) → Contains (x ∷ xs) x
among_first x xs = (0, omega arith, refl)

among_later : {A : Type 0} (x : A) (xs : List A) (y : A) → Contains xs y → Contains (x ∷ xs) y
among_later x xs y c = (suc c.0, omega (arith, c.1), c.2)

-- what stands in a list is its first, or stands in the rest
where_in : {A : Type 0} (x : A) (xs : List A) (y : A) → Contains (x ∷ xs) y → (y ≡ x) ⊎ Contains xs y
where_in x xs y (zero, below, is) = inl (sym is)
where_in x xs y (suc i, below, is) = inr (i, omega (arith, below), is)

or_true : (b : Bool) → (b || true) ≡ true
or_true true = refl
or_true false = refl

-- some of a list passes a test exactly where one that stands in it does
any_is : {A : Type 0} (test : A → Bool) (xs : List A) → list_any test xs ≡ true → (x : A) × Contains xs x × (test x ≡ true)
any_is {A} test [] h = cc
any_is {A} test (x ∷ xs) h = by (test x) refl h (any_is test xs)
  where
    by : (b : Bool) → test x ≡ b → (b || list_any test xs) ≡ true → (list_any test xs ≡ true → (y : A) × Contains xs y × (test y ≡ true))
        → (y : A) × Contains (x ∷ xs) y × (test y ≡ true)
    by true is k later = (x, among_first x xs, is)
    by false is k later = let l = later k in (l.0, among_later x xs l.0 l.1, l.2)

is_any : {A : Type 0} (test : A → Bool) (xs : List A) (x : A) → Contains xs x → test x ≡ true → list_any test xs ≡ true
is_any test [] x c h = absurd (omega (arith, c.1))
is_any test (y ∷ xs) x c h = elim (where_in y xs x c) [
  | inl here ↦ ap (λ b. b || list_any test xs) (ap test (sym here) ∙ h)
  | inr there ↦ ap (λ b. test y || b) (is_any test xs x there h) ∙ or_true (test y)
]

module _ (accepts : Judge) (token signature : List ℕ) where
  -- a token tells one time
  one_time : (a b : TsaAuthority) (s t : Timestamp) → IsOf accepts token signature a s → IsOf accepts token signature b t → s ≡ t
  one_time a b s t i j =
      let same : i.content ≡ j.content = ok_same i.content j.content (sym i.read ∙ j.read) in
      i.tells.time_is ∙ ap (λ (c : TokenContent). time_of c.info.gen_time) same ∙ sym j.tells.time_is

  module _ (stamp : Stamp) (is : stamp_of token signature ≡ Ok stamp) where
    whole : (authority : TsaAuthority) → stamped_of accepts token signature authority ≡ (under_of accepts stamp authority >>= λ _. Ok stamp.time)
    unfolding stamped_of
    whole authority = ap (λ r. r >>= λ stamp. under_of accepts stamp authority >>= λ _. Ok stamp.time) is

    accepted : (authority : TsaAuthority) (x : ⊤) → under_of accepts stamp authority ≡ Ok x → Stamped accepts token signature authority stamp.time
    accepted authority x h = (stamped_exactly accepts token signature authority stamp.time).0 (whole authority ∙ ap (λ r. r >>= λ _. Ok stamp.time) h)

    refused : (authority : TsaAuthority) (e : Error) → under_of accepts stamp authority ≡ Err e → stamped_of accepts token signature authority ≡ Err e
    refused authority e h = whole authority ∙ ap (λ r. r >>= λ _. Ok stamp.time) h

    not_stamped : (authority : TsaAuthority) (e : Error) → under_of accepts stamp authority ≡ Err e → (time : Timestamp) → Stamped accepts token signature authority time → ⊥
    not_stamped authority e h time s =
        let k = sym (refused authority e h) ∙ (stamped_exactly accepts token signature authority time).1 s in cc

    abbrev accepted_by : TsaAuthority → Bool
    accepted_by authority = is_accepted (under_of accepts stamp authority)

    abbrev outside_by : TsaAuthority → Bool
    outside_by authority = is_outside (under_of accepts stamp authority)

    -- ---- one of the authorities

    stamped_by : (authority : TsaAuthority) → accepted_by authority ≡ true → Stamped accepts token signature authority stamp.time
    stamped_by authority h = by (under_of accepts stamp authority) refl h
      where
        by : (r : Judged ⊤) → under_of accepts stamp authority ≡ r → is_accepted r ≡ true → Stamped accepts token signature authority stamp.time
        by (Ok x) is k = accepted authority x is
        by (Err e) is k = cc

    by_stamped : (authority : TsaAuthority) (time : Timestamp) → Stamped accepts token signature authority time → accepted_by authority ≡ true
    by_stamped authority time s = by (under_of accepts stamp authority) refl
      where
        by : (r : Judged ⊤) → under_of accepts stamp authority ≡ r → is_accepted r ≡ true
        by (Ok x) is = refl
        by (Err e) is = absurd (not_stamped authority e is time s)

    window_time : (e : Error) → is_of_window e ≡ true → (time : Timestamp) × (e ≡ refusal.TimestampOutsideValidity time)
    window_time (refusal.TimestampOutsideValidity time) h = (time, refl)
    window_time (refusal.Asn1 d) h = cc
    window_time (refusal.InvalidResponse d) h = cc
    window_time (refusal.SignatureVerificationError d) h = cc
    window_time (refusal.HashMismatch a b) h = cc
    window_time refusal.NoTstInfo h = cc
    window_time (refusal.CertificateValidationError d) h = cc
    window_time (refusal.Parse d) h = cc
    window_time refusal.NoMemory h = cc

    -- the time is the token's
    told_time : (authority : TsaAuthority) (time : Timestamp) → IsOf accepts token signature authority time → time ≡ stamp.time
    unfolding stamp_of
    told_time authority time i =
        let a = step_ok (token_content_of token) (λ content. told_of content signature >>= λ time. Ok (stamp_at content time)) stamp is in
        let b = step_ok (told_of a.0 signature) (λ time. Ok (stamp_at a.0 time)) stamp a.2 in
        let same : i.content ≡ a.0 = ok_same i.content a.0 (sym i.read ∙ a.1) in
        i.tells.time_is ∙ ap (λ (c : TokenContent). time_of c.info.gen_time) same ∙ sym (tells a.0 signature b.0 b.1).time_is
        ∙ ap (λ (s : Stamp). s.time) (ok_same (stamp_at a.0 b.0) stamp b.2)

    outside_at : (authority : TsaAuthority) → outside_by authority ≡ true → IsOutside accepts token signature authority stamp.time
    outside_at authority h = by (under_of accepts stamp authority) refl h
      where
        by : (r : Judged ⊤) → under_of accepts stamp authority ≡ r → is_outside r ≡ true → IsOutside accepts token signature authority stamp.time
        by (Ok x) is k = cc
        by (Err e) is k =
            let w = window_time e k in
            let o = (outside_exactly accepts token signature authority w.0).0 (refused authority e is ∙ ap Err w.1) in
            subst (IsOutside accepts token signature authority) (told_time authority w.0 o.is) o

    at_outside : (authority : TsaAuthority) (time : Timestamp) → IsOutside accepts token signature authority time → outside_by authority ≡ true
    at_outside authority time o = by (under_of accepts stamp authority) refl
      where
        by : (r : Judged ⊤) → under_of accepts stamp authority ≡ r → is_outside r ≡ true
        by (Ok x) is =
            let k = sym (whole authority ∙ ap (λ r. r >>= λ _. Ok stamp.time) is) ∙ (outside_exactly accepts token signature authority time).1 o in cc
        by (Err e) is =
            ap is_of_window (err_same e (refusal.TimestampOutsideValidity time) (sym (refused authority e is) ∙ (outside_exactly accepts token signature authority time).1 o))

    -- ---- some of them

    given : (authorities : List TsaAuthority) (time : Timestamp) → under_any_of accepts stamp authorities ≡ Ok time → IsStamped accepts token signature authorities time
    given authorities time h = by (list_any accepted_by authorities) refl (list_any outside_by authorities) h
      where
        by : (a : Bool) → list_any accepted_by authorities ≡ a → (w : Bool) → answered stamp.time a w ≡ Ok time → IsStamped accepts token signature authorities time
        by true is w k =
            let one = any_is accepted_by authorities is in
            record { authority = one.0; among = one.1; stamped = subst (Stamped accepts token signature one.0) (ok_same stamp.time time k) (stamped_by one.0 one.2) }
        by false is true k = cc
        by false is false k = cc

    gives : (authorities : List TsaAuthority) (one : TsaAuthority) (time : Timestamp) → Contains authorities one
        → Stamped accepts token signature one time → under_any_of accepts stamp authorities ≡ Ok stamp.time
    gives authorities one time c s =
        ap (λ a. answered stamp.time a (list_any outside_by authorities)) (is_any accepted_by authorities one c (by_stamped one time s))

    -- the first that accepts is one of them, and accepts
    first_is : (authorities : List TsaAuthority) (authority : TsaAuthority) → first_accepting accepts stamp authorities ≡ Some authority
        → Contains authorities authority × (accepted_by authority ≡ true)
    first_is [] authority h = cc
    first_is (first ∷ others) authority h = by (accepted_by first) refl h (first_is others authority)
      where
        by : (a : Bool) → accepted_by first ≡ a → (if a then Some first else first_accepting accepts stamp others) ≡ Some authority
            → (first_accepting accepts stamp others ≡ Some authority → Contains others authority × (accepted_by authority ≡ true))
            → Contains (first ∷ others) authority × (accepted_by authority ≡ true)
        by true is k later = let same : first ≡ authority = some_same first authority k in
            subst (λ a. Contains (first ∷ others) a × (accepted_by a ≡ true)) same (among_first first others, is)
        by false is k later = let l = later k in (among_later first others authority l.0, l.1)

    -- and it stamped the token at the time that is given
    counted : (authorities : List TsaAuthority) (time : Timestamp) (authority : TsaAuthority) → under_any_of accepts stamp authorities ≡ Ok time
        → first_accepting accepts stamp authorities ≡ Some authority → Contains authorities authority × Stamped accepts token signature authority time
    counted authorities time authority h f =
        let one = first_is authorities authority f in
        let is = given authorities time h in
        (one.0, subst (Stamped accepts token signature authority) (sym (told_time is.authority time is.stamped.is)) (stamped_by authority one.1))

    -- where none accepts
    says : (authorities : List TsaAuthority) (fault : TokenFault) → IsUnstamped accepts token signature authorities → under_any_of accepts stamp authorities ≡ Err fault
        → TokenMeans accepts token signature authorities fault
    says authorities fault u h = by (list_any accepted_by authorities) (list_any outside_by authorities) refl h
      where
        by : (a w : Bool) → list_any outside_by authorities ≡ w → answered stamp.time a w ≡ Err fault → TokenMeans accepts token signature authorities fault
        by true w is k = cc
        by false true is k =
            let one = any_is outside_by authorities is in
            subst (TokenMeans accepts token signature authorities) (err_same (OutsideValidity stamp.time) fault k)
            (u, record { authority = one.0; among = one.1; outside = outside_at one.0 one.2 })
        by false false is k =
            subst (TokenMeans accepts token signature authorities) (err_same Invalid fault k)
            (u, λ authority time among o. let j = sym (is_any outside_by authorities authority among (at_outside authority time o)) ∙ is in cc)

  -- ---- the whole

  module _ (authorities : List TsaAuthority) where
    abbrev whole_of : Judged Stamp → Result Timestamp TokenFault
    whole_of r = any_or_invalid accepts authorities r

    one_given : (r : Judged Stamp) → stamp_of token signature ≡ r → (time : Timestamp) → whole_of r ≡ Ok time → IsStamped accepts token signature authorities time
    one_given (Ok stamp) is time h = given stamp is authorities time h
    one_given (Err e) is time h = cc

    unread : (e : Error) → stamp_of token signature ≡ Err e → (authority : TsaAuthority) → stamped_of accepts token signature authority ≡ Err e
    unfolding stamped_of
    unread e is authority = ap (λ r. r >>= λ stamp. under_of accepts stamp authority >>= λ _. Ok stamp.time) is

    one_gives : (r : Judged Stamp) → stamp_of token signature ≡ r → (time : Timestamp) → IsStamped accepts token signature authorities time → whole_of r ≡ Ok time
    one_gives (Ok stamp) is time s =
        let g = gives stamp is authorities s.authority time s.among s.stamped in
        let other = given stamp is authorities stamp.time g in
        g ∙ ap Ok (one_time other.authority s.authority stamp.time time other.stamped.is s.stamped.is)
    one_gives (Err e) is time s =
        let k = sym (unread e is s.authority) ∙ (stamped_exactly accepts token signature s.authority time).1 s.stamped in cc

    unstamped : (r : Judged Stamp) → stamp_of token signature ≡ r → (fault : TokenFault) → whole_of r ≡ Err fault → IsUnstamped accepts token signature authorities
    unstamped r is fault h authority time among stamped =
        let k = sym h ∙ one_gives r is time (record { authority = authority; among = among; stamped = stamped }) in cc

    refused_so : (r : Judged Stamp) → stamp_of token signature ≡ r → (fault : TokenFault) → whole_of r ≡ Err fault → TokenMeans accepts token signature authorities fault
    refused_so (Ok stamp) is fault h = says stamp is authorities fault (unstamped (Ok stamp) is fault h) h
    refused_so (Err e) is fault h =
        subst (TokenMeans accepts token signature authorities) (err_same Invalid fault h) (
          unstamped (Err e) is fault h,
          λ authority time among o.
              let k = err_same e (refusal.TimestampOutsideValidity time) (sym (unread e is authority) ∙ (outside_exactly accepts token signature authority time).1 o) in
              subst NotOutside k (by_stamp token signature e is),
        )

pub tokens_exactly : TokensExactly
unfolding token_time_of
tokens_exactly accepts token signature authorities time = (
  one_given accepts token signature authorities (stamp_of token signature) refl time,
  one_gives accepts token signature authorities (stamp_of token signature) refl time,
)

pub tokens_counted : CountedIsStamped
unfolding token_time_of token_authority_of
tokens_counted accepts token signature authorities time authority h f = by (stamp_of token signature) refl h f
  where
    by : (r : Judged Stamp) → stamp_of token signature ≡ r → any_or_invalid accepts authorities r ≡ Ok time → first_or_none accepts authorities r ≡ Some authority
        → Contains authorities authority × Stamped accepts token signature authority time
    by (Ok stamp) is k g = counted accepts token signature stamp is authorities time authority k g
    by (Err e) is k g = cc

pub token_refused : RefusedTokens
unfolding token_time_of
token_refused accepts token signature authorities fault h = refused_so accepts token signature authorities (stamp_of token signature) refl fault h
