-- A certificate that is judged once at each time that differs is judged at each time.
use Rattle.std.proofs.Common.{◌≡◌, inl, inr, ℕ, ◌+◌, ◌<◌, List, [], ◌∷◌, ◌++◌, length, drop, get_or, add-one, drop-cons, true, ◌||◌, Option, Result, Ok, Err, refl, sym, ap, subst, ◌∙◌}
use Rattle.std.specs.Prelude.{IfSome}
use Rattle.std.specs.List.{list_any}
use Rattle.std.specs.Ordering.{int_cmp, is_eq, match_ordering}
use Rattle.std.specs.declared.cmp.Ordering.{Ordering}
use Rattle.std.specs.declared.cmp.Ordering.TheVariants.{Less, Equal, Greater}
use Rattle.std.specs.BTreeMap.{is_at}
use Rattle.std.specs.BTreeSet.{insert_key}
use Rattle.std.proofs.lemmas.Cmp.{int_ranked}
use Rattle.foundation.specs.Steps.{◌>>=◌}
use Rattle.jiff_core.specs.declared.timestamp.Timestamp.{Timestamp}
use Rattle.sigstore_types_parts.specs.Instant.{at_nanosecond}
use Rattle.sigstore_types_parts.proofs.Instants.{at_nanosecond-nanosecond}
use Rattle.sigstore_certificate.specs.declared.error.CertificateRefusal.{CertificateRefusal}
use Rattle.sigstore_certificate.specs.Certified.{at_each}
use Rattle.sigstore_certificate.specs.Times.{IsIssuedAt, AreIssued, IsKept}

-- instants of one nanosecond are one
pub same_instant : (first second : Timestamp) → first.nanosecond ≡ second.nanosecond → first ≡ second
same_instant first second e = sym (at_nanosecond-nanosecond first) ∙ ap at_nanosecond e ∙ at_nanosecond-nanosecond second

-- from a place on stands what is there, and then what is behind it
first_of : (times : List Timestamp) (i : ℕ) (time : Timestamp) → i < length times → drop i times ≡ get_or times i time ∷ drop (i + 1) times
first_of times i time h = rw (add-one, drop-cons times i time h) refl

module _ (f : Timestamp → Result (List ℕ) CertificateRefusal) where
  -- ---- judging at each

  -- the key before the last time doesn't count
  same_key : (times : List Timestamp) (last : Timestamp) (first second : List ℕ) → at_each f (times ++ last ∷ []) first ≡ at_each f (times ++ last ∷ []) second
  same_key [] last first second = refl
  same_key (time ∷ times) last first second = refl

  -- a time at which there is a key is passed
  pub passed : (time : Timestamp) (times : List Timestamp) (last : Timestamp) → IsIssuedAt f time
      → at_each f ((time ∷ times) ++ last ∷ []) [] ≡ at_each f (times ++ last ∷ []) []
  passed time times last i = ap (λ r. r >>= at_each f (times ++ last ∷ [])) i.1 ∙ same_key times last i.0 []

  -- one at which there is none refuses
  pub refused : (time : Timestamp) (times : List Timestamp) (last : Timestamp) (e : CertificateRefusal) → f time ≡ Err e
      → at_each f ((time ∷ times) ++ last ∷ []) [] ≡ Err e
  refused time times last e h = ap (λ r. r >>= at_each f (times ++ last ∷ [])) h

  -- the last alone
  pub last_ok : (last : Timestamp) (key : List ℕ) → f last ≡ Ok key → at_each f (last ∷ []) [] ≡ Ok key
  last_ok last key h = ap (λ r. r >>= at_each f []) h

  pub last_err : (last : Timestamp) (e : CertificateRefusal) → f last ≡ Err e → at_each f (last ∷ []) [] ≡ Err e
  last_err last e h = ap (λ r. r >>= at_each f []) h

  -- ---- the times that were judged

  -- a time that is put among others, by its order with the first
  among : (m n : Timestamp) (times more : List Timestamp) (o : Ordering) → IsIssuedAt f m → AreIssued f (n ∷ times) → AreIssued f more
      → AreIssued f (match_ordering o (m ∷ n ∷ times) (n ∷ times) (n ∷ more))
  among m n times more Less i a rest = (i, a)
  among m n times more Equal i a rest = a
  among m n times more Greater i a rest = (a.0, rest)

  -- a time is put to those that were judged
  pub put : (cmp : Timestamp → Timestamp → Ordering) (times : List Timestamp) (m : Timestamp) → IsIssuedAt f m → AreIssued f times → AreIssued f (insert_key cmp times m)
  put cmp [] m i a = (i, tt)
  put cmp (n ∷ times) m i a = among m n times (insert_key cmp times m) (cmp m n) i a (put cmp times m i a.1)

  or_later : (m n : Timestamp) (times : List Timestamp) (o : Ordering) → int_cmp m.nanosecond n.nanosecond ≡ o
      → (is_eq o || list_any (is_at (λ n. int_cmp m.nanosecond n.nanosecond)) times) ≡ true → IsIssuedAt f n
      → (list_any (is_at (λ n. int_cmp m.nanosecond n.nanosecond)) times ≡ true → IsIssuedAt f m) → IsIssuedAt f m
  or_later m n times Less e h i later = later h
  or_later m n times Equal e h i later =
      subst (IsIssuedAt f) (sym (same_instant m n (int_ranked m.nanosecond n.nanosecond Equal (sym e)))) i
  or_later m n times Greater e h i later = later h

  -- at a time that was judged there is a key
  pub found : (m : Timestamp) (times : List Timestamp) → AreIssued f times → list_any (is_at (λ n. int_cmp m.nanosecond n.nanosecond)) times ≡ true → IsIssuedAt f m
  found m [] a h = cc
  found m (n ∷ times) a h = or_later m n times (int_cmp m.nanosecond n.nanosecond) refl h a.0 (λ k. found m times a.1 k)

  -- ---- the key at the last time

  -- what is kept is the last one's, where what was there and what was found is
  pub kept_right : (before found kept : Option (List ℕ)) (time last : Timestamp) → IsKept before found time last kept
      → IfSome before (λ key. f last ≡ Ok key) → IfSome found (λ key. f time ≡ Ok key) → IfSome kept (λ key. f last ≡ Ok key)
  kept_right before found kept time last (inl is) b n = subst (λ k. IfSome k (λ key. f last ≡ Ok key)) (sym is) b
  kept_right before found kept time last (inr is) b n =
      subst (λ k. IfSome k (λ key. f last ≡ Ok key)) (sym is.0) (subst (λ t. IfSome found (λ key. f t ≡ Ok key)) is.1 n)

  -- ---- a turn of the loop

  pub turned : (times : List Timestamp) (i : ℕ) (time last : Timestamp) → i < length times → time ≡ get_or times i time
      → at_each f (times ++ last ∷ []) [] ≡ at_each f (drop i times ++ last ∷ []) [] → IsIssuedAt f time
      → at_each f (times ++ last ∷ []) [] ≡ at_each f (drop (i + 1) times ++ last ∷ []) []
  turned times i time last less is e issued =
      e ∙ ap (λ l. at_each f (l ++ last ∷ []) []) (first_of times i time less ∙ ap (λ t. t ∷ drop (i + 1) times) (sym is))
      ∙ passed time (drop (i + 1) times) last issued
