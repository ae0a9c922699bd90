-- The digests that rules need: each rule's are among them, and each has a hasher.
use Rattle.std.proofs.Common.{◌≡◌, List, [], ◌∷◌, ◌++◌, Bool, true, false, ◌||◌, ◌&&◌, if◌then◌else◌, Option, Some, None, Result, Ok, Err, IfOk, refl, sym, ap, ◌∙◌, subst}
use Rattle.std.specs.Prelude.{⊤}
use Rattle.std.specs.List.{AllZip, list_any, list_all}
use Rattle.foundation.specs.declared.no_memory.NoMemory.{NoMemory}
use Rattle.foundation.specs.Results.{and_true, no_both, ok_same}
use Rattle.sigstore_types_parts.specs.HashAlgorithm.{same_algorithm, with_algorithm}
use Rattle.sigstore_types_parts.specs.declared.hash_algorithm.HashAlgorithm.{HashAlgorithm}
use Rattle.sigstore_types.specs.declared.bundle.Bundle.{Bundle}
use Rattle.sigstore_keys.specs.Digest.{is_hashed}
use Rattle.sigstore_policy.specs.Policy.{Meaning}
use Rattle.sigstore_judgement.specs.declared.error.Error.{Error}
use Rattle.sigstore_judgement.specs.Artifact.{read_kind}
use Rattle.sigstore_judgement.specs.Judged.{Ready, prepared_of}
use Rattle.sigstore_judgement.specs.Rules.{with_each, or_none, with_needed, needed_from, needed_by_rules, AreHashed}
use Rattle.sigstore_judgement.proofs.KnownArtifact.{same_is, kept, added}
use Rattle.sigstore_judgement.proofs.Stages.{prepared_hashed}

-- each of a list is among others
abbrev pub AreAmong : List HashAlgorithm → List HashAlgorithm → Type 0
AreAmong list others = (a : HashAlgorithm) → list_any (same_algorithm a) list ≡ true → list_any (same_algorithm a) others ≡ true

pub kept_each : (list others : List HashAlgorithm) → AreAmong list (with_each list others)
kept_each list [] a h = h
kept_each list (b ∷ bs) a h = kept_each (with_algorithm list b) bs a (kept a b list h)

pub added_each : (list others : List HashAlgorithm) → AreAmong others (with_each list others)
added_each list [] a h = cc
added_each list (b ∷ bs) a h = by (same_algorithm a b) refl (added_each (with_algorithm list b) bs a) h
  where
    by : (t : Bool) → same_algorithm a b ≡ t
        → (list_any (same_algorithm a) bs ≡ true → list_any (same_algorithm a) (with_each list (b ∷ bs)) ≡ true)
        → (t || list_any (same_algorithm a) bs) ≡ true → list_any (same_algorithm a) (with_each list (b ∷ bs)) ≡ true
    by true is again k =
        kept_each (with_algorithm list b) bs a
        (subst (λ x. list_any (same_algorithm a) (with_algorithm list x) ≡ true) (same_is a b is) (added a list))
    by false other again k = again k

-- ---- each has a hasher

hashed_behind : (list : List HashAlgorithm) (b : HashAlgorithm) → list_all is_hashed list ≡ true → is_hashed b ≡ true → list_all is_hashed (list ++ b ∷ []) ≡ true
hashed_behind [] b h k = ap (λ t. t && true) k
hashed_behind (x ∷ xs) b h k =
    let both = and_true (is_hashed x) (list_all is_hashed xs) h in
    ap (λ t. t && list_all is_hashed (xs ++ b ∷ [])) both.0 ∙ hashed_behind xs b both.1 k

hashed_with : (list : List HashAlgorithm) (b : HashAlgorithm) → list_all is_hashed list ≡ true → is_hashed b ≡ true → list_all is_hashed (with_algorithm list b) ≡ true
hashed_with list b h k = by (list_any (same_algorithm b) list)
  where
    by : (t : Bool) → list_all is_hashed (if t then list else list ++ b ∷ []) ≡ true
    by true = h
    by false = hashed_behind list b h k

hashed_each : (list others : List HashAlgorithm) → list_all is_hashed list ≡ true → list_all is_hashed others ≡ true → list_all is_hashed (with_each list others) ≡ true
hashed_each list [] h k = h
hashed_each list (b ∷ bs) h k =
    let both = and_true (is_hashed b) (list_all is_hashed bs) k in
    hashed_each (with_algorithm list b) bs (hashed_with list b h both.0) both.1

module _ (bundle : Bundle) where
  abbrev prepared : Meaning → Result Ready Error
  prepared policy = prepared_of read_kind policy bundle

  hashed_before : (found : Option (List HashAlgorithm)) → AreHashed found → list_all is_hashed (or_none found) ≡ true
  hashed_before None h = refl
  hashed_before (Some list) h = h

  hashed_from : (found : Option (List HashAlgorithm)) (rules : List Meaning) → AreHashed found → AreHashed (needed_from bundle found rules)
  hashed_from found [] h = h
  hashed_from found (policy ∷ rules) h = hashed_from (with_needed found (prepared policy)) rules (by (prepared policy) refl)
    where
      by : (r : Result Ready Error) → prepared policy ≡ r → AreHashed (with_needed found r)
      by (Err e) p = h
      by (Ok ready) p = hashed_each (or_none found) ready.needed (hashed_before found h) (prepared_hashed read_kind policy bundle ready refl p)

  -- each that some rule needs has a hasher
  pub needed_hashed : (rules : List Meaning) → AreHashed (needed_by_rules bundle rules)
  needed_hashed rules = hashed_from None rules tt

  pub those_hashed : (rules : List Meaning) (result : Result (Option (List HashAlgorithm)) NoMemory)
      → IfOk result (λ needed. needed ≡ needed_by_rules bundle rules) → IfOk result AreHashed
  those_hashed rules (Ok needed) is = subst AreHashed (sym is) (needed_hashed rules)
  those_hashed rules (Err e) is = tt

  -- ---- each rule's are among them

  abbrev pub IsCovered : List HashAlgorithm → Meaning → Type 0
  IsCovered needed policy = (ready : Ready) → prepared policy ≡ Ok ready → AreAmong ready.needed needed

  abbrev pub AreCovered : List HashAlgorithm → List Meaning → Type 0
  AreCovered needed [] = ⊤
  AreCovered needed (policy ∷ rules) = IsCovered needed policy × AreCovered needed rules

  covered_from : (found : Option (List HashAlgorithm)) (rules : List Meaning) (needed : List HashAlgorithm) → needed_from bundle found rules ≡ Some needed
      → AreAmong (or_none found) needed × AreCovered needed rules
  covered_from found [] needed h = (λ a k. subst (λ o. list_any (same_algorithm a) (or_none o) ≡ true) h k, tt)
  covered_from found (policy ∷ rules) needed h = by (prepared policy) refl (covered_from (with_needed found (prepared policy)) rules needed h)
    where
      by : (r : Result Ready Error) → prepared policy ≡ r → AreAmong (or_none (with_needed found (prepared policy))) needed × AreCovered needed rules
          → AreAmong (or_none found) needed × (IsCovered needed policy × AreCovered needed rules)
      by (Err e) p rest =
          (subst (λ r. AreAmong (or_none (with_needed found r)) needed) p rest.0, (λ ready q. no_both ready e (sym q ∙ p), rest.1))
      by (Ok ready) p others =
          let among = subst (λ r. AreAmong (or_none (with_needed found r)) needed) p others.0 in
          let covered : IsCovered needed policy =
          λ other q a k. among a (added_each (or_none found) ready.needed a
          (subst (λ (x : Ready). list_any (same_algorithm a) x.needed ≡ true) (ok_same other ready (sym q ∙ p)) k)) in
          (λ a k. among a (kept_each (or_none found) ready.needed a k), (covered, others.1))

  pub needed_covers : (rules : List Meaning) (needed : List HashAlgorithm) → needed_by_rules bundle rules ≡ Some needed → AreCovered needed rules
  needed_covers rules needed h = (covered_from None rules needed h).1

  -- ---- none is needed where every rule refuses before the artifact

  abbrev pub AreUnprepared : List Meaning → List Error → Type 0
  AreUnprepared rules refusals = AllZip (λ policy e. prepared policy ≡ Err e) rules refusals

  unneeded_from : (found : Option (List HashAlgorithm)) (rules : List Meaning) → needed_from bundle found rules ≡ None
      → (found ≡ None) × (refusals : List Error) × AreUnprepared rules refusals
  unneeded_from found [] h = (h, [], tt)
  unneeded_from found (policy ∷ rules) h = by (prepared policy) refl (unneeded_from (with_needed found (prepared policy)) rules h)
    where
      some_none : (list : List HashAlgorithm) → Some list ≡ None → ⊥
      some_none list e = cc

      by : (r : Result Ready Error) → prepared policy ≡ r
          → (with_needed found (prepared policy) ≡ None) × (refusals : List Error) × AreUnprepared rules refusals
          → (found ≡ None) × (refusals : List Error) × AreUnprepared (policy ∷ rules) refusals
      by (Err e) p rest = (subst (λ r. with_needed found r ≡ None) p rest.0, e ∷ rest.1, (p, rest.2))
      by (Ok ready) p rest =
          absurd (some_none (with_each (or_none found) ready.needed) (subst (λ r. with_needed found r ≡ None) p rest.0))

  pub needed_none : (rules : List Meaning) → needed_by_rules bundle rules ≡ None → (refusals : List Error) × AreUnprepared rules refusals
  needed_none rules h = let u = unneeded_from None rules h in (u.1, u.2)
