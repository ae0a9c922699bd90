-- In a ring in the ascending order of its ids, the first who signed is the least.
use Rattle.std.proofs.Common.{◌≡◌, ℕ, Bool, true, false, List, [], ◌∷◌, Option, Some, None, Less, if◌then◌else◌, refl, ap, ◌∙◌, subst}
use Rattle.std.specs.Prelude.{⊤}
use Rattle.std.specs.Ordering.{is_gt}
use Rattle.std.specs.List.{AllByRecursion}
use Rattle.std.specs.List.Sorted.{IsStrictlySortedBy}
use Rattle.std.specs.Map.{keys_of}
use Rattle.jiff_core.specs.declared.timestamp.Timestamp.{Timestamp}
use Rattle.sigstore_types_parts.specs.Entries.{text_cmp}
use Rattle.sigstore_keys.specs.declared.keyring.HeldKey.{HeldKey}
use Rattle.sigstore_keys.specs.Good.{Judge}
use Rattle.sigstore_keys.specs.Keyring.{Ring, is_signer, signers_of, lesser, least_of, least_signer_of}

abbrev Below : List ℕ → List ℕ → Type 0
Below first id = text_cmp first id ≡ Less

abbrev BelowIf : List ℕ → Option (List ℕ) → Type 0
BelowIf first None = ⊤
BelowIf first (Some id) = Below first id

of_lesser : (first : List ℕ) (a b : Option (List ℕ)) → BelowIf first a → BelowIf first b → BelowIf first (lesser a b)
of_lesser first None b p q = q
of_lesser first (Some x) None p q = p
of_lesser first (Some x) (Some y) p q = by (is_gt (text_cmp x y))
  where
    by : (b : Bool) → BelowIf first (if b then Some y else Some x)
    by true = q
    by false = p

below_least : (first : List ℕ) (ids : List (List ℕ)) → AllByRecursion (Below first) ids → BelowIf first (least_of ids)
below_least first [] all = tt
below_least first (id ∷ ids) all = of_lesser first (Some id) (least_of ids) all.0 (below_least first ids all.1)

stays : (first : List ℕ) (other : Option (List ℕ)) → BelowIf first other → lesser (Some first) other ≡ Some first
stays first None p = refl
stays first (Some id) p = ap (λ o. if is_gt o then Some id else Some first) p

module _ (accepts : Judge) (hint : List ℕ) (time : Timestamp) (message signature : List ℕ) where
  below_signers : (first : List ℕ) (ring : Ring) → AllByRecursion (Below first) (keys_of ring)
      → AllByRecursion (Below first) (signers_of accepts hint time message signature ring)
  below_signers first [] all = tt
  below_signers first (e ∷ ring) all = by (below_signers first ring all.1) (is_signer accepts hint time message signature e)
    where
      by : AllByRecursion (Below first) (signers_of accepts hint time message signature ring) → (b : Bool)
          → AllByRecursion (Below first)
          (if b then e.0 ∷ signers_of accepts hint time message signature ring else signers_of accepts hint time message signature ring)
      by rest true = (all.0, rest)
      by rest false = rest

  abbrev least : Ring → Option (List ℕ)
  least ring = least_signer_of accepts hint time message signature ring

  -- the first of what is left is the least of all
  pub least_found : (ring left rest : Ring) (id : List ℕ) (held : HeldKey) → IsStrictlySortedBy text_cmp (keys_of left) → least ring ≡ least left
      → left ≡ (id, held) ∷ rest → is_signer accepts hint time message signature (id, held) ≡ true → least ring ≡ Some id
  unfolding IsStrictlySortedBy
  least_found ring left rest id held sorted same step good =
      let tail : AllByRecursion (Below id) (keys_of rest) = (subst (λ r. IsStrictlySortedBy text_cmp (keys_of r)) step sorted).0 in
      same
      ∙ ap least step
      ∙ ap (λ b. least_of (if b then id ∷ signers_of accepts hint time message signature rest else signers_of accepts hint time message signature rest)) good
      ∙ stays id (least_of (signers_of accepts hint time message signature rest))
      (below_least id (signers_of accepts hint time message signature rest) (below_signers id rest tail))

  -- who didn't sign is passed over
  pub least_behind : (ring left rest : Ring) (id : List ℕ) (held : HeldKey) → least ring ≡ least left → left ≡ (id, held) ∷ rest
      → is_signer accepts hint time message signature (id, held) ≡ false → least ring ≡ least rest
  least_behind ring left rest id held same step bad =
      same
      ∙ ap least step
      ∙ ap (λ b. least_of (if b then id ∷ signers_of accepts hint time message signature rest else signers_of accepts hint time message signature rest)) bad

  pub sorted_behind : (left rest : Ring) (id : List ℕ) (held : HeldKey) → IsStrictlySortedBy text_cmp (keys_of left) → left ≡ (id, held) ∷ rest
      → IsStrictlySortedBy text_cmp (keys_of rest)
  unfolding IsStrictlySortedBy
  sorted_behind left rest id held sorted step = (subst (λ r. IsStrictlySortedBy text_cmp (keys_of r)) step sorted).1
