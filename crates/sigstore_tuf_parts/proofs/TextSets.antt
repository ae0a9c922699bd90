-- Lemmas on sets of borrowed texts.
use Rattle.std.proofs.Common.{◌≡◌, ℕ, List, [], ◌∷◌, map, Bool, true, false, cond, ◌||◌, bytes_eq, refl, sym, ap₂, ◌∙◌, Bor}
use Rattle.std.specs.List.{list_any}
use Rattle.std.specs.Ordering.{nat_cmp, is_eq}
use Rattle.std.specs.Cmp.Lexicographic.{slice_cmp}
use Rattle.std.proofs.lemmas.Cmp.{nat_list_eq_equiv}
use Rattle.std.proofs.lemmas.Map.Text.{is_eq-slice_cmp}
use Rattle.sigstore_tuf_parts.specs.Threshold.{is_among}

-- a look-up by the order finds what is among the texts
pub found-among : (text : List ℕ) (keys : List (Bor (List ℕ))) → list_any (λ k. is_eq (slice_cmp nat_cmp text k.now)) keys ≡ is_among (map (λ k. k.now) keys) text
found-among text [] = refl
found-among text (k ∷ keys) =
    ap₂ (λ a b. a || b) (is_eq-slice_cmp text k.now ∙ nat_list_eq_equiv.symm text k.now) (found-among text keys)

or_by : (a b : Bool) → cond a true b ≡ (a || b)
or_by true b = refl
or_by false b = refl

-- after an insertion the text is among them, and each other one as before
pub inserted : (text other : List ℕ) (keys more : List (Bor (List ℕ)))
    → list_any (λ k. is_eq (slice_cmp nat_cmp other k.now)) more
    ≡ cond (is_eq (slice_cmp nat_cmp text other)) true (list_any (λ k. is_eq (slice_cmp nat_cmp other k.now)) keys)
    → is_among (map (λ k. k.now) more) other ≡ (bytes_eq text other || is_among (map (λ k. k.now) keys) other)
inserted text other keys more is =
    sym (found-among other more)
    ∙ is
    ∙ or_by (is_eq (slice_cmp nat_cmp text other)) (list_any (λ k. is_eq (slice_cmp nat_cmp other k.now)) keys)
    ∙ ap₂ (λ a b. a || b) (is_eq-slice_cmp text other) (found-among other keys)
