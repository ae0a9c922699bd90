-- Lists that are read and written item by item.
use Rattle.std.proofs.Common.{◌≡◌, ℕ, suc, ◌+◌, ◌-◌, ◌<◌, List, [], ◌∷◌, ◌++◌, append_assoc, Ok, Err, refl, sym, ap, ◌∙◌, arith}
use Rattle.foundation.specs.Steps.{◌>>=◌}
use Rattle.trust_archive.specs.Grammar.{Reading, times_at}

-- these items, and then those that are read
abbrev pub behind : {A : Type 0} → List A → Reading (List A) → Reading (List A)
behind list (Ok x) = Ok (list ++ x.0, x.1)
behind list (Err e) = Err e

behind_first : {A : Type 0} (list : List A) (item : A) (r : Reading (List A)) → behind list (r >>= λ later. Ok (item ∷ later.0, later.1)) ≡ behind (list ++ item ∷ []) r
behind_first list item (Ok x) = ap (λ l. Ok (l, x.1)) (sym (append_assoc list (item ∷ []) x.0))
behind_first list item (Err e) = refl

module _ {A : Type 0} (reads : List ℕ → Reading A) where
  pub one_more : (n : ℕ) (list : List A) (item : A) (rest after : List ℕ) (whole : Reading (List A)) → reads rest ≡ Ok (item, after) → behind list (times_at reads (suc n) rest) ≡ whole
      → behind (list ++ item ∷ []) (times_at reads n after) ≡ whole
  one_more n list item rest after whole is h =
      sym (behind_first list item (times_at reads n after)) ∙ sym (ap (λ r. behind list (r >>= λ first. times_at reads n first.1 >>= λ later. Ok (first.0 ∷ later.0, later.1))) is) ∙ h

-- one item further
pub goes_on : {A : Type 0} (reads : List ℕ → Reading A) (count counter : ℕ) (list more : List A) (item : A) (rest after bytes : List ℕ) → counter < count → more ≡ list ++ item ∷ [] → reads rest ≡ Ok (item, after)
    → behind list (times_at reads (count - counter) rest) ≡ times_at reads count bytes → behind more (times_at reads (count - (counter + 1)) after) ≡ times_at reads count bytes
goes_on reads count counter list more item rest after bytes less is read h =
    let over : count - counter ≡ suc (count - (counter + 1)) = omega (arith, less) in
    ap (λ l. behind l (times_at reads (count - (counter + 1)) after)) is
    ∙ one_more reads (count - (counter + 1)) list item rest after (times_at reads count bytes) read (ap (λ n. behind list (times_at reads n rest)) (sym over) ∙ h)
