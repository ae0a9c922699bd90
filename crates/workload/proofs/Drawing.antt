-- Items one after the other.
use Rattle.std.proofs.Common.{◌≡◌, ℕ, suc, ◌+◌, ◌-◌, ◌<◌, List, [], ◌∷◌, ◌++◌, append_assoc, arith, sym, ◌∙◌, ap, refl}
use Rattle.workload.specs.Numbers.{next_number}
use Rattle.workload.specs.Drawn.{drawn_of, drawn_from}
use Rattle.workload.specs.declared.drawn.Drawn.{Drawn}

step : (items : List Drawn) (drawn : Drawn) (index number count : ℕ) → index < count → drawn ≡ drawn_of index (next_number number)
    → items ++ drawn_from index number (count - index)
    ≡ (items ++ drawn ∷ []) ++ drawn_from (index + 1) (next_number number) (count - (index + 1))
step items drawn index number count h d =
    let more : count - index ≡ suc (count - (index + 1)) = omega (arith, h) in
    let next : suc index ≡ index + 1 = omega arith in
    let rest = drawn_from (index + 1) (next_number number) (count - (index + 1)) in
    let one : drawn_from index number (count - index) ≡ drawn ∷ rest = rw (more, d, sym next) refl in
    ap (λ tail. items ++ tail) one ∙ sym (append_assoc items (drawn ∷ []) rest)

-- where one more is to come
pub drawn_more : (whole items items' : List Drawn) (drawn : Drawn) (index number number' count : ℕ) → index < count
    → number' ≡ next_number number → drawn ≡ drawn_of index number' → items' ≡ items ++ drawn ∷ []
    → whole ≡ items ++ drawn_from index number (count - index)
    → whole ≡ items' ++ drawn_from (index + 1) number' (count - (index + 1))
drawn_more whole items items' drawn index number number' count h n d p e =
    rw (p, n) (e ∙ step items drawn index number count h (d ∙ ap (drawn_of index) n))
