-- What a sink took in pieces.
use Rattle.std.proofs.Common.{◌≡◌, ℕ, ◌+◌, List, ◌++◌, take, drop, Option, Some, None, refl, sym, ap, ◌∙◌, append_assoc}
use Rattle.std.proofs.Math.Seq.{take-add}
use Rattle.std.specs.Io.KnownBytes.{append_known}

append_twice : (o : Option (List ℕ)) (a b : List ℕ) → append_known (append_known o a) b ≡ append_known o (a ++ b)
append_twice None a b = refl
append_twice (Some xs) a b = ap Some (append_assoc xs a b)

-- the first pieces and then one more
pub append_more : (old mid new : Option (List ℕ)) (text rest : List ℕ) (at n : ℕ)
    → mid ≡ append_known old (take at text) → rest ≡ drop at text → new ≡ append_known mid (take n rest) → new ≡ append_known old (take (at + n) text)
append_more old mid new text rest at n p r q =
    q ∙ ap (λ o. append_known o (take n rest)) p ∙ append_twice old (take at text) (take n rest)
    ∙ ap (λ l. append_known old (take at text ++ take n l)) r ∙ ap (append_known old) (sym (take-add at n text))
